use Rattle.std.proofs.Common.{◌≡◌, drop}
use Rattle.pgw_meta.specs.Types.{column_shapes}
use Rattle.pgw_meta.specs.Schema.{columns_fault}
use Rattle.pgw_meta.proofs.schema.check_columns.Given as goal

-- The first fault of the columns that are left is that of all.
abbrev pub invariant-loop-column : goal.invariant-loop-column
invariant-loop-column l =
    columns_fault l.column (column_shapes (drop l.column l.columns)) ≡ columns_fault 0 (column_shapes l.columns)
