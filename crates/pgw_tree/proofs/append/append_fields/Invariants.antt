use Rattle.std.proofs.Common.{take}
use Rattle.pgw_meta.specs.NamedOids.{known_of}
use Rattle.pgw_meta.specs.Types.{column_shapes}
use Rattle.pgw_tree.specs.Appending.{AppendsFields}
use Rattle.pgw_tree.proofs.append.append_fields.Given as goal

-- The canonical fields of the columns so far were appended.
abbrev pub invariant-loop-column : goal.invariant-loop-column
invariant-loop-column l =
    AppendsFields (known_of l.columns.found.now) l.field_max (take l.column (column_shapes l.columns.types.now)) l.fn.fields l.rest l.fn.out.bytes l.out.bytes
