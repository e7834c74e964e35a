use Rattle.std.proofs.Common.{◌≡◌, take}
use Rattle.pgw_meta.specs.NamedOids.{known_of}
use Rattle.pgw_meta.specs.Types.{column_shapes}
use Rattle.pgw_tree.specs.ColumnTypes.{plain_cells}
use Rattle.pgw_tree.proofs.columns.plain_cells_of.Given as goal

abbrev pub invariant-loop-place : goal.invariant-loop-place
invariant-loop-place l = l.cells.items ≡ plain_cells (known_of l.found) (take l._place (column_shapes l.types))
