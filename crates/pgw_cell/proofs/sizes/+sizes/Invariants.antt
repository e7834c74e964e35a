use Rattle.std.proofs.Common.{◌≡◌, ◌≤◌}
use Rattle.pgw_meta.specs.Types.{shape}
use Rattle.pgw_nested.specs.Pieces.{elements_of}
use Rattle.pgw_cell.specs.Cells.{canonical_size}
use Rattle.pgw_cell.specs.Written.{cells_read, sizes_read}
use Rattle.pgw_cell.proofs.sizes.+sizes.Given as goal

-- What was counted so far, with the elements that are left, is the size of all.
abbrev pub invariant-sized_elements-loop-cell : goal.invariant-sized_elements-loop-cell
invariant-sized_elements-loop-cell l = record {
  small : l.total ≤ 4294967296;
  so_far : sizes_read (canonical_size (shape l.element)) l.total (cells_read (shape l.element) (elements_of l.pieces))
      ≡ sizes_read (canonical_size (shape l.element)) 20 (cells_read (shape l.element) (elements_of l.fn.pieces));
}

abbrev pub decreases-sized_elements-loop-cell : goal.decreases-sized_elements-loop-cell
decreases-sized_elements-loop-cell l = (elements_of l.pieces).left
