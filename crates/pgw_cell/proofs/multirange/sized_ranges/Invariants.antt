use Rattle.std.proofs.Common.{◌≡◌, ◌≤◌}
use Rattle.pgw_meta.specs.Shape.{range}
use Rattle.pgw_meta.specs.Types.{shape}
use Rattle.pgw_nested.specs.RangePieces.{ranges_of}
use Rattle.pgw_cell.specs.Cells.{canonical_size}
use Rattle.pgw_cell.specs.Written.{cells_read, sizes_read}
use Rattle.pgw_cell.proofs.multirange.sized_ranges.Given as goal

-- What was counted so far, with the ranges that are left, is the size of all.
abbrev pub invariant-loop-piece : goal.invariant-loop-piece
invariant-loop-piece l = record {
  small : l.total ≤ 4294967296;
  so_far : sizes_read (canonical_size (range (shape l.part))) l.total (cells_read (range (shape l.part)) (ranges_of l.pieces))
      ≡ sizes_read (canonical_size (range (shape l.part))) 4 (cells_read (range (shape l.part)) (ranges_of l.fn.pieces));
}

abbrev pub decreases-loop-piece : goal.decreases-loop-piece
decreases-loop-piece l = (ranges_of l.pieces).left
