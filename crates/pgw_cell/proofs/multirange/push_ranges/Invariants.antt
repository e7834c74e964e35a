use Rattle.std.proofs.Common.{false}
use Rattle.pgw_meta.specs.Shape.{range}
use Rattle.pgw_meta.specs.Types.{shape}
use Rattle.pgw_nested.specs.RangePieces.{ranges_of}
use Rattle.pgw_cell.proofs.Rewriting.{LeftElements}
use Rattle.pgw_cell.proofs.Multiranges.{no_oids}
use Rattle.pgw_cell.proofs.multirange.push_ranges.Given as goal

abbrev pub invariant-loop-piece : goal.invariant-loop-piece
invariant-loop-piece l = LeftElements no_oids (range (shape l.part)) (ranges_of l.fn.pieces) (ranges_of l.pieces) l.fn.out l.out false

abbrev pub decreases-loop-piece : goal.decreases-loop-piece
decreases-loop-piece l = (ranges_of l.pieces).left
