use Rattle.pgw_meta.specs.Types.{shape}
use Rattle.pgw_nested.specs.Pieces.{elements_of}
use Rattle.pgw_meta.specs.Shape.{range}
use Rattle.pgw_nested.specs.RangePieces.{ranges_of}
use Rattle.pgw_cell.specs.Data.{data_of, values_of, range_values}
use Rattle.pgw_cell.proofs.ReadArrays.{ReadSoFar}
use Rattle.pgw_cell.proofs.read.+reading.Given as goal

abbrev pub invariant-read_elements-loop-cell : goal.invariant-read_elements-loop-cell
invariant-read_elements-loop-cell l = ReadSoFar (shape l.element) (elements_of l.fn.pieces) (elements_of l.pieces) (values_of (data_of l.list))

abbrev pub decreases-read_elements-loop-cell : goal.decreases-read_elements-loop-cell
decreases-read_elements-loop-cell l = (elements_of l.pieces).left

abbrev pub invariant-read_ranges-loop-piece : goal.invariant-read_ranges-loop-piece
invariant-read_ranges-loop-piece l = ReadSoFar (range (shape l.part)) (ranges_of l.fn.pieces) (ranges_of l.pieces) (range_values l.list)

abbrev pub decreases-read_ranges-loop-piece : goal.decreases-read_ranges-loop-piece
decreases-read_ranges-loop-piece l = (ranges_of l.pieces).left
