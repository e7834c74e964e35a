use Rattle.pgw_meta.specs.NamedOids.{known_of}
use Rattle.pgw_meta.specs.Types.{shape}
use Rattle.pgw_nested.specs.Pieces.{elements_of}
use Rattle.pgw_cell.proofs.Rewriting.{LeftElements}
use Rattle.pgw_cell.proofs.rewrite.+rewriting.Given as goal

abbrev pub invariant-push_elements-loop-cell : goal.invariant-push_elements-loop-cell
invariant-push_elements-loop-cell l = LeftElements (known_of l.found) (shape l.element) (elements_of l.fn.pieces) (elements_of l.pieces) l.fn.out l.out l.null

abbrev pub decreases-push_elements-loop-cell : goal.decreases-push_elements-loop-cell
decreases-push_elements-loop-cell l = (elements_of l.pieces).left
