use Rattle.pgw_cell.specs.Plain.{ArePlainElements}
use Rattle.pgw_cell.proofs.plain.behind_each.Given as goal

abbrev pub invariant-loop-place : goal.invariant-loop-place
invariant-loop-place l = ArePlainElements l.element l._place l.fn.bytes l.null l.rest
