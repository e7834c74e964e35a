use Rattle.std.proofs.Common.{◌≡◌, ◌≤◌, ◌+◌, ◌++◌, length}
use Rattle.pgw_wire.specs.Outside.{Took}
use Rattle.pgw_copy.proofs.taken.TakenBytes.take.Given as goal

abbrev pub invariant-loop-left : goal.invariant-loop-left
invariant-loop-left g l = record {
  within : l.left ≤ l.len;
  took : Took (g.S.Source.state l.fn.source) (g.S.Source.state l.source) (λ taken. (length taken + l.left ≡ l.len) × (l.self ≡ l.fn.self ++ taken));
  grown : length l.self + l.left ≡ length l.fn.self + l.len;
}

abbrev pub decreases-loop-left : goal.decreases-loop-left
decreases-loop-left g l = l.left
