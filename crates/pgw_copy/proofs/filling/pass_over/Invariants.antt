use Rattle.std.proofs.Common.{◌≡◌, ◌≤◌, ◌+◌, length}
use Rattle.pgw_wire.specs.Outside.{Took}
use Rattle.pgw_copy.proofs.filling.pass_over.Given as goal

abbrev pub invariant-loop-left : goal.invariant-loop-left
invariant-loop-left g l = record {
  chunk : length l.chunk ≡ 512;
  within : l.left ≤ l.len;
  took : Took (g.S.Source.state l.fn.source) (g.S.Source.state l.source) (λ taken. length taken + l.left ≡ l.len);
}

abbrev pub decreases-loop-left : goal.decreases-loop-left
decreases-loop-left g l = l.left
