use Rattle.std.proofs.Common.{◌≤◌, ◌-◌, length, take}
use Rattle.pgw_wire.specs.Outside.{Wrote}
use Rattle.pgw_wire.proofs.sending.send.Given as goal

abbrev pub invariant-loop-sent : goal.invariant-loop-sent
invariant-loop-sent g l = record {
  within : l.sent ≤ length l.piece;
  wrote : Wrote (g.K.Sink.state l.fn.sink) (g.K.Sink.state l.sink) (take l.sent l.piece);
}

abbrev pub decreases-loop-sent : goal.decreases-loop-sent
decreases-loop-sent g l = length l.initial.piece - l.sent
