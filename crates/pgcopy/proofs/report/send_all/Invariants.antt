use Rattle.std.proofs.Common.{take}
use Rattle.std.specs.List.{flat_map}
use Rattle.pgw_wire.specs.Outside.{Wrote}
use Rattle.pgcopy.proofs.report.send_all.Given as goal

-- the pieces so far were sent
abbrev pub invariant-loop-piece : goal.invariant-loop-piece
invariant-loop-piece g l = Wrote (g.N.Sink.state l.fn.notes) (g.N.Sink.state l.notes) (flat_map (λ p. p.now) (take l.piece-index l.pieces))
