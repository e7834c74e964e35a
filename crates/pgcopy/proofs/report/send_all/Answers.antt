use Rattle.std.proofs.Common.{take_all, drop, suc, inl}
use Rattle.std.specs.List.{flat_map}
use Rattle.pgw_wire.proofs.Adding.{wrote_none}
use Rattle.pgcopy.proofs.Sending.{wrote_part, flat_map-cut}
use Rattle.pgcopy.proofs.report.send_all.Goals as goal

pub loop-piece-init : goal.loop-piece-init
loop-piece-init g c = wrote_none _

pub returns-then-send-piece : goal.returns-then-send-piece
returns-then-send-piece g c =
    let pieces = c.args.pieces.now in
    let k = c.loop-piece.piece-index in
    record {
      gained = wrote_part _ (flat_map (λ p. p.now) (drop (suc k) pieces)) _ c.send.result c.loop-piece.invariant c.send.ensures.wrote c.if-send-piece.true (c.send.ensures.failed c.if-send-piece.true) (flat_map-cut (λ p. p.now) pieces k _ c.loop-piece-test.true);
    }

pub returns : goal.returns
returns g c = record { gained = inl (rw (← take_all c.loop-piece.piece-index c.args.pieces.now c.loop-piece-test.false) c.loop-piece.invariant) }
