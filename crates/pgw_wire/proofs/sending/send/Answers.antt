use Rattle.std.proofs.Common.{rules}
use Rattle.std.proofs.lemmas.List.{take_rest}
use Rattle.pgw_wire.proofs.Adding.{wrote_front, wrote_more, wrote_none}
use Rattle.pgw_wire.proofs.sending.send.Goals as goal

pub loop-sent-init : goal.loop-sent-init
loop-sent-init g c = record {
  within = search rules;
  wrote = wrote_none _;
}

pub loop-sent-preserved : goal.loop-sent-preserved
loop-sent-preserved g c = record {
  within = search rules;
  wrote = wrote_more c.args.piece.now c.loop-sent.sent c.in-Ok.n c.loop-sent.invariant.wrote (wrote_front _ _ c.in-Ok.n c.in-Ok.ensures.within (take_rest c.args.piece.now c.loop-sent.sent) c.in-Ok.ensures.gained c.in-Ok.ensures.settled c.in-Ok.ensures.goes_on);
}
