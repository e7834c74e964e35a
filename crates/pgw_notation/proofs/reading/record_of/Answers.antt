use Rattle.std.proofs.Common.{Ok, ap}
use Rattle.pgw_notation.proofs.Kept.{record_kept, named_kept}
use Rattle.pgw_notation.proofs.reading.record_of.Goals as goal

pub returns-in-None : goal.returns-in-None
returns-in-None c = ap Ok (record_kept c.args.innermost c.push.new.self c.args.last c.in_ok-push.ensures.ok c.in-None.is)

pub returns-in_ok-new-in-Some : goal.returns-in_ok-new-in-Some
returns-in_ok-new-in-Some c =
    ap Ok (named_kept c.args.innermost c.push.new.self c.args.last c.in_ok-new-in-Some.field-0.value c.in-Some.key c.in_ok-push.ensures.ok c.in-Some.is c.in_ok-new-in-Some.ensures.ok)
