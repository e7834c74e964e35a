-- The sum of the months does not fit.
use Rattle.std.proofs.Common.{rules, w32}
use Rattle.std.proofs.lemmas.Int.{to_z-of_z}
use mir.Val.{SFits}
use Rattle.pgw_time.proofs.interval.PgInterval.checked_add.Goals as goal

pub returns-in_err-months : goal.returns-in_err-months
returns-in_err-months c =
    let a : SFits w32 c.args.self.months = search rules in
    let b : SFits w32 c.args.other.months = search rules in
    rw c.from_residual-in_err-months.ensures (λ all. c.in_err-months.ensures (rw (to_z-of_z w32 c.args.self.months a, to_z-of_z w32 c.args.other.months b) all.2))
