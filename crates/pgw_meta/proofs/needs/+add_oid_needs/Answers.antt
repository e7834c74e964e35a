use Rattle.std.proofs.Common.{ap}
use Rattle.pgw_meta.specs.Needs.{needed_keys, with_needs}
use Rattle.pgw_meta.proofs.OtherTypes.{needs_no_oid}
use Rattle.pgw_meta.proofs.needs.+add_oid_needs.Goals as goal

pub returns-in_default : goal.returns-in_default
returns-in_default t c =
    ap (with_needs (needed_keys c.args.needs.now))
    (needs_no_oid c.args.t.now c.in_default.not-Nullable c.in_default.not-Array c.in_default.not-Named)
