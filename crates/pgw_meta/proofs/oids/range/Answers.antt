use Rattle.pgw_meta.proofs.OtherTypes.{no_ranges}
use Rattle.pgw_meta.proofs.oids.range.Goals as goal

pub returns-in_default : goal.returns-in_default
returns-in_default c =
    let n = c.in_default in
    rw (c.both-in_default.ensures.oid, c.both-in_default.ensures.array_oid) (no_ranges c.args.part.now n.not-Int4 n.not-Int8 n.not-Numeric n.not-Date n.not-Timestamp n.not-Timestamptz).1
