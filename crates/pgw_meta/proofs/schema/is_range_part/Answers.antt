use Rattle.pgw_meta.proofs.OtherTypes.{no_ranges}
use Rattle.pgw_meta.proofs.schema.is_range_part.Goals as goal

pub returns-in_default : goal.returns-in_default
returns-in_default c = let n = c.in_default in (no_ranges c.args.t.now n.not-Int4 n.not-Int8 n.not-Numeric n.not-Date n.not-Timestamp n.not-Timestamptz).0
