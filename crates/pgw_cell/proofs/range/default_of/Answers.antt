use Rattle.pgw_cell.proofs.Counted.{no_ranges}
use Rattle.pgw_cell.proofs.range.default_of.Goals as goal

pub returns-in_default : goal.returns-in_default
returns-in_default c = no_ranges c.args.part.now c.in_default.not-Int4 c.in_default.not-Int8 c.in_default.not-Date c.in_default.not-Timestamp c.in_default.not-Timestamptz c.in_default.not-Numeric
