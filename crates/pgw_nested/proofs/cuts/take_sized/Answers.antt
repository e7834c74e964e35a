use Rattle.std.proofs.Common.{ap, inl}
use Rattle.pgw_wire.specs.declared.sql_error.SqlError.TheVariants.{NegativeSize}
use Rattle.pgw_nested.proofs.Cut.{told_again}
use Rattle.pgw_nested.proofs.cuts.take_sized.Goals as goal

pub returns-then-len-ge-NEGATIVE : goal.returns-then-len-ge-NEGATIVE
returns-then-len-ge-NEGATIVE c =
    inl (c.if-len-ge-NEGATIVE.true, ap NegativeSize (told_again c.args.len c.cast_signed.result c.ranges.len.fits c.cast_signed.ensures))
