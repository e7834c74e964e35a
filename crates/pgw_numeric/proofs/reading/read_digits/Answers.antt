use Rattle.std.proofs.Common.{refl, ap, length, arith}
use Rattle.pgw_numeric.proofs.Parts.{digits_whole, on_error}
use Rattle.pgw_numeric.proofs.reading.read_digits.Goals as goal

-- The vector was made with room for all digits, so that none is refused.
pub unreachable-requires : goal.unreachable-requires
unreachable-requires c =
    let so_far = c.read.invariant in
    let full = on_error c.push.result _ c.push.ensures.full c.if-is_err.ensures.value in
    omega (arith, so_far.left, so_far.room, ap length c.in-Some.ensures.number, full)

pub returns : goal.returns
returns c =
    let so_far = c.read.invariant in
    digits_whole c.args.count c.args.bytes.now c.read.rest.now c.read.digits.items c.requires (c.in_default.ensures.none.0 refl) so_far.each so_far.is
