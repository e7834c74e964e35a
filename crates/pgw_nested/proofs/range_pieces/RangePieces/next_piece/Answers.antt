use Rattle.std.proofs.Common.{refl}
use Rattle.pgw_wire.proofs.Taking.{exit}
use Rattle.pgw_nested.proofs.range_pieces.RangePieces.next_piece.Goals as goal

pub returns-in_err-lower-in-Lower : goal.returns-in_err-lower-in-Lower
returns-in_err-lower-in-Lower c =
    let f = c.in_err-lower-in-Lower.ensures in
    rw (exit c.from_residual.result _ c.from_residual.ensures.1, c.in-Lower.is) ((f.1, f.0, f.2, f.3), refl)

pub returns-in_ok-lower-in-Lower : goal.returns-in_ok-lower-in-Lower
returns-in_ok-lower-in-Lower c = rw c.in-Lower.is (c.in_ok-lower-in-Lower.ensures, refl, refl)

pub returns-in_ok-upper-in-Upper : goal.returns-in_ok-upper-in-Upper
returns-in_ok-upper-in-Upper c = rw c.in-Upper.is (c.in_ok-upper-in-Upper.ensures, refl, refl)
