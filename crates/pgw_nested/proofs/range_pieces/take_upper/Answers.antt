use Rattle.std.proofs.Common.{Bool, refl, sym, ap, ◌∙◌}
use Rattle.std.specs.Int.{w32, to_be_bytes}
use Rattle.pgw_wire.proofs.Taking.{exit}
use Rattle.pgw_nested.specs.Range.{bound_at, no_upper, upper_piece}
use Rattle.pgw_nested.proofs.range_pieces.take_upper.Goals as goal

pub returns-then-has : goal.returns-then-has
returns-then-has c = no_upper (sym c.has.ensures ∙ c.if-has.true) refl

pub returns-in_err-_len : goal.returns-in_err-_len
returns-in_err-_len c =
    let f = c.in_err-_len.ensures in
    rw (exit c.from_residual.result _ c.from_residual.ensures.1) (sym c.has.ensures ∙ c.if-has.false, f.1, f.0)

pub returns : goal.returns
returns c =
    let f = c.in_ok-_len.ensures in
    upper_piece (to_be_bytes w32 c.in_ok-_len._len) c.in_ok-_len.piece.now (sym c.has.ensures ∙ c.if-has.false) refl f.0 (c.bound_piece.ensures ∙ ap (λ (b : Bool). bound_at b c.in_ok-_len.piece.now) c.has-2.ensures)
