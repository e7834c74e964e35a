use Rattle.std.proofs.Common.{Bool, refl, sym, ap, ◌∙◌}
use Rattle.pgw_nested.specs.Range.{bound_at, no_lower, lower_piece}
use Rattle.pgw_nested.proofs.range_pieces.take_lower.Goals as goal

pub returns-then-has : goal.returns-then-has
returns-then-has c = no_lower (sym c.has.ensures ∙ c.if-has.true) refl refl

pub returns-in-Ok : goal.returns-in-Ok
returns-in-Ok c =
    let f = c.in-Ok.ensures in
    lower_piece c.in-Ok.piece.now (sym c.has.ensures ∙ c.if-has.false) f.0 f.1 (c.bound_piece.ensures ∙ ap (λ (b : Bool). bound_at b c.in-Ok.piece.now) c.has-in-Ok.ensures)

pub returns-in-Err : goal.returns-in-Err
returns-in-Err c = (sym c.has.ensures ∙ c.if-has.false, c.in-Err.error, c.in-Err.ensures, c.range_error.ensures)
