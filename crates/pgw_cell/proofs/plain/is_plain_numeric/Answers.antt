use Rattle.std.proofs.Common.{true, false, ap, ◌∙◌, arith, length}
use Rattle.std.proofs.lemmas.Bool.{eqb-true}
use Rattle.pgw_numeric.specs.Field.{sign_word}
use Rattle.pgw_cell.proofs.Numerics.{whole_number}
use Rattle.pgw_cell.proofs.plain.is_plain_numeric.Goals as goal

pub returns-in-Some-Positive : goal.returns-in-Some-Positive
returns-in-Some-Positive c = λ e.
    let sign = c.in-Some-Positive.ensures.some ∙ ap sign_word c.in-Some-Positive.field-0-is in
    whole_number c.args.piece.now c.in-Some.header c.in-Some.field-0-1.now false (λ i. omega (arith, c.type_inv.piece i)) c.in-Some.ensures.some sign
    (eqb-true (length c.args.piece.now) c.size.result e ∙ c.size.ensures)

pub returns-in-Some-Negative : goal.returns-in-Some-Negative
returns-in-Some-Negative c = λ e.
    let sign = c.in-Some-Negative.ensures.some ∙ ap sign_word c.in-Some-Negative.field-0-is in
    whole_number c.args.piece.now c.in-Some.header c.in-Some.field-0-1.now true (λ i. omega (arith, c.type_inv.piece i)) c.in-Some.ensures.some sign
    (eqb-true (length c.args.piece.now) c.size-in-Some-Negative.result e ∙ c.size-in-Some-Negative.ensures)
