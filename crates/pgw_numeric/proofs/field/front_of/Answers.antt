use Rattle.std.proofs.Common.{true, false, ap, ◌∙◌, arith, take}
use Rattle.pgw_numeric.specs.Field.{sign_word}
use Rattle.pgw_numeric.proofs.Parts.{written, number_front}
use Rattle.pgw_numeric.proofs.field.front_of.Goals as goal

pub returns-in-Some-Positive-clause-read : goal.returns-in-Some-Positive-clause-read
returns-in-Some-Positive-clause-read c =
    let sign = c.in-Some-Positive.ensures.some ∙ ap sign_word c.in-Some-Positive.field-0-is in
    ap (λ n. written (take n c.args.piece.now)) c.size.ensures
    ∙ number_front c.args.piece.now c.in-Some.header _ false (λ i. omega (arith, c.type_inv.piece i)) c.in-Some.ensures.some sign

pub returns-in-Some-Negative-clause-read : goal.returns-in-Some-Negative-clause-read
returns-in-Some-Negative-clause-read c =
    let sign = c.in-Some-Negative.ensures.some ∙ ap sign_word c.in-Some-Negative.field-0-is in
    ap (λ n. written (take n c.args.piece.now)) c.size.ensures
    ∙ number_front c.args.piece.now c.in-Some.header _ true (λ i. omega (arith, c.type_inv.piece i)) c.in-Some.ensures.some sign
