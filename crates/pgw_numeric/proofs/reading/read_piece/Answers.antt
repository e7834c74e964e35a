use Rattle.std.proofs.Common.{arith, true, false, ap, ◌∙◌}
use Rattle.pgw_numeric.specs.Field.{sign_word}
use Rattle.pgw_numeric.proofs.Parts.{number_read, nan_read, number_wanted}
use Rattle.pgw_numeric.proofs.reading.read_piece.Goals as goal

pub returns-in_err-read_digits-in-Some-Positive-clause-memory : goal.returns-in_err-read_digits-in-Some-Positive-clause-memory
returns-in_err-read_digits-in-Some-Positive-clause-memory c =
    let sign = c.in-Some-Positive.ensures.some ∙ ap sign_word c.in-Some-Positive.field-0-is in
    λ memory. number_wanted c.args.piece.now c.in-Some.header c.in-Some.bytes.now false (λ i. omega (arith, c.type_inv.piece i)) c.in-Some.ensures.some sign

pub returns-in_err-read_digits-in-Some-Negative-clause-memory : goal.returns-in_err-read_digits-in-Some-Negative-clause-memory
returns-in_err-read_digits-in-Some-Negative-clause-memory c =
    let sign = c.in-Some-Negative.ensures.some ∙ ap sign_word c.in-Some-Negative.field-0-is in
    λ memory. number_wanted c.args.piece.now c.in-Some.header c.in-Some.bytes.now true (λ i. omega (arith, c.type_inv.piece i)) c.in-Some.ensures.some sign

pub returns-in_ok-read_digits-in-Some-Positive-clause-answers : goal.returns-in_ok-read_digits-in-Some-Positive-clause-answers
returns-in_ok-read_digits-in-Some-Positive-clause-answers c =
    let sign = c.in-Some-Positive.ensures.some ∙ ap sign_word c.in-Some-Positive.field-0-is in
    number_read c.args.piece.now c.in-Some.header c.in-Some.bytes.now 0 _ c.in-Some.ensures.some sign c.in_ok-read_digits-in-Some-Positive.ensures

pub returns-in_ok-read_digits-in-Some-Negative-clause-answers : goal.returns-in_ok-read_digits-in-Some-Negative-clause-answers
returns-in_ok-read_digits-in-Some-Negative-clause-answers c =
    let sign = c.in-Some-Negative.ensures.some ∙ ap sign_word c.in-Some-Negative.field-0-is in
    number_read c.args.piece.now c.in-Some.header c.in-Some.bytes.now 0x4000 _ c.in-Some.ensures.some sign c.in_ok-read_digits-in-Some-Negative.ensures

pub returns-in-Some-NaN-clause-answers : goal.returns-in-Some-NaN-clause-answers
returns-in-Some-NaN-clause-answers c =
    let sign = c.in-Some-NaN.ensures.some ∙ ap sign_word c.in-Some-NaN.field-0-is in
    nan_read c.args.piece.now c.in-Some.header c.in-Some.bytes.now (λ i. omega (arith, c.type_inv.piece i)) c.in-Some.ensures.some sign
