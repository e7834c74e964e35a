use Rattle.std.proofs.Common.{◌≡◌, ◌+◌, ◌-◌, ◌∷◌, ap, ◌∙◌, sym, take, drop, arith}
use Rattle.pgw_notation.specs.Tokens.{tokens, word}
use Rattle.pgw_notation.proofs.FirstTokens.{run_in, run_at, run_ends, brackets_at, mark_at}
use Rattle.pgw_notation.proofs.tokens.token_at.Goals as goal

pub range-requires-clause-end_boundary : goal.range-requires-clause-end_boundary
range-requires-clause-end_boundary c =
    let first = c.in_ok-first.ensures.item.3 in
    let run = c.run_len.ensures in
    run_ends c.args.text.now c.args.place c.run_len.result c.utf8.text
    (run_in c.args.text.now c.as_bytes.result.now c.args.place c.run_len.result c.in_ok-first.field-0.now c.as_bytes.ensures.value run.within run.names run.longest first.0 (first.1 0) c.if-is_name_byte.ensures)

pub returns-then-is_name_byte-clause-token : goal.returns-then-is_name_byte-clause-token
returns-then-is_name_byte-clause-token c =
    let first = c.in_ok-first.ensures.item.3 in
    let run = c.run_len.ensures in
    let text = c.args.text.now in
    let place = c.args.place in
    let n = c.run_len.result in
    let width : place + n - place ≡ n = omega arith in
    run_at text place n (run_in text c.as_bytes.result.now place n c.in_ok-first.field-0.now c.as_bytes.ensures.value run.within run.names run.longest first.0 (first.1 0) c.if-is_name_byte.ensures)
    ∙ ap (λ name. word name ∷ tokens (drop (place + n) text)) (ap (λ k. take k (drop place text)) (sym width) ∙ sym c.range.ensures.value)

pub returns-then-starts_with-clause-token : goal.returns-then-starts_with-clause-token
returns-then-starts_with-clause-token c =
    brackets_at c.args.text.now c.as_bytes.result.now c.args.place c.as_bytes.ensures.value (sym c.starts_with.ensures.value ∙ c.if-starts_with.true)

pub returns-else-starts_with-clause-token : goal.returns-else-starts_with-clause-token
returns-else-starts_with-clause-token c =
    let first = c.in_ok-first.ensures.item in
    mark_at c.args.text.now c.as_bytes.result.now c.args.place c.in_ok-first.field-0.now c.as_bytes.ensures.value first.3.0 first.1 (sym c.if-is_name_byte.ensures) (sym c.starts_with.ensures.value ∙ c.if-starts_with.false)
    ∙ ap (λ t. t ∷ tokens (drop (c.args.place + 1) c.args.text.now)) (sym c.mark.ensures)
