use Rattle.std.proofs.Common.{◌++◌, refl, ap, sym, ◌∙◌, arith, append_assoc}
use Rattle.std.specs.Int.{to_be_bytes, w16}
use Rattle.pgw_copy.proofs.Reading.{row_of}
use Rattle.pgw_tree.proofs.PlainRows.{some_weaker}
use Rattle.pgw_tree.proofs.fields.behind_row.Goals as goal

pub returns-then-count-lt-NEGATIVE_COUNT-clause-some : goal.returns-then-count-lt-NEGATIVE_COUNT-clause-some
returns-then-count-lt-NEGATIVE_COUNT-clause-some c =
    let n = c.in_ok-count.count in
    let x = to_be_bytes w16 n in
    some_weaker c.behind_fields.result _ _ c.behind_fields.ensures.some (λ rest f. (
      x ++ f.1,
      (f.0, row_of n f.0 x f.1 (omega (arith, c.if-count-lt-NEGATIVE_COUNT.true), refl) f.2 f.3),
      c.in_ok-count.ensures.number ∙ ap (λ l. x ++ l) f.4 ∙ sym (append_assoc x f.1 rest.now),
    ))
