use Rattle.std.proofs.Common.{◌≡◌, ◌∙◌, ◌++◌, ℕ, Option, Some, ap, refl}
use Rattle.std.specs.Int.{to_be_bytes, w16}
use Rattle.pgw_wire.proofs.Taking.{took_weaker, exit, takes_first, takes_done}
use Rattle.pgw_copy.proofs.reader.CopyReader.read_fields.Goals as goal

pending_is : (told : Option ℕ) (n count : ℕ) (old : Option ℕ) → told ≡ old → told ≡ Some n → old ≡ Some count → n ≡ count
pending_is told n count old value unwrapped was = cc

pub returns-in_err-take_fields : goal.returns-in_err-take_fields
returns-in_err-take_fields g c =
    let is = exit c.from_residual.result _ c.from_residual.ensures.1 in (
      (refl, (λ _. tt), rw is refl),
      record {
        takes = λ count was. let same : c.unwrap-count.result ≡ count = pending_is _ _ _ _ (c.pending.ensures ∙ ap (λ s. s.pending) c.self.view_is) c.unwrap-count.ensures was in takes_first _ _ is (rw same at c.in_err-take_fields.ensures.takes) (λ _ _ h. h);
        many = λ count was. rw is tt;
        reader = tt;
      },
    )

pub returns : goal.returns
returns g c = (
  (refl, (λ _. tt), refl),
  record {
    takes = λ count was. let same : c.unwrap-count.result ≡ count = pending_is _ _ _ _ (c.pending.ensures ∙ ap (λ s. s.pending) c.self.view_is) c.unwrap-count.ensures was in takes_done _ _ _ (took_weaker (c.in_ok-take_fields.ensures.takes.ok _ refl) (λ taken h. (h.0, h.1 ∙ ap (λ k. to_be_bytes w16 k ++ taken) same)));
    many = λ count was. let same : c.unwrap-count.result ≡ count = pending_is _ _ _ _ (c.pending.ensures ∙ ap (λ s. s.pending) c.self.view_is) c.unwrap-count.ensures was in c.in_ok-take_fields.ensures.many ∙ same;
    reader = tt;
  },
)
