use Rattle.std.proofs.Common.{◌∙◌, ℕ, List, sym, refl, subst}
use Rattle.std.proofs.lemmas.Result.{IfOk-weaker, IfErr-weaker}
use Rattle.pgw_copy.specs.Format.{IsCount}
use Rattle.pgw_copy.specs.Reader.{CountError, cut_count}
use Rattle.pgw_wire.proofs.Numbers.{whole_2}
use Rattle.pgw_wire.proofs.Taking.{exit, takes_first, takes_tested}
use Rattle.pgw_copy.proofs.Reading.{err_both}
use Rattle.pgw_copy.proofs.reader.take_count.Goals as goal

pub returns-in_err-fill : goal.returns-in_err-fill
returns-in_err-fill g c = record {
  takes = takes_first _ _ (exit c.from_residual.result _ c.from_residual.ensures.1) c.in_err-fill.ensures.takes (λ _ _ h. cut_count h);
}

pub returns : goal.returns
returns g c = record {
  takes = let whole = whole_2 _ _ _ (rw c.unwrap-count.ensures at c.take_u16.ensures.number) c.fill.auto.buf in
      let both = err_both c.count_of.result _ _ c.count_of.ensures.err c.count_of.ensures.known in
      takes_tested c.count_of.result _ _ (c.in_ok-fill.ensures.takes.ok _ refl)
      (IfOk-weaker c.count_of.result _ _ (λ count is bytes e. subst (λ (l : List ℕ). IsCount count l) (sym (e ∙ whole)) is) c.count_of.ensures.ok)
      (IfErr-weaker c.count_of.result _ _ (λ e k. ((λ bytes is. subst (λ (l : List ℕ). CountError e l) (sym (is ∙ whole)) k.0), k.1.0, k.1.1)) both);
}
