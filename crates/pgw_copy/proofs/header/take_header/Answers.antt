use Rattle.std.proofs.Common.{◌≡◌, ℕ, List, refl, sym, subst}
use Rattle.pgw_copy.specs.Format.{IsFixedHeader}
use Rattle.pgw_copy.specs.Reader.{FixedError, refused_header}
use Rattle.pgw_copy.proofs.Headers.{header_of, short_header, short_extension, is_inside}
use Rattle.pgw_wire.proofs.Taking.{exit, takes_first, takes_then, takes_refused, took_weaker}
use Rattle.pgw_copy.proofs.header.take_header.Goals as goal

pub returns-in_err-fill : goal.returns-in_err-fill
returns-in_err-fill g c = record {
  takes = takes_first _ _ (exit c.from_residual.result _ c.from_residual.ensures.1) c.in_err-fill.ensures.takes short_header;
}

pub returns-in_err-extension : goal.returns-in_err-extension
returns-in_err-extension g c = record {
  takes = let fault = c.in_err-extension.ensures.err in
      takes_refused _ _ (exit c.from_residual-in_err-extension.result _ c.from_residual-in_err-extension.ensures.1)
      (took_weaker (c.in_ok-fill.ensures.takes.ok _ refl) (λ x is. refused_header (subst (λ (l : List ℕ). FixedError c.in_err-extension.field-0.0 l) (sym is) fault)))
      (λ h. absurd ((is_inside _ _ fault).0 h))
      (λ h. absurd ((is_inside _ _ fault).1 h));
}

pub returns : goal.returns
returns g c = record {
  takes = let at = λ (x : List ℕ) (is : x ≡ c.fill.new.buf). subst (λ (l : List ℕ). IsFixedHeader l c.in_ok-extension.extension) (sym is) c.in_ok-extension.ensures.ok in
      takes_then _ _ (c.in_ok-fill.ensures.takes.ok _ refl) c.pass_over.ensures.takes
      (λ _ x y is long. header_of x y c.in_ok-extension.extension (at x is) long)
      (λ d x y is. short_extension d x y c.in_ok-extension.extension (at x is));
}
