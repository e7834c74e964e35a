use Rattle.std.proofs.Common.{rules, ◌≡◌, ℕ, ◌-◌, ◌≤◌, List, [], ◌++◌, length, take, drop, arith, length-take, length-drop, append-nil, refl, sym, ap, ◌∙◌}
use Rattle.std.proofs.Math.ListN.{drop_of_length-le}
use borrow.Rule.Slice.PartMut.{put_mid, post_of}
use Rattle.pgw_wire.proofs.Taking.{took_consumed, took_kept, takes_then, takes_error}
use Rattle.pgw_copy.specs.declared.fault.CopyReadError.TheVariants.{Truncated, ReadFault}
use Rattle.pgw_copy.specs.Reader.{CutError, truncated, read_fault, IsShort}
use Rattle.pgw_copy.proofs.Reading.{short_later}
use Rattle.pgw_copy.proofs.filling.fill.Goals as goal

-- what came first, and the rest of a buffer
filled_rest : (n : ℕ) (xs ys : List ℕ) → n ≤ length xs → put_mid n (length xs - n) xs ys ≡ take n xs ++ ys
filled_rest n xs ys within =
    let none : post_of n (length xs - n) xs ≡ [] = drop_of_length-le (drop n xs) (omega (arith, within, length-drop n xs)) in
    ap (λ l. take n xs ++ (ys ++ l)) none ∙ ap (λ l. take n xs ++ l) (append-nil ys)

pub returns-in-Ok-2 : goal.returns-in-Ok-2
returns-in-Ok-2 g c = record {
  takes = let n = c.in-Ok.n in
      let buf = c.read.new.buf in
      let within : n ≤ length buf = omega (arith, c.in-Ok.ensures.within, c.read.auto.buf) in
      let first = took_consumed _ _ (take n buf) (λ taken. taken ≡ take n buf) (search rules) c.read.ensures.goes_on refl in
      takes_then _ _ first c.fill_by_reads.ensures.takes
      (λ _ x y e is. ap (λ l. l ++ y) e ∙ ap (λ l. take n buf ++ l) is ∙ sym (filled_rest n buf c.fill_by_reads.new.buf within))
      (λ d x y e. short_later d x y _ _ (omega (arith, ap length e, within, length-take n buf, length-take (length buf - n) (drop n buf), length-drop n buf, c.read.auto.buf)));
}

pub returns-in-Ok-eq0 : goal.returns-in-Ok-eq0
returns-in-Ok-eq0 g c = record {
  takes = takes_error Truncated _ _
      (took_consumed _ _ (take c.in-Ok-eq0.field-0 c.read.new.buf) (CutError (IsShort (length c.args.buf.now)) Truncated) (search rules) c.read.ensures.goes_on
      (truncated refl (omega (arith, c.requires, c.in-Ok-eq0.field-0-test, length-take c.in-Ok-eq0.field-0 c.read.new.buf))))
      (λ _. search rules)
      (λ h. absurd (cc));
}

pub returns-in-Err : goal.returns-in-Err
returns-in-Err g c = record {
  takes = takes_error ReadFault _ _
      (took_kept _ _ (CutError (IsShort (length c.args.buf.now)) ReadFault) (search rules) c.read.ensures.goes_on (read_fault refl (omega (arith, c.requires))))
      (λ h. absurd (cc))
      (λ _. c.in-Err.ensures.failed);
}
