-- What stands behind the front of an option, and the number that its digits write.
use Rattle.std.proofs.Common.{◌≡◌, ◌≢◌, ℕ, ◌<◌, ◌≤◌, ◌^◌, List, ◌++◌, length, drop, Option, None, Some, option_map, Ok, Err, true, false, Bor, refl, sym, ap, ◌∙◌, arith, rules, ⊎_elim, ◌==◌}
use Rattle.std.proofs.lemmas.Bool.{cases_Bool, lt-ltb, le-leb, false_from_ne_true}
use Rattle.std.proofs.lemmas.Bool.Decides.{Decides-eqb}
use Rattle.std.proofs.lemmas.Slice.Eq.{starts_is, bytes_eq-Decides}
use Rattle.std.proofs.lemmas.Str.Pattern.{starts_text}
use Rattle.std.proofs.lemmas.Str.Parse.{IsNumeralModel, numerals_by_value, tells_all_ascii_digits, parse_plain}
use Rattle.std.specs.List.{starts_with, slice_index}
use Rattle.std.specs.Option.{MatchOption}
use Rattle.std.specs.Bool.{⊤}
use Rattle.std.specs.Str.{all_ascii_digits, bytes_eq}
use Rattle.std.specs.Str.Parse.{ParsesUnsigned, digits_value}
use Rattle.std.specs.Str.Pattern.{FindsTextPrefix, StripsPrefix}
use Rattle.pgcopy.specs.Numbers.{is_number}
use Rattle.pgcopy.specs.Words.{behind}

-- what `strip_prefix` gives
pub strips : (front word : List ℕ) (r : Option (Bor (List ℕ))) → MatchOption r (FindsTextPrefix front word None) (λ x. StripsPrefix (FindsTextPrefix front) word x.now) → option_map (λ x. x.now) r ≡ behind front word
strips front word None h = rw (sym (starts_text false front word h)) refl
strips front word (Some x) h =
    let begun : starts_with ◌==◌ word front ≡ true = (starts_is Decides-eqb word front _ refl).1 _ h.1.1 in
    rw begun (ap Some (h.2 ∙ ap (λ n. drop n word) h.1.0))

-- a word is the front of its option and what stands behind it
pub behind_is : (front word rest : List ℕ) → behind front word ≡ Some rest → word ≡ front ++ rest
behind_is front word rest h = ⊎_elim
    (λ begun. (starts_is Decides-eqb word front _ refl).0 begun ∙ ap (λ l. front ++ l) (given begun))
    (λ not. absurd (other not))
    (cases_Bool (starts_with ◌==◌ word front))
  where
    given : starts_with ◌==◌ word front ≡ true → drop (length front) word ≡ rest
    given begun = let k = rw begun at h in search (rules, k)

    other : starts_with ◌==◌ word front ≡ false → ⊥
    other not = let k : None ≡ Some rest = rw not at h in cc

own : IsNumeralModel (λ ds. all_ascii_digits ds ≡ true) (digits_value 10)
own = numerals_by_value _ tells_all_ascii_digits

number_parts : (most : ℕ) (digits : List ℕ) → is_number most digits ≡ true → (0 < length digits) × (all_ascii_digits digits ≡ true) × (digits_value 10 digits ≤ most)
number_parts most digits h = search rules

-- a number that `parse` reads
pub reads_number : (most n : ℕ) (digits : List ℕ) → ParsesUnsigned {E = ⊤} 64 10 digits (Ok n) → slice_index digits 0 ≢ 43 → n ≤ most → (is_number most digits ≡ true) × (n ≡ digits_value 10 digits)
reads_number most n digits h plain few =
    let facts = parse_plain own {E = ⊤} 64 digits (Ok n) h plain in
    let fits : digits_value 10 digits ≤ most = omega (arith, facts.1, few) in
    (rw (lt-ltb 0 (length digits) facts.0.1, facts.0.0, le-leb _ _ fits) refl, facts.1)

-- what `parse` reads as no number
pub reads_none : {E : Type 0} → (most : ℕ) (e : E) (digits : List ℕ) → ParsesUnsigned 64 10 digits (Err e) → slice_index digits 0 ≢ 43 → most < 2 ^ 64 → is_number most digits ≡ false
reads_none most e digits h plain small = ⊎_elim
    (λ is.
    let parts = number_parts most digits is in
    absurd (parse_plain own 64 digits (Err e) h plain (parts.1, parts.0, omega (arith, parts.2, small))))
    (λ not. not)
    (cases_Bool (is_number most digits))

pub differs : (xs ys : List ℕ) → (xs ≡ ys → ⊥) → bytes_eq xs ys ≡ false
differs xs ys other = false_from_ne_true (bytes_eq xs ys) (λ e. other ((bytes_eq-Decides xs ys).0 e))
