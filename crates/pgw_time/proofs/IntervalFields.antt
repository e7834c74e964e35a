-- The field of an interval is read as its definition says.
use Rattle.std.proofs.Common.{◌≡◌, ℕ, ℤ, ◌+◌, ◌<◌, ◌≤◌, List, ◌++◌, length, take, drop, Bool, true, false, ltb, cond, Result, Ok, Err, w32, w64, refl, sym, ap, ◌∙◌, arith, subst}
use Rattle.std.specs.Prelude.{FitsSigned}
use Rattle.std.specs.Int.{Width, from_be_bytes, cast_signed}
use Rattle.std.proofs.lemmas.Bool.{ltb-true, ltb-false, lt-ltb, le-ltb}
use Rattle.std.proofs.lemmas.Int.{to_z-of_z}
use Rattle.std.proofs.lemmas.List.{take-append-drop, length-take-le, length-drop, drop-drop, get_or-drop}
use Rattle.std.proofs.Math.Facts.{Fits-of_z}
use Rattle.pgw_wire.specs.declared.kind.Break.{Break}
use Rattle.pgw_wire.specs.declared.kind.Break.TheVariants.{Size}
use Rattle.pgw_scalar.specs.Whole.{IsSigned, signed_bytes}
use Rattle.pgw_scalar.proofs.Readers.{IsBytes, IsExact, ok_is, err_is, never_both}
use Rattle.pgw_scalar.proofs.Whole.{HasSize, size_32, size_64, signed_bytes_are}
use Rattle.pgw_scalar.proofs.LeadingFields.{bytes_taken}
use Rattle.pgw_time.specs.Interval.{Interval, FitsInterval, IsInterval, BreaksInterval, interval_bytes, first_interval, read_interval}

-- The last bytes of bytes are bytes.
bytes_left : (n : ℕ) (p : List ℕ) → IsBytes p → IsBytes (drop n p)
bytes_left n p bytes i = subst (λ (b : ℕ). b < 256) (sym (get_or-drop n p i 0)) (bytes (n + i))

-- Any bytes of the size, at a place of a piece, are a number's.
number_at : {w : Width} {size : ℕ} → HasSize w size → (place : ℕ) (p : List ℕ) → IsBytes p → place + size ≤ length p → IsSigned w (take size (drop place p)) (cast_signed w (from_be_bytes w (take size (drop place p))))
number_at {size = size} h place p bytes long =
    let behind = drop place p in
    signed_bytes_are h (take size behind) (bytes_taken size behind (bytes_left place p bytes)) (length-take-le size behind (omega (arith, long, length-drop place p)))

-- The bytes at a place, and what stands behind them, are what stands at the place.
joined : (place size : ℕ) (p number : List ℕ) → take size (drop place p) ≡ number → number ++ drop (place + size) p ≡ drop place p
joined place size p number is =
    ap (λ l. l ++ drop (place + size) p) (sym is) ∙ (ap (λ l. take size (drop place p) ++ l) (sym (drop-drop size place p)) ∙ take-append-drop size (drop place p))

-- Any 16 bytes, and more behind them, are an interval's.
pub interval_is : (p : List ℕ) → IsBytes p → 16 ≤ length p → IsInterval p (first_interval p)
interval_is p bytes long =
    let microseconds = number_at size_64 0 p bytes (omega (arith, long)) in
    let days = number_at size_32 8 p bytes (omega (arith, long)) in
    let months = number_at size_32 12 p bytes (omega (arith, long)) in
    let x = first_interval p in
    let front = signed_bytes w64 x.microseconds in
    record {
      rest = drop 16 p;
      fits = record { microseconds = microseconds.fits; days = days.fits; months = months.fits };
      is = sym (ap (λ l. front ++ (signed_bytes w32 x.days ++ l)) (joined 12 4 p _ months.bytes) ∙ (ap (λ l. front ++ l) (joined 8 4 p _ days.bytes) ∙ joined 0 8 p _ microseconds.bytes));
    }

-- what comes of the test of the length
abbrev interval_by : Bool → List ℕ → Result Interval Break
interval_by b p = cond {A = Result Interval Break} b (Err Size) (Ok (first_interval p))

interval_spelled : (b : Bool) (p : List ℕ) (x : Interval) → IsBytes p → ltb (length p) 16 ≡ b → interval_by b p ≡ Ok x → IsInterval p x
interval_spelled true p x bytes is e = absurd (never_both (interval_by true p) x Size e refl)
interval_spelled false p x bytes is e =
    subst (λ (y : Interval). IsInterval p y) (ok_is (first_interval p) x e) (interval_is p bytes (ltb-false (length p) 16 is))

interval_broken : (b : Bool) (kind : Break) (p : List ℕ) → ltb (length p) 16 ≡ b → interval_by b p ≡ Err kind → BreaksInterval kind p
interval_broken true kind p is e = (sym (err_is {A = Interval} Size kind e), ltb-true (length p) 16 is)
interval_broken false kind p is e = absurd (never_both (interval_by false p) (first_interval p) kind refl e)

-- A number is read from its own bytes.
number_again : {w : Width} {size : ℕ} → HasSize w size → (n : ℤ) → FitsSigned w n → cast_signed w (from_be_bytes w (signed_bytes w n)) ≡ n
number_again {w = w} h n fits = ap (cast_signed w) (h.again _ (Fits-of_z fits).fits) ∙ to_z-of_z w n fits

first_again : (x : Interval) (rest : List ℕ) → FitsInterval x → first_interval (interval_bytes x ++ rest) ≡ x
first_again x rest fits =
    rw (number_again size_64 x.microseconds fits.microseconds, number_again size_32 x.days fits.days, number_again size_32 x.months fits.months) refl

interval_again : (x : Interval) (rest : List ℕ) → FitsInterval x → read_interval (interval_bytes x ++ rest) ≡ Ok x
interval_again x rest fits = rw (le-ltb (length (interval_bytes x ++ rest)) 16 (omega arith)) (ap Ok (first_again x rest fits))

pub interval_exact : IsExact IsInterval BreaksInterval read_interval
interval_exact = record {
  reads = record { again = λ p x s. subst (λ (q : List ℕ). read_interval q ≡ Ok x) (sym s.is) (interval_again x s.rest s.fits) };
  sound = record { spelled = λ p x bytes e. interval_spelled (ltb (length p) 16) p x bytes refl e };
  refuses = record {
    refused = λ kind p b. rw (lt-ltb (length p) 16 b.1) (ap Err (sym b.0));
    broken = λ kind p bytes e. interval_broken (ltb (length p) 16) kind p refl e;
  };
}
