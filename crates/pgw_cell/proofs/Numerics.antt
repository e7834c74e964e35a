-- Numerics: what is read of a piece, what it is written as again, and which pieces are written as they stand.
use Rattle.std.proofs.Common.{◌≡◌, ℕ, ℤ, ◌+◌, ◌*◌, Bool, List, length, Result, Ok, Err, IsTrue, w16, refl, sym, ap, ◌∙◌, arith, subst}
use Rattle.std.specs.Int.{cast_signed, cast_unsigned}
use Rattle.std.proofs.lemmas.Int.{to_z-of_z}
use Rattle.std.proofs.lemmas.List.{take_all}
use Rattle.pgw_wire.specs.declared.kind.Break.{Break}
use Rattle.pgw_scalar.proofs.Readers.{IsBytes, ok_is, never_both}
use Rattle.pgw_numeric.specs.Numeric.{Numeric, number, number_sign, IsNumeric, numeric_bytes, read_numeric}
use Rattle.pgw_numeric.specs.Field.{HasParts, IsNumber, written_again}
use Rattle.pgw_numeric.specs.declared.field.Header.{Header}
use Rattle.pgw_numeric.proofs.Exact.{numeric_exact}
use Rattle.pgw_numeric.proofs.Parts.{written, number_front}
use Rattle.pgw_cell.specs.Value.{Value, numeric}
use Rattle.pgw_cell.specs.Spellings.{read_as, numerics}
use Rattle.pgw_cell.specs.Written.{canonical_of}
use Rattle.pgw_cell.specs.Data.{takes_memory}
use Rattle.pgw_cell.specs.Plain.{Passes}
use Rattle.pgw_cell.specs.declared.plain.Rule.TheVariants as rule

-- What a codec reads of a piece is what the piece is read as.
pub value_read : (p given : List ℕ) (n : Numeric) → given ≡ p → IsNumeric given n → read_as numeric (read_numeric p) ≡ Ok (numeric n)
value_read p given n same is =
    ap (read_as numeric) (numeric_exact.reads.again p n (subst (λ (q : List ℕ). IsNumeric q n) same is))

-- of a number, whose weight is told by its 16 bits
pub number_read : (p given : List ℕ) (negative : Bool) (weight : ℤ) (scale : ℕ) (digits list : List ℤ) → given ≡ p → list ≡ digits
    → IsNumeric given (number negative weight scale digits) → read_as numeric (read_numeric p) ≡ Ok (numeric (number negative (cast_signed w16 (cast_unsigned w16 weight)) scale list))
number_read p given negative weight scale digits list same listed is =
    rw (listed, to_z-of_z w16 weight is.room.weighs) (value_read p given (number negative weight scale digits) same is)

-- Memory is asked for of a number alone.
pub number_wanted : (p given : List ℕ) → given ≡ p → IsNumber given → (v : Value) × (read_as numeric (read_numeric p) ≡ Ok v) × IsTrue (takes_memory v)
number_wanted p given same h =
    let n = number h.negative h.weight h.scale h.digits in
    (numeric n, value_read p given n same h.is, refl)

-- what a piece is written as again, of a value of a column
pub written_as : (r : Result Numeric Break) → written_again r ≡ canonical_of numerics.canonical (read_as numeric r)
written_as (Ok n) = refl
written_as (Err kind) = refl

-- A number that its field fills is written as it stands.
pub whole_number : (p : List ℕ) (h : Header) (digits : List ℕ) (negative : Bool) → IsBytes p → HasParts p h digits → h.sign ≡ number_sign negative → length p ≡ 8 + 2 * h.count → Passes rule.Numeric p
whole_number p h digits negative bytes parts sign whole =
    from (read_numeric p) refl (ap written (sym (take_all (8 + 2 * h.count) p (omega (arith, whole)))) ∙ number_front p h digits negative bytes parts sign)
  where
    from : (r : Result Numeric Break) → read_numeric p ≡ r → written p ≡ written_again r → Passes rule.Numeric p
    from (Ok n) is e = (n, numeric_exact.sound.spelled p n bytes is, sym (ok_is p (numeric_bytes n) e))
    from (Err kind) is e = absurd (never_both (written p) p kind refl e)
