-- A piece that begins with the parts of a field: what it is read as, and what its value is written as.
use Rattle.std.proofs.Common.{◌≡◌, ℕ, ℤ, ◌+◌, ◌*◌, ◌<◌, ◌≤◌, Bool, true, false, List, [], ◌∷◌, ◌++◌, length, take, drop, Result, Ok, Err, w16, refl, sym, ap, ◌∙◌, arith, subst, length-append, append-nil}
use Rattle.std.specs.Prelude.{FitsSigned, IfOk, OnErr}
use Rattle.std.specs.Result.{is_err}
use Rattle.std.specs.List.{AllByRecursion}
use Rattle.std.specs.Int.{cast_signed, cast_unsigned}
use Rattle.std.proofs.lemmas.Int.{to_z-of_z}
use Rattle.pgw_wire.proofs.Lists.{take_piece}
use Rattle.pgw_wire.specs.declared.kind.Break.{Break}
use Rattle.pgw_scalar.proofs.Readers.{IsBytes, ok_is, err_is, never_both}
use Rattle.pgw_numeric.specs.Numeric.{Numeric, not_a_number, number_sign, nan_sign, header_bytes, digit_bytes, field_bytes, numeric_bytes, HasField, IsNumeric, word_at, stated_size, BreaksNumeric, digits_at, by_sign, read_numeric}
use Rattle.pgw_numeric.specs.Field.{bytes_of_header, HasParts, AreDigits, IsNumber, bytes_of_front, front_bytes, written_again}
use Rattle.pgw_numeric.specs.declared.field.Header.{Header}
use Rattle.pgw_numeric.specs.declared.field.Front.{Front}
use Rattle.pgw_numeric.proofs.Fields.{HasWords, words_read, length_digits, count_digits, field_stated}
use Rattle.pgw_numeric.proofs.Exact.{read_long, numeric_exact}

-- bytes that are written, as an answer
abbrev pub written : List ℕ → Result (List ℕ) Break
written bytes = Ok bytes

-- Its words are those of the header, and it has as many bytes as it states.
words_of : (p : List ℕ) (h : Header) (digits : List ℕ) (parts : HasParts p h digits) → HasWords p h.count h.weight h.sign h.scale (digits ++ parts.rest)
words_of p h digits parts =
    let each = parts.each in
    words_read p (digits ++ parts.rest) h.count h.weight h.sign h.scale each.few each.weighs each.signed each.scaled parts.is

parts_long : (p : List ℕ) (h : Header) (digits : List ℕ) → HasParts p h digits → stated_size p ≤ length p
parts_long p h digits parts =
    let w = words_of p h digits parts in
    omega (arith, w.count_is, w.long, length-append digits parts.rest, parts.many)

-- the field that it begins with
parts_field : (p : List ℕ) (h : Header) (digits : List ℕ) (sign : ℕ) → IsBytes p → HasParts p h digits → h.sign ≡ sign → HasField p (cast_signed w16 (word_at 2 p)) sign (word_at 6 p) (digits_at (word_at 0 p) (drop 8 p))
parts_field p h digits sign bytes parts is =
    subst (λ (s : ℕ). HasField p (cast_signed w16 (word_at 2 p)) s (word_at 6 p) (digits_at (word_at 0 p) (drop 8 p)))
    ((words_of p h digits parts).sign_is ∙ is) (field_stated p bytes (parts_long p h digits parts))

number_field : (p : List ℕ) (h : Header) (bytes : List ℕ) (sign : ℕ) (digits : List ℤ) → HasParts p h bytes → h.sign ≡ sign → AreDigits bytes digits → HasField p h.weight sign h.scale digits
number_field p h bytes sign digits parts s are =
    let many : length digits ≡ h.count = omega (arith, parts.many, ap length are.is, length_digits digits) in
    record {
      rest = parts.rest;
      room = record { weighs = parts.each.weighs; scaled = parts.each.scaled; few = omega (arith, many, parts.each.few); each = are.each };
      is = parts.is ∙ ap (λ l. bytes_of_header h ++ l ++ parts.rest) are.is
          ∙ ap (λ n. header_bytes n h.weight h.sign h.scale ++ digit_bytes digits ++ parts.rest) (sym many)
          ∙ ap (λ n. header_bytes (length digits) h.weight n h.scale ++ digit_bytes digits ++ parts.rest) s;
    }

-- What is read: a number with its digits, where the weight is told by its 16 bits,
pub number_read : (p : List ℕ) (h : Header) (bytes : List ℕ) (sign : ℕ) (digits : List ℤ) → HasParts p h bytes → h.sign ≡ sign → AreDigits bytes digits → HasField p (cast_signed w16 (cast_unsigned w16 h.weight)) sign h.scale digits
number_read p h bytes sign digits parts s are =
    subst (λ (w : ℤ). HasField p w sign h.scale digits) (sym (to_z-of_z w16 h.weight parts.each.weighs)) (number_field p h bytes sign digits parts s are)

-- what is none,
pub nan_read : (p : List ℕ) (h : Header) (digits : List ℕ) → IsBytes p → HasParts p h digits → h.sign ≡ nan_sign → IsNumeric p not_a_number
nan_read p h digits bytes parts s =
    (cast_signed w16 (word_at 2 p), word_at 6 p, digits_at (word_at 0 p) (drop 8 p), parts_field p h digits nan_sign bytes parts s)

-- and a number that memory was refused for.
pub number_wanted : (p : List ℕ) (h : Header) (digits : List ℕ) (negative : Bool) → IsBytes p → HasParts p h digits → h.sign ≡ number_sign negative → IsNumber p
number_wanted p h digits negative bytes parts s =
    record { negative = negative; weight = cast_signed w16 (word_at 2 p); scale = word_at 6 p; digits = digits_at (word_at 0 p) (drop 8 p); is = parts_field p h digits (number_sign negative) bytes parts s }

written_number : (negative : Bool) (weight : ℤ) (scale : ℕ) (digits : List ℤ) → written (field_bytes weight (number_sign negative) scale digits) ≡ written_again (by_sign (number_sign negative) weight scale digits)
written_number false weight scale digits = refl
written_number true weight scale digits = refl

-- What of a piece of a number is written: its bytes as they stand.
pub number_front : (p : List ℕ) (h : Header) (digits : List ℕ) (negative : Bool) → IsBytes p → HasParts p h digits → h.sign ≡ number_sign negative → written (take (8 + 2 * h.count) p) ≡ written_again (read_numeric p)
number_front p h digits negative bytes parts s =
    let w = words_of p h digits parts in
    let field = parts_field p h digits (number_sign negative) bytes parts s in
    let weight = cast_signed w16 (word_at 2 p) in
    let scale = word_at 6 p in
    let spelled = digits_at (word_at 0 p) (drop 8 p) in
    let same = field_bytes weight (number_sign negative) scale spelled in
    let front : take (8 + 2 * h.count) p ≡ same =
    ap (take (8 + 2 * h.count)) field.is
    ∙ take_piece (8 + 2 * h.count) same field.rest (omega (arith, length_digits spelled, count_digits (word_at 0 p) (drop 8 p), w.count_is)) in
    ap written front ∙ written_number negative weight scale spelled
    ∙ sym (ap written_again (read_long p (parts_long p h digits parts) ∙ ap (λ n. by_sign n weight scale spelled) (w.sign_is ∙ s)))

-- What is answered so, as the definitions say it.
read_as : (p : List ℕ) (f : Front) (x : Result Numeric Break) → IsBytes p → read_numeric p ≡ x → front_bytes (Ok f) ≡ written_again x → (v : Numeric) × IsNumeric p v × (bytes_of_front f ≡ numeric_bytes v)
read_as p f (Ok v) bytes is e = (v, numeric_exact.sound.spelled p v bytes is, ok_is (bytes_of_front f) (numeric_bytes v) e)
read_as p f (Err kind) bytes is e = absurd (never_both (front_bytes (Ok f)) (bytes_of_front f) kind refl e)

pub front_ok : (p : List ℕ) (r : Result Front Break) → IsBytes p → front_bytes r ≡ written_again (read_numeric p) → IfOk r (λ f. (v : Numeric) × IsNumeric p v × (bytes_of_front f ≡ numeric_bytes v))
front_ok p (Ok f) bytes e = read_as p f (read_numeric p) bytes refl e
front_ok p (Err kind) bytes e = tt

pub front_spelled : (p : List ℕ) (r : Result Front Break) (v : Numeric) → front_bytes r ≡ written_again (read_numeric p) → IsNumeric p v → front_bytes r ≡ Ok (numeric_bytes v)
front_spelled p r v e is = e ∙ ap written_again (numeric_exact.reads.again p v is)

broken_as : (p : List ℕ) (kind : Break) (x : Result Numeric Break) → IsBytes p → read_numeric p ≡ x → (let err : Break → Result (List ℕ) Break = λ k. Err k in err kind) ≡ written_again x → BreaksNumeric kind p
broken_as p kind (Ok v) bytes is e = absurd (never_both (written_again (Ok v)) (numeric_bytes v) kind refl (sym e))
broken_as p kind (Err k) bytes is e = subst (λ (j : Break). BreaksNumeric j p) (sym (err_is {A = List ℕ} kind k e)) (numeric_exact.refuses.broken k p bytes is)

pub front_broken : (p : List ℕ) (r : Result Front Break) (kind : Break) → IsBytes p → front_bytes r ≡ written_again (read_numeric p) → r ≡ Err kind → BreaksNumeric kind p
front_broken p r kind bytes e is = broken_as p kind (read_numeric p) bytes refl (sym (ap front_bytes is) ∙ e)

front_errs : (r : Result Front Break) (kind : Break) → front_bytes r ≡ Err kind → r ≡ Err kind
front_errs (Ok f) kind e = absurd (never_both (front_bytes (Ok f)) (bytes_of_front f) kind refl e)
front_errs (Err k) kind e = ap (λ j. Err j) (err_is {A = List ℕ} k kind e)

pub front_breaks : (p : List ℕ) (r : Result Front Break) (kind : Break) → front_bytes r ≡ written_again (read_numeric p) → BreaksNumeric kind p → r ≡ Err kind
front_breaks p r kind e b = front_errs r kind (e ∙ ap written_again (numeric_exact.refuses.refused kind p b))

-- what holds where an answer is an error
pub on_error : {T E : Type 0} (r : Result T E) (P : Type 0) → OnErr r P → true ≡ is_err r → P
on_error (Ok x) P h is = absurd (cc)
on_error (Err e) P h is = h

-- No further digit stands there.
pub digits_whole : (count : ℕ) (bytes rest : List ℕ) (digits : List ℤ) → length bytes ≡ 2 * count → length rest < 2 → AllByRecursion (FitsSigned w16) digits → bytes ≡ digit_bytes digits ++ rest → AreDigits bytes digits
digits_whole count bytes [] digits many short each is = record { each = each; is = is ∙ append-nil (digit_bytes digits) }
digits_whole count bytes (x ∷ []) digits many short each is =
    absurd (omega (arith, many, ap length is, length-append (digit_bytes digits) (x ∷ []), length_digits digits))
digits_whole count bytes (x ∷ y ∷ rest) digits many short each is = absurd (omega (arith, short))
