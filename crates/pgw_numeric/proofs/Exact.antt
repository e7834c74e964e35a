-- The field of a numeric is read as its definitions say.
use Rattle.std.proofs.Common.{◌≡◌, ℕ, ℤ, ◌<◌, ◌≤◌, ◌^◌, Bool, true, false, cond, ltb, eqb, List, [], ◌++◌, length, drop, append-nil, pos, Result, Ok, Err, w16, refl, sym, ap, ◌∙◌, arith, lit<, subst, length-append}
use Rattle.std.specs.Int.{cast_signed}
use Rattle.std.proofs.lemmas.Bool.{ltb-true, ltb-false, lt-ltb, le-ltb, eqb-true, eqb-false, ne_eqb}
use Rattle.pgw_wire.specs.declared.kind.Break.{Break}
use Rattle.pgw_wire.specs.declared.kind.Break.TheVariants.{Size, Sign}
use Rattle.pgw_scalar.proofs.Readers.{IsBytes, IsExact, ok_is, err_is, never_both}
use Rattle.pgw_numeric.specs.Numeric.{Numeric, number, not_a_number, number_sign, nan_sign, IsNoSign, HasField, IsNumeric, IsValue, digit_bytes, field_bytes, numeric_bytes, numeric_size, word_at, stated_size, BreaksNumeric, digits_at, by_sign, read_numeric}
use Rattle.pgw_numeric.proofs.Fields.{words_read, digits_again, length_digits, field_stated}

-- what is read of a piece that has as many bytes as it states
abbrev pub read_stated : List ℕ → Result Numeric Break
read_stated p = by_sign (word_at 4 p) (cast_signed w16 (word_at 2 p)) (word_at 6 p) (digits_at (word_at 0 p) (drop 8 p))

abbrev read_by : Bool → List ℕ → Result Numeric Break
read_by short p = cond {A = Result Numeric Break} short (Err Size) (read_stated p)

pub read_short : (p : List ℕ) → length p < stated_size p → read_numeric p ≡ Err Size
read_short p short = ap (λ b. read_by b p) (lt-ltb (length p) (stated_size p) short)

pub read_long : (p : List ℕ) → stated_size p ≤ length p → read_numeric p ≡ read_stated p
read_long p long = ap (λ b. read_by b p) (le-ltb (length p) (stated_size p) long)

-- what comes of the tests of the sign
abbrev signs_by : Bool → Bool → Bool → ℤ → ℕ → List ℤ → Result Numeric Break
signs_by plus minus none weight scale digits =
    cond {A = Result Numeric Break} plus (Ok (number false weight scale digits))
    (cond {A = Result Numeric Break} minus (Ok (number true weight scale digits)) (cond {A = Result Numeric Break} none (Ok not_a_number) (Err Sign)))

pub by_no_sign : (sign : ℕ) (weight : ℤ) (scale : ℕ) (digits : List ℤ) → IsNoSign sign → by_sign sign weight scale digits ≡ Err Sign
by_no_sign sign weight scale digits absent =
    ap (λ b. signs_by b (eqb sign 0x4000) (eqb sign nan_sign) weight scale digits) (ne_eqb sign 0 absent.0)
    ∙ ap (λ b. signs_by false b (eqb sign nan_sign) weight scale digits) (ne_eqb sign 0x4000 absent.1)
    ∙ ap (λ b. signs_by false false b weight scale digits) (ne_eqb sign nan_sign absent.2)

-- The digits and the numbers in front of them are read again.
field_again : (p : List ℕ) (weight : ℤ) (sign scale : ℕ) (digits : List ℤ) → sign < 2 ^ 16 → HasField p weight sign scale digits → read_numeric p ≡ by_sign sign weight scale digits
field_again p weight sign scale digits signed h =
    let room = h.room in
    let behind = digit_bytes digits ++ h.rest in
    let w = words_read p behind (length digits) weight sign scale room.few room.weighs signed room.scaled h.is in
    read_long p (omega (arith, w.count_is, w.long, length-append (digit_bytes digits) h.rest, length_digits digits))
    ∙ ap (λ s. by_sign s (cast_signed w16 (word_at 2 p)) (word_at 6 p) (digits_at (word_at 0 p) (drop 8 p))) w.sign_is
    ∙ ap (λ n. by_sign sign n (word_at 6 p) (digits_at (word_at 0 p) (drop 8 p))) w.weight_is
    ∙ ap (λ n. by_sign sign weight n (digits_at (word_at 0 p) (drop 8 p))) w.scale_is
    ∙ ap (λ n. by_sign sign weight scale (digits_at n (drop 8 p))) w.count_is
    ∙ ap (λ l. by_sign sign weight scale (digits_at (length digits) l)) w.rest_is
    ∙ ap (by_sign sign weight scale) (digits_again digits h.rest room.each)

numeric_again : (p : List ℕ) (v : Numeric) → IsNumeric p v → read_numeric p ≡ Ok v
numeric_again p (number false weight scale digits) h = field_again p weight 0 scale digits (lit< tt) h
numeric_again p (number true weight scale digits) h = field_again p weight 0x4000 scale digits (lit< tt) h
numeric_again p not_a_number h = field_again p h.0 nan_sign h.1 h.2 (lit< tt) h.3

-- What the signs say is so.
signs_sound : (p : List ℕ) (plus minus none : Bool) (sign : ℕ) (weight : ℤ) (scale : ℕ) (digits : List ℤ) (v : Numeric) → eqb sign 0 ≡ plus → eqb sign 0x4000 ≡ minus → eqb sign nan_sign ≡ none
    → HasField p weight sign scale digits → signs_by plus minus none weight scale digits ≡ Ok v → IsNumeric p v
signs_sound p true minus none sign weight scale digits v is0 is1 is2 h e =
    subst (λ (x : Numeric). IsNumeric p x) (ok_is (number false weight scale digits) v e) (subst (λ (s : ℕ). HasField p weight s scale digits) (eqb-true sign 0 is0) h)
signs_sound p false true none sign weight scale digits v is0 is1 is2 h e =
    subst (λ (x : Numeric). IsNumeric p x) (ok_is (number true weight scale digits) v e) (subst (λ (s : ℕ). HasField p weight s scale digits) (eqb-true sign 0x4000 is1) h)
signs_sound p false false true sign weight scale digits v is0 is1 is2 h e =
    subst (λ (x : Numeric). IsNumeric p x) (ok_is not_a_number v e) (weight, scale, digits, subst (λ (s : ℕ). HasField p weight s scale digits) (eqb-true sign nan_sign is2) h)
signs_sound p false false false sign weight scale digits v is0 is1 is2 h e = absurd (never_both (signs_by false false false weight scale digits) v Sign e refl)

numeric_sound : (short : Bool) (p : List ℕ) (v : Numeric) → IsBytes p → ltb (length p) (stated_size p) ≡ short → read_by short p ≡ Ok v → IsNumeric p v
numeric_sound true p v bytes is e = absurd (never_both (read_by true p) v Size e refl)
numeric_sound false p v bytes is e =
    let sign = word_at 4 p in
    signs_sound p (eqb sign 0) (eqb sign 0x4000) (eqb sign nan_sign) sign (cast_signed w16 (word_at 2 p)) (word_at 6 p) (digits_at (word_at 0 p) (drop 8 p)) v refl refl refl
    (field_stated p bytes (ltb-false (length p) (stated_size p) is)) e

numeric_refused : (kind : Break) (p : List ℕ) → BreaksNumeric kind p → read_numeric p ≡ Err kind
numeric_refused Size p b = read_short p b
numeric_refused Sign p b = read_long p b.0 ∙ by_no_sign (word_at 4 p) (cast_signed w16 (word_at 2 p)) (word_at 6 p) (digits_at (word_at 0 p) (drop 8 p)) b.1
numeric_refused _ p b = absurd b

signs_broken : (plus minus none : Bool) (sign : ℕ) (weight : ℤ) (scale : ℕ) (digits : List ℤ) (kind : Break) → eqb sign 0 ≡ plus → eqb sign 0x4000 ≡ minus → eqb sign nan_sign ≡ none
    → signs_by plus minus none weight scale digits ≡ Err kind → IsNoSign sign × (Sign ≡ kind)
signs_broken true minus none sign weight scale digits kind is0 is1 is2 e = absurd (never_both (signs_by true minus none weight scale digits) (number false weight scale digits) kind refl e)
signs_broken false true none sign weight scale digits kind is0 is1 is2 e = absurd (never_both (signs_by false true none weight scale digits) (number true weight scale digits) kind refl e)
signs_broken false false true sign weight scale digits kind is0 is1 is2 e = absurd (never_both (signs_by false false true weight scale digits) not_a_number kind refl e)
signs_broken false false false sign weight scale digits kind is0 is1 is2 e =
    ((eqb-false sign 0 is0, eqb-false sign 0x4000 is1, eqb-false sign nan_sign is2), err_is {A = Numeric} Sign kind e)

numeric_broken : (short : Bool) (kind : Break) (p : List ℕ) → ltb (length p) (stated_size p) ≡ short → read_by short p ≡ Err kind → BreaksNumeric kind p
numeric_broken true kind p is e = subst (λ (k : Break). BreaksNumeric k p) (err_is {A = Numeric} Size kind e) (ltb-true (length p) (stated_size p) is)
numeric_broken false kind p is e =
    let sign = word_at 4 p in
    let b = signs_broken (eqb sign 0) (eqb sign 0x4000) (eqb sign nan_sign) sign (cast_signed w16 (word_at 2 p)) (word_at 6 p) (digits_at (word_at 0 p) (drop 8 p)) kind refl refl refl e in
    subst (λ (k : Break). BreaksNumeric k p) b.1 (ltb-false (length p) (stated_size p) is, b.0)

pub numeric_exact : IsExact IsNumeric BreaksNumeric read_numeric
numeric_exact = record {
  reads = record { again = numeric_again };
  sound = record { spelled = λ p v bytes e. numeric_sound (ltb (length p) (stated_size p)) p v bytes refl e };
  refuses = record {
    refused = numeric_refused;
    broken = λ kind p bytes e. numeric_broken (ltb (length p) (stated_size p)) kind p refl e;
  };
}

-- What a piece spells has a field, which spells it, and so many bytes.
pub spelled_is_value : (p : List ℕ) (v : Numeric) → IsNumeric p v → IsValue v
spelled_is_value p (number negative weight scale digits) h = h.room
spelled_is_value p not_a_number h = tt

pub value_spelled : (v : Numeric) → IsValue v → IsNumeric (numeric_bytes v) v
value_spelled (number negative weight scale digits) h = record { rest = []; room = h; is = sym (append-nil (field_bytes weight (number_sign negative) scale digits)) }
value_spelled not_a_number h =
    (pos 0, 0, [], record { rest = []; room = record { weighs = record { sfits = lit< tt }; scaled = lit< tt; few = lit< tt; each = tt }; is = refl })

pub size_counted : (v : Numeric) → length (numeric_bytes v) ≡ numeric_size v
size_counted (number negative weight scale digits) = omega (arith, length_digits digits)
size_counted not_a_number = refl
