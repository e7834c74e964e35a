-- What the definitions say of single pieces: of which numeric a piece is, and of which it is none.
use Rattle.std.proofs.Common.{◌≡◌, ℕ, pos, negsuc, true, false, List, [], ◌∷◌, get_or, Ok, Err, refl, ap, arith, lit<}
use Rattle.pgw_wire.specs.declared.kind.Break.TheVariants.{Size, Sign, Utf8}
use Rattle.pgw_wire.specs.declared.sql_error.SqlError.TheVariants.{ShortBuffer, InvalidSign, BadUtf8}
use Rattle.pgw_numeric.specs.Numeric.{number, not_a_number, IsNumeric, numeric_bytes, numeric_size, BreaksNumeric, read_numeric}
use Rattle.pgw_numeric.specs.Refusals.{RefusesNumeric}

-- -123.456: two digits, weight 0, a negative sign, scale 3, and the digits 123 and 4560
abbrev negative : List ℕ
negative = 0 ∷ 2 ∷ 0 ∷ 0 ∷ 64 ∷ 0 ∷ 0 ∷ 3 ∷ 0 ∷ 123 ∷ 17 ∷ 208 ∷ []

pub negative_is : IsNumeric negative (number true (pos 0) 3 (pos 123 ∷ pos 4560 ∷ []))
negative_is = record {
  rest = [];
  room = record { weighs = record { sfits = lit< tt }; scaled = lit< tt; few = lit< tt; each = (record { sfits = lit< tt }, (record { sfits = lit< tt }, tt)) };
  is = refl;
}

pub negative_written : numeric_bytes (number true (pos 0) 3 (pos 123 ∷ pos 4560 ∷ [])) ≡ negative
negative_written = refl

pub negative_size : numeric_size (number true (pos 0) 3 (pos 123 ∷ pos 4560 ∷ [])) ≡ 12
negative_size = refl

pub negative_read : read_numeric negative ≡ Ok (number true (pos 0) 3 (pos 123 ∷ pos 4560 ∷ []))
negative_read = refl

pub not_positive : IsNumeric negative (number false (pos 0) 3 (pos 123 ∷ pos 4560 ∷ [])) → ⊥
not_positive h = omega (arith, ap (λ l. get_or l 4 0) h.is)

-- FFFF is the weight -1 and the digit -1, and what stands behind the field is ignored.
pub signed_is : IsNumeric (0 ∷ 1 ∷ 255 ∷ 255 ∷ 0 ∷ 0 ∷ 0 ∷ 2 ∷ 255 ∷ 255 ∷ 9 ∷ 9 ∷ []) (number false (negsuc 0) 2 (negsuc 0 ∷ []))
signed_is = record {
  rest = 9 ∷ 9 ∷ [];
  room = record { weighs = record { sfits = lit< tt }; scaled = lit< tt; few = lit< tt; each = (record { sfits = lit< tt }, tt) };
  is = refl;
}

-- What is not a number, with a weight, a scale and a digit, is written without them.
pub nan_is : IsNumeric (0 ∷ 1 ∷ 0 ∷ 5 ∷ 192 ∷ 0 ∷ 0 ∷ 9 ∷ 19 ∷ 136 ∷ []) not_a_number
nan_is = (
  pos 5,
  9,
  pos 5000 ∷ [],
  record {
    rest = [];
    room = record { weighs = record { sfits = lit< tt }; scaled = lit< tt; few = lit< tt; each = (record { sfits = lit< tt }, tt) };
    is = refl;
  },
)

pub nan_read : read_numeric (0 ∷ 1 ∷ 0 ∷ 5 ∷ 192 ∷ 0 ∷ 0 ∷ 9 ∷ 19 ∷ 136 ∷ []) ≡ Ok not_a_number
nan_read = refl

pub nan_written : numeric_bytes not_a_number ≡ 0 ∷ 0 ∷ 0 ∷ 0 ∷ 192 ∷ 0 ∷ 0 ∷ 0 ∷ []
nan_written = refl

-- Three digits are stated, and one stands there. That the sign is none does not count.
abbrev short : List ℕ
short = 0 ∷ 3 ∷ 0 ∷ 0 ∷ 128 ∷ 0 ∷ 0 ∷ 0 ∷ 0 ∷ 1 ∷ []

pub short_breaks : BreaksNumeric Size short
short_breaks = lit< tt

pub short_sign_does_not : BreaksNumeric Sign short → ⊥
short_sign_does_not h = omega (arith, h.0)

pub short_read : read_numeric short ≡ Err Size
short_read = refl

pub short_refused : RefusesNumeric short ShortBuffer
short_refused = lit< tt

-- Seven bytes, and none.
pub seven_break : BreaksNumeric Size (0 ∷ 0 ∷ 0 ∷ 0 ∷ 0 ∷ 0 ∷ 0 ∷ [])
seven_break = lit< tt

pub none_break : BreaksNumeric Size []
none_break = lit< tt

-- The sign is 0x8000.
abbrev no_sign : List ℕ
no_sign = 0 ∷ 0 ∷ 0 ∷ 0 ∷ 128 ∷ 0 ∷ 0 ∷ 0 ∷ []

pub no_sign_breaks : BreaksNumeric Sign no_sign
no_sign_breaks = (omega arith, (λ e. omega (arith, e), λ e. omega (arith, e), λ e. omega (arith, e)))

pub no_sign_read : read_numeric no_sign ≡ Err Sign
no_sign_read = refl

pub no_sign_refused : RefusesNumeric no_sign (InvalidSign (record { 0 = 32768 }))
no_sign_refused = (no_sign_breaks, refl)

-- No numeric breaks as utf8, or is refused as a text.
pub no_text : BreaksNumeric Utf8 no_sign → ⊥
no_text h = h

pub no_text_refused : RefusesNumeric no_sign BadUtf8 → ⊥
no_text_refused h = h
