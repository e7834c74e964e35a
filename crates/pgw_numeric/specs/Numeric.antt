-- The field of a numeric, in the order of its bytes: how many digits it has, the weight, the sign, the scale, and then
-- the digits, which are to the base 10000. Each is a number of 16 bits, the most significant byte first, and the weight
-- and the digits are in two's complement.
use Rattle.std.specs.Prelude.{◌≡◌, ◌≢◌, ◌<◌, ◌≤◌, ◌^◌, ◌+◌, ◌*◌, ◌++◌, ◌==◌, if◌then◌else◌, Bool, true, false, ℕ, zero, suc, ℤ, pos, List, [], ◌∷◌, length, take, drop, nat_lt, FitsSigned, ⊤, Result, Ok, Err}
use Rattle.std.specs.List.{AllByRecursion, flat_map}
use Rattle.std.specs.Int.{w16, to_be_bytes, from_be_bytes, cast_signed}
use Rattle.pgw_wire.specs.declared.kind.Break.{Break}
use Rattle.pgw_wire.specs.declared.kind.Break.TheVariants.{Size, Sign}
use Rattle.pgw_scalar.specs.Whole.{signed_bytes}

-- whether it is negative, its weight, its scale and its digits; or not a number
pub data Numeric : Type 0 where
  number : Bool → ℤ → ℕ → List ℤ → Numeric
  not_a_number : Numeric

-- the sign of a number
abbrev pub number_sign : Bool → ℕ
number_sign negative = if negative then 0x4000 else 0

-- the sign of what is not a number
abbrev pub nan_sign : ℕ
nan_sign = 0xC000

abbrev pub IsNoSign : ℕ → Type 0
IsNoSign sign = (sign ≢ 0) × (sign ≢ 0x4000) × (sign ≢ nan_sign)

-- how many digits, the weight, the sign and the scale
abbrev pub header_bytes : ℕ → ℤ → ℕ → ℕ → List ℕ
header_bytes count weight sign scale =
    to_be_bytes w16 count ++ signed_bytes w16 weight ++ to_be_bytes w16 sign ++ to_be_bytes w16 scale

abbrev pub digit_bytes : List ℤ → List ℕ
digit_bytes digits = flat_map (signed_bytes w16) digits

abbrev pub field_bytes : ℤ → ℕ → ℕ → List ℤ → List ℕ
field_bytes weight sign scale digits = header_bytes (length digits) weight sign scale ++ digit_bytes digits

-- A field has room for them.
pub record HasRoom (weight : ℤ) (scale : ℕ) (digits : List ℤ) : Type 0 where
  pub weighs : FitsSigned w16 weight
  pub scaled : scale < 2 ^ 16
  pub few : length digits < 2 ^ 16
  pub each : AllByRecursion (FitsSigned w16) digits

-- The value is one that has a field.
abbrev pub IsValue : Numeric → Type 0
IsValue (number negative weight scale digits) = HasRoom weight scale digits
IsValue not_a_number = ⊤

-- The piece begins with the field of these. What stands behind it is ignored.
pub record HasField (piece : List ℕ) (weight : ℤ) (sign scale : ℕ) (digits : List ℤ) : Type 0 where
  pub rest : List ℕ
  pub room : HasRoom weight scale digits
  pub is : piece ≡ field_bytes weight sign scale digits ++ rest

-- The piece is of this value. What is not a number may have any weight, scale and digits.
abbrev pub IsNumeric : List ℕ → Numeric → Type 0
IsNumeric piece (number negative weight scale digits) = HasField piece weight (number_sign negative) scale digits
IsNumeric piece not_a_number =
    (weight : ℤ) × (scale : ℕ) × (digits : List ℤ) × HasField piece weight nan_sign scale digits

-- the bytes that a value is written as
abbrev pub numeric_bytes : Numeric → List ℕ
numeric_bytes (number negative weight scale digits) = field_bytes weight (number_sign negative) scale digits
numeric_bytes not_a_number = field_bytes (pos 0) nan_sign 0 []

abbrev pub digit_count : Numeric → ℕ
digit_count (number negative weight scale digits) = length digits
digit_count not_a_number = 0

-- how many bytes a value is written as
abbrev pub numeric_size : Numeric → ℕ
numeric_size v = 8 + 2 * digit_count v

-- the number in two bytes of a piece, of which so many stand in front
abbrev pub word_at : ℕ → List ℕ → ℕ
word_at place piece = from_be_bytes w16 (take 2 (drop place piece))

-- How many bytes the field has that the piece begins with: eight, and two for each digit that it states. A piece of fewer
-- than eight has fewer than these, whatever stands in it.
abbrev pub stated_size : List ℕ → ℕ
stated_size piece = 8 + 2 * word_at 0 piece

-- In which kind a piece breaks that is of no value: it has fewer bytes than these, or else its sign is none.
abbrev pub BreaksNumeric : Break → List ℕ → Type 0
BreaksNumeric Size piece = length piece < stated_size piece
BreaksNumeric Sign piece = (stated_size piece ≤ length piece) × IsNoSign (word_at 4 piece)
BreaksNumeric _ piece = ⊥

-- What a piece is read as, as one function, for the proofs: so many digits,
abbrev pub digits_at : ℕ → List ℕ → List ℤ
digits_at zero bytes = []
digits_at (suc n) bytes = cast_signed w16 (from_be_bytes w16 (take 2 bytes)) ∷ digits_at n (drop 2 bytes)

-- what they are by the sign,
abbrev pub by_sign : ℕ → ℤ → ℕ → List ℤ → Result Numeric Break
by_sign sign weight scale digits =
    if sign == 0 then Ok (number false weight scale digits)
    else if sign == 0x4000 then Ok (number true weight scale digits)
    else if sign == nan_sign then Ok not_a_number
    else Err Sign

-- and the whole.
abbrev pub read_numeric : List ℕ → Result Numeric Break
read_numeric piece =
    if nat_lt (length piece) (stated_size piece) then Err Size
    else by_sign (word_at 4 piece) (cast_signed w16 (word_at 2 piece)) (word_at 6 piece)
    (digits_at (word_at 0 piece) (drop 8 piece))
