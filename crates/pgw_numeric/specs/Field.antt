-- The parts of a field that is walked over without its value.
use Rattle.std.specs.Prelude.{◌≡◌, ◌<◌, ◌^◌, ◌*◌, ◌++◌, Bool, ℕ, ℤ, List, length, Result, Ok, Err, FitsSigned}
use Rattle.std.specs.List.{AllByRecursion}
use Rattle.std.specs.Int.{w16}
use Rattle.pgw_wire.specs.declared.kind.Break.{Break}
use Rattle.pgw_numeric.specs.Numeric.{Numeric, number, not_a_number, nan_sign, header_bytes, digit_bytes, numeric_bytes, IsNumeric}
use Rattle.pgw_numeric.specs.declared.field.Sign.{Sign}
use Rattle.pgw_numeric.specs.declared.field.Sign.TheVariants.{Positive, Negative, NaN}
use Rattle.pgw_numeric.specs.declared.field.Header.{Header}
use Rattle.pgw_numeric.specs.declared.field.Front.{Front}
use Rattle.pgw_numeric.specs.declared.field.Front.TheVariants as front

abbrev pub sign_word : Sign → ℕ
sign_word Positive = 0
sign_word Negative = 0x4000
sign_word NaN = nan_sign

-- the eight bytes of a header
abbrev pub bytes_of_header : Header → List ℕ
bytes_of_header h = header_bytes h.count h.weight h.sign h.scale

-- Each of its numbers has 16 bits.
pub record IsHeader (h : Header) : Type 0 where
  pub few : h.count < 2 ^ 16
  pub weighs : FitsSigned w16 h.weight
  pub signed : h.sign < 2 ^ 16
  pub scaled : h.scale < 2 ^ 16

-- The piece begins with this header and as many digits as it states, in these bytes.
pub record HasParts (piece : List ℕ) (h : Header) (digits : List ℕ) : Type 0 where
  pub rest : List ℕ
  pub each : IsHeader h
  pub many : length digits ≡ 2 * h.count
  pub is : piece ≡ bytes_of_header h ++ digits ++ rest

-- All of the bytes are these digits.
pub record AreDigits (bytes : List ℕ) (digits : List ℤ) : Type 0 where
  pub each : AllByRecursion (FitsSigned w16) digits
  pub is : bytes ≡ digit_bytes digits

-- The piece is of a number.
pub record IsNumber (piece : List ℕ) : Type 0 where
  pub negative : Bool
  pub weight : ℤ
  pub scale : ℕ
  pub digits : List ℤ
  pub is : IsNumeric piece (number negative weight scale digits)

-- the bytes that a front stands for
abbrev pub bytes_of_front : Front → List ℕ
bytes_of_front (front.Number bytes) = bytes.now
bytes_of_front front.NaN = numeric_bytes not_a_number

-- what is answered of a piece, by bytes alone
abbrev pub front_bytes : Result Front Break → Result (List ℕ) Break
front_bytes (Ok f) = Ok (bytes_of_front f)
front_bytes (Err kind) = Err kind

-- the bytes that what was read is written as
abbrev pub written_again : Result Numeric Break → Result (List ℕ) Break
written_again (Ok v) = Ok (numeric_bytes v)
written_again (Err kind) = Err kind
