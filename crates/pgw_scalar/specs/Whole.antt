-- The fields of whole numbers of so many bits, in two's complement where they have a sign, the most significant byte
-- first: int2, int4, int8 and money with a sign, pg_lsn without one.
use Rattle.std.specs.Prelude.{◌≡◌, ◌<◌, ◌^◌, ℕ, ℤ, List, FitsSigned}
use Rattle.std.specs.Int.{Width, to_be_bytes, cast_unsigned}
use mir.Val.{bits}

-- the bytes that a number with a sign is written as
abbrev pub signed_bytes : Width → ℤ → List ℕ
signed_bytes w n = to_be_bytes w (cast_unsigned w n)

-- The piece is the bytes of this number.
pub record IsSigned (w : Width) (piece : List ℕ) (n : ℤ) : Type 0 where
  pub fits : FitsSigned w n
  pub bytes : piece ≡ signed_bytes w n

-- The piece is the bytes of this number, which has no sign.
pub record IsUnsigned (w : Width) (piece : List ℕ) (n : ℕ) : Type 0 where
  pub fits : n < 2 ^ bits w
  pub bytes : piece ≡ to_be_bytes w n
