-- The cells inside of a value. Each stands there as its frame: its length in 4 bytes, and then its bytes.
use Rattle.std.specs.Prelude.{◌≡◌, ◌≢◌, ◌<◌, ◌≤◌, ◌^◌, ◌⊎◌, ◌++◌, ⊤, ℕ, Bool, true, List, [], ◌∷◌, length, None, Some}
use Rattle.std.specs.Int.{w32, to_be_bytes, cast_signed}
use Rattle.pgw_wire.specs.Cell.{Cell, frame}
use Rattle.pgw_wire.specs.declared.sql_error.SqlError.{SqlError}
use Rattle.pgw_wire.specs.declared.sql_error.SqlError.TheVariants.{ShortBuffer, NegativeSize, ElementBytes}

-- their frames, one behind the other
abbrev pub frames : List Cell → List ℕ
frames [] = []
frames (c ∷ cs) = frame c ++ frames cs

-- A null stands only where nulls may, and a piece has at most 2147483647 bytes.
abbrev pub IsFramed : Bool → Cell → Type 0
IsFramed nulls None = nulls ≡ true
IsFramed nulls (Some p) = length p < 2147483648

abbrev pub AreFramed : Bool → List Cell → Type 0
AreFramed nulls [] = ⊤
AreFramed nulls (c ∷ cs) = IsFramed nulls c × AreFramed nulls cs

-- No frame stands in front of the bytes: they end inside its length; the length is negative, and not that of a null
-- where nulls may stand; or it is more than the bytes behind it. Each with the error that tells it.
pub data HasNoFrame (nulls : Bool) (bytes : List ℕ) (error : SqlError) : Type 0 where
  no_length : length bytes < 4 → error ≡ ShortBuffer → HasNoFrame nulls bytes error
  negative_length : (n : ℕ) (rest : List ℕ) → bytes ≡ to_be_bytes w32 n ++ rest → 2147483648 ≤ n → n < 2 ^ 32
      → (nulls ≡ true → n ≢ 4294967295) → error ≡ NegativeSize (cast_signed w32 n) → HasNoFrame nulls bytes error
  past_the_end : (n : ℕ) (rest : List ℕ) → bytes ≡ to_be_bytes w32 n ++ rest → n < 2147483648 → length rest < n
      → error ≡ ElementBytes (cast_signed w32 n) (length rest) → HasNoFrame nulls bytes error

-- No piece of this length stands in front of the bytes: the length is negative, or it is more than the bytes. Each with
-- the error that tells it.
abbrev pub HasNoPiece : ℕ → List ℕ → SqlError → Type 0
HasNoPiece n bytes error =
    ((2147483648 ≤ n) × (error ≡ NegativeSize (cast_signed w32 n)))
    ⊎ ((n < 2147483648) × (length bytes < n) × (error ≡ ElementBytes (cast_signed w32 n) (length bytes)))
