-- Fields of one size, one behind the other, for the crate's own functions.
use Rattle.std.specs.Prelude.{◌≡◌, ℕ, List, [], ◌∷◌, ◌++◌, length, map, get_or, Some}
use Rattle.std.specs.List.{AllByRecursion}
use Rattle.std.specs.Int.{from_be_bytes, w32}
use Rattle.pgw_nested.specs.Frames.{frames}

-- The bytes are the fields of so many pieces of this size, and the rest.
pub record AreEqualFields (size count : ℕ) (bytes rest : List ℕ) : Type 0 where
  pub pieces : List (List ℕ)
  pub many : length pieces ≡ count
  pub each : AllByRecursion (λ p. length p ≡ size) pieces
  pub is : bytes ≡ frames (map Some pieces) ++ rest

-- the length that a field begins with
abbrev pub length_word : List ℕ → ℕ
length_word field = from_be_bytes w32 (get_or field 0 0 ∷ get_or field 1 0 ∷ get_or field 2 0 ∷ get_or field 3 0 ∷ [])
