-- Fields that have so many bytes, whatever the value.
use Rattle.std.specs.Prelude.{◌≡◌, ◌≢◌, ◌==◌, if◌then◌else◌, ℕ, List, length, Result, Ok, Err}
use Rattle.pgw_wire.specs.declared.kind.Break.{Break}
use Rattle.pgw_wire.specs.declared.kind.Break.TheVariants.{Size}

-- A piece of another length is of no value.
abbrev pub BreaksSized : ℕ → Break → List ℕ → Type 0
BreaksSized size kind piece = (kind ≡ Size) × (length piece ≢ size)

-- The piece is so many bytes, which are the value.
pub record IsSized (size : ℕ) (piece bytes : List ℕ) : Type 0 where
  pub many : length bytes ≡ size
  pub is : piece ≡ bytes

-- What a piece is read as, as one function, for the proofs: of a piece of the size, the value that these bytes are of.
abbrev pub read_sized : {A : Type 0} → ℕ → (List ℕ → A) → List ℕ → Result A Break
read_sized size value piece = if length piece == size then Ok (value piece) else Err Size
