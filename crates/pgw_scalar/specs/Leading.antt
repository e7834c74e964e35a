-- The fields of a bool, a char and an oid, of which the first bytes are read and the rest is ignored.
use Rattle.std.specs.Prelude.{◌≡◌, ◌<◌, ◌==◌, ◌^◌, ◌++◌, if◌then◌else◌, Bool, not, nat_lt, ℕ, List, [], ◌∷◌, length, take, Result, Ok, Err}
use Rattle.std.specs.Int.{w32, to_be_bytes, from_be_bytes}
use Rattle.pgw_wire.specs.declared.kind.Break.{Break}
use Rattle.pgw_wire.specs.declared.kind.Break.TheVariants.{Size}

-- The piece has a byte, which is 0 of false and any other of true.
pub record IsBool (piece : List ℕ) (truth : Bool) : Type 0 where
  pub first : ℕ
  pub rest : List ℕ
  pub is : piece ≡ first ∷ rest
  pub says : truth ≡ not (first == 0)

abbrev pub bool_bytes : Bool → List ℕ
bool_bytes truth = (if truth then 1 else 0) ∷ []

-- The piece begins with this byte.
pub record IsChar (piece : List ℕ) (byte : ℕ) : Type 0 where
  pub rest : List ℕ
  pub fits : byte < 256
  pub is : piece ≡ byte ∷ rest

abbrev pub char_bytes : ℕ → List ℕ
char_bytes byte = byte ∷ []

-- A piece without a byte is of no bool and of no char.
abbrev pub BreaksEmpty : Break → List ℕ → Type 0
BreaksEmpty kind piece = (kind ≡ Size) × (piece ≡ [])

-- The piece begins with the four bytes of this number, the most significant first.
pub record IsOid (piece : List ℕ) (oid : ℕ) : Type 0 where
  pub rest : List ℕ
  pub fits : oid < 2 ^ 32
  pub is : piece ≡ to_be_bytes w32 oid ++ rest

abbrev pub oid_bytes : ℕ → List ℕ
oid_bytes oid = to_be_bytes w32 oid

-- A piece of fewer bytes is of no oid.
abbrev pub BreaksShort : Break → List ℕ → Type 0
BreaksShort kind piece = (kind ≡ Size) × (length piece < 4)

-- What a piece is read as, as one function of each, for the proofs.
abbrev pub read_first : {A : Type 0} → (ℕ → A) → List ℕ → Result A Break
read_first value [] = Err Size
read_first value (first ∷ rest) = Ok (value first)

abbrev pub read_bool : List ℕ → Result Bool Break
read_bool piece = read_first (λ first. not (first == 0)) piece

abbrev pub read_char : List ℕ → Result ℕ Break
read_char piece = read_first (λ first. first) piece

abbrev pub read_oid : List ℕ → Result ℕ Break
read_oid piece = if nat_lt (length piece) 4 then Err Size else Ok (from_be_bytes w32 (take 4 piece))
