-- The field of a range, and with which error a piece is refused that is none. Stated over any part: what a cell spells
-- as a bound's value, and with what it fails as one. The bounds are never null, so that only pieces are asked.
use Rattle.std.specs.Prelude.{◌≡◌, ◌<◌, ◌+◌, ◌++◌, if◌then◌else◌, ⊤, ℕ, Bool, true, false}
use Rattle.std.specs.Prelude.{List, [], ◌∷◌, length, Option, None, Some}
use Rattle.std.specs.declared.ops.Bound.{Bound}
use Rattle.std.specs.declared.ops.Bound.TheVariants.{Included, Excluded, Unbounded}
use Rattle.pgw_wire.specs.Cell.{Cell, frame}
use Rattle.pgw_wire.specs.declared.kind.Break.{Break}
use Rattle.pgw_wire.specs.declared.sql_error.SqlError.{SqlError}
use Rattle.pgw_wire.specs.declared.sql_error.SqlError.TheVariants.{ShortBuffer, ElementBytes, RangeElement}
use Rattle.pgw_nested.specs.Frames.{HasNoFrame}
use Rattle.pgw_nested.specs.Array.{kind_named}
use Rattle.pgw_nested.specs.Flags.{has, empty, lower_included, upper_included, lower_infinite, upper_infinite}

-- the lower bound and the upper
abbrev pub Bounds : Type 0 → Type 0
Bounds A = Bound A × Bound A

-- a bound that is there: whether it is a value of the range
abbrev pub bound_at : {A : Type 0} → Bool → A → Bound A
bound_at included v = if included then Included v else Excluded v

-- The lower bound stands in front of the bytes as its frame, and these are behind it. Where it is infinite no byte is
-- its.
pub data HasLower (flags : ℕ) (bytes : List ℕ) (lower : Bound (List ℕ)) (behind : List ℕ) : Type 0 where
  no_lower : has flags lower_infinite ≡ true → lower ≡ Unbounded → behind ≡ bytes → HasLower flags bytes lower behind
  lower_piece : (piece : List ℕ) → has flags lower_infinite ≡ false → length piece < 2147483648
      → bytes ≡ frame (Some piece) ++ behind → lower ≡ bound_at (has flags lower_included) piece
      → HasLower flags bytes lower behind

-- The upper bound is all the bytes behind four, whatever these are. Where it is infinite the bytes are any.
pub data HasUpper (flags : ℕ) (bytes : List ℕ) (upper : Bound (List ℕ)) : Type 0 where
  no_upper : has flags upper_infinite ≡ true → upper ≡ Unbounded → HasUpper flags bytes upper
  upper_piece : (word piece : List ℕ) → has flags upper_infinite ≡ false → length word ≡ 4 → bytes ≡ word ++ piece
      → upper ≡ bound_at (has flags upper_included) piece → HasUpper flags bytes upper

-- The field has these pieces as its bounds: a byte of flags, the lower bound, and the upper. There are none where it
-- says that the range is empty, and then any bytes may follow.
pub data AreRangeParts (bytes : List ℕ) (parts : Option (Bounds (List ℕ))) : Type 0 where
  no_bounds : (flags : ℕ) (rest : List ℕ) → bytes ≡ flags ∷ rest → has flags empty ≡ true → parts ≡ None
      → AreRangeParts bytes parts
  two_bounds : (flags : ℕ) (rest behind : List ℕ) (lower upper : Bound (List ℕ)) → bytes ≡ flags ∷ rest
      → has flags empty ≡ false → HasLower flags rest lower behind → HasUpper flags behind upper
      → parts ≡ Some (lower, upper) → AreRangeParts bytes parts

-- Both are bounds of the same kind, and of their values this is so.
abbrev pub AreBounds : {C A : Type 0} → (C → A → Type 0) → Bound C → Bound A → Type 0
AreBounds R Unbounded Unbounded = ⊤
AreBounds R Unbounded _ = ⊥
AreBounds R (Included c) (Included v) = R c v
AreBounds R (Included c) _ = ⊥
AreBounds R (Excluded c) (Excluded v) = R c v
AreBounds R (Excluded c) _ = ⊥

-- The bound's piece spells the value.
abbrev pub SpellsBound : {A : Type 0} → (Cell → A → Type 0) → Bound (List ℕ) → Bound A → Type 0
SpellsBound Spell piece bound = AreBounds (λ p v. Spell (Some p) v) piece bound

-- It is refused as one.
abbrev pub RefusesBound : (Cell → SqlError → Type 0) → Bound (List ℕ) → SqlError → Type 0
RefusesBound Refuse Unbounded e = ⊥
RefusesBound Refuse (Included p) e = Refuse (Some p) e
RefusesBound Refuse (Excluded p) e = Refuse (Some p) e

-- The bounds of an empty range are its type's default value, twice excluded.
abbrev pub no_value : {A : Type 0} → A → Bounds A
no_value default = (Excluded default, Excluded default)

abbrev pub SpellParts : {A : Type 0} → (Cell → A → Type 0) → A → Option (Bounds (List ℕ)) → Bounds A → Type 0
SpellParts Spell default None bounds = bounds ≡ no_value default
SpellParts Spell default (Some parts) bounds = SpellsBound Spell parts.0 bounds.0 × SpellsBound Spell parts.1 bounds.1

-- The field of a range whose pieces spell these bounds.
pub record IsRange {A : Type 0} (Spell : Cell → A → Type 0) (default : A) (bytes : List ℕ) (bounds : Bounds A)
    : Type 0 where
  pub parts : Option (Bounds (List ℕ))
  pub are : AreRangeParts bytes parts
  pub spelled : SpellParts Spell default parts bounds

-- A length that is more than the bytes behind it is told of a range in words of its own.
abbrev pub as_range : SqlError → SqlError
as_range (ElementBytes want have) = RangeElement want have
as_range e = e

-- The lower bound fails: no frame stands there, or that of a piece that fails as a value.
pub data FailsLower {E : Type 0} (name : SqlError → E) (Fail : Cell → E → Type 0) (flags : ℕ) (bytes : List ℕ) (e : E)
    : Type 0 where
  no_lower_piece : (error : SqlError) → has flags lower_infinite ≡ false → HasNoFrame false bytes error
      → e ≡ name (as_range error) → FailsLower name Fail flags bytes e
  lower_fails : (piece behind : List ℕ) → has flags lower_infinite ≡ false → length piece < 2147483648
      → bytes ≡ frame (Some piece) ++ behind → Fail (Some piece) e → FailsLower name Fail flags bytes e

-- The upper bound fails: fewer than four bytes are there, or what stands behind them fails as a value.
pub data FailsUpper {E : Type 0} (name : SqlError → E) (Fail : Cell → E → Type 0) (flags : ℕ) (bytes : List ℕ) (e : E)
    : Type 0 where
  no_upper_piece : has flags upper_infinite ≡ false → length bytes < 4 → e ≡ name ShortBuffer
      → FailsUpper name Fail flags bytes e
  upper_fails : (word piece : List ℕ) → has flags upper_infinite ≡ false → length word ≡ 4 → bytes ≡ word ++ piece
      → Fail (Some piece) e → FailsUpper name Fail flags bytes e

-- The first fault, from the left, of a piece that is the field of no range. `name` is how an error is told.
pub data FailsRange {A E : Type 0} (name : SqlError → E) (Spell : Cell → A → Type 0) (Fail : Cell → E → Type 0)
    (bytes : List ℕ) (e : E) : Type 0 where
  no_flags : bytes ≡ [] → e ≡ name ShortBuffer → FailsRange name Spell Fail bytes e
  fails_at_lower : (flags : ℕ) (rest : List ℕ) → bytes ≡ flags ∷ rest → has flags empty ≡ false
      → FailsLower name Fail flags rest e → FailsRange name Spell Fail bytes e
  fails_at_upper : (flags : ℕ) (rest behind : List ℕ) (lower : Bound (List ℕ)) (value : Bound A) → bytes ≡ flags ∷ rest
      → has flags empty ≡ false → HasLower flags rest lower behind → SpellsBound Spell lower value
      → FailsUpper name Fail flags behind e → FailsRange name Spell Fail bytes e

-- with which error a piece is refused that is of no range
abbrev pub RefusesRange : {A : Type 0} → (Cell → A → Type 0) → (Cell → SqlError → Type 0) → List ℕ → SqlError → Type 0
RefusesRange Spell Refuse bytes e = FailsRange (λ error. error) Spell Refuse bytes e

-- in which kind a piece breaks that is of no range
abbrev pub BreaksRange : {A : Type 0} → (Cell → A → Type 0) → (Break → Cell → Type 0) → Break → List ℕ → Type 0
BreaksRange Spell Broken kind bytes = FailsRange kind_named Spell (λ cell k. Broken k cell) bytes kind

-- the flags of a lower bound, and of an upper
abbrev pub lower_flags : {C : Type 0} → Bound C → ℕ
lower_flags Unbounded = lower_infinite
lower_flags (Included c) = lower_included
lower_flags (Excluded c) = 0

abbrev pub upper_flags : {C : Type 0} → Bound C → ℕ
upper_flags Unbounded = upper_infinite
upper_flags (Included c) = upper_included
upper_flags (Excluded c) = 0

abbrev pub bound_bytes : Bound Cell → List ℕ
bound_bytes Unbounded = []
bound_bytes (Included c) = frame c
bound_bytes (Excluded c) = frame c

-- What a range with these bounds is written as. It is never marked as empty.
abbrev pub range_bytes : Bounds Cell → List ℕ
range_bytes cells = (lower_flags cells.0 + upper_flags cells.1) ∷ bound_bytes cells.0 ++ bound_bytes cells.1
