-- The field of an array, and with which error a piece is refused that is none. Stated over any part: what a cell spells
-- as an element, and with what it fails as one. So this says what an array of any elements is.
use Rattle.std.specs.Prelude.{◌≡◌, ◌≢◌, ◌<◌, ◌≤◌, ◌^◌, ◌==◌, ◌||◌, ◌++◌, if◌then◌else◌, nat_lt, not, ⊤, ℕ, Bool}
use Rattle.std.specs.Prelude.{true, false}
use Rattle.std.specs.Prelude.{List, [], ◌∷◌, length, None, Some, unwrap_or}
use Rattle.std.specs.Int.{w32, to_be_bytes, cast_signed}
use Rattle.pgw_wire.specs.Cell.{Cell, frame}
use Rattle.pgw_wire.specs.Refusal.{kind_of}
use Rattle.pgw_wire.specs.declared.kind.Break.{Break}
use Rattle.pgw_wire.specs.declared.kind.Break.TheVariants.{Size}
use Rattle.pgw_wire.specs.declared.sql_error.SqlError.{SqlError}
use Rattle.pgw_wire.specs.declared.sql_error.SqlError.TheVariants.{ShortBuffer, Dimensions}
use Rattle.pgw_nested.specs.Frames.{frames, IsFramed, AreFramed, HasNoFrame}

-- The 20 bytes in front of the elements of an array of one dimension: the number of dimensions, flags, the oid of the
-- elements' type, how many elements there are, and the index of the first.
unfoldable pub array_head : ℕ → ℕ → ℕ → ℕ → List ℕ
array_head flags oid count bound =
    to_be_bytes w32 1 ++ to_be_bytes w32 flags ++ to_be_bytes w32 oid ++ to_be_bytes w32 count ++ to_be_bytes w32 bound

-- No dimension is stated, so that there is no element: the number 0, flags, an oid, and any rest.
pub record HasNoDimension (bytes : List ℕ) : Type 0 where
  pub flags : ℕ
  pub oid : ℕ
  pub rest : List ℕ
  pub is : bytes ≡ to_be_bytes w32 0 ++ to_be_bytes w32 flags ++ to_be_bytes w32 oid ++ rest

-- One dimension is stated, with these flags and this count. The oid and the index of the first element may be any.
pub record HasOneDimension (bytes : List ℕ) (flags count : ℕ) (behind : List ℕ) : Type 0 where
  pub oid : ℕ
  pub bound : ℕ
  pub flags_fit : flags < 2 ^ 32
  pub count_fits : count < 2 ^ 32
  pub is : bytes ≡ array_head flags oid count bound ++ behind

-- what has still to come of an array: how many elements, whether a null may be one, and the bytes that they stand in
pub record Elements : Type 0 where
  pub left : ℕ
  pub nulls : Bool
  pub rest : List ℕ

abbrev pub no_elements : Elements
no_elements = record { left = 0; nulls = false; rest = [] }

-- A count is a number with a sign, and one below 0 counts none.
abbrev pub elements_in : ℕ → ℕ
elements_in count = if nat_lt count 2147483648 then count else 0

-- Nulls may be elements where the flags are not 0.
abbrev pub elements_behind : ℕ → ℕ → List ℕ → Elements
elements_behind flags count behind = record { left = elements_in count; nulls = not (flags == 0); rest = behind }

-- The bytes begin as an array of these elements does.
pub data BeginsArray (bytes : List ℕ) (elements : Elements) : Type 0 where
  no_dimension : HasNoDimension bytes → elements ≡ no_elements → BeginsArray bytes elements
  one_dimension : (flags count : ℕ) (behind : List ℕ) → HasOneDimension bytes flags count behind
      → elements ≡ elements_behind flags count behind → BeginsArray bytes elements

-- They begin as no array does: they end too early, which is in front of 12 bytes where no dimension is stated and else
-- of 20, or state a number of dimensions that is neither 0 nor 1. Each with the error that tells it.
pub data BeginsNoArray (bytes : List ℕ) (error : SqlError) : Type 0 where
  too_short : length bytes < 12 → error ≡ ShortBuffer → BeginsNoArray bytes error
  too_short_for_one : (n : ℕ) (rest : List ℕ) → bytes ≡ to_be_bytes w32 n ++ rest → n < 2 ^ 32 → n ≢ 0
      → length bytes < 20 → error ≡ ShortBuffer → BeginsNoArray bytes error
  many_dimensions : (n : ℕ) (rest : List ℕ) → bytes ≡ to_be_bytes w32 n ++ rest → n < 2 ^ 32 → n ≢ 0 → n ≢ 1
      → 20 ≤ length bytes → error ≡ Dimensions (cast_signed w32 n) → BeginsNoArray bytes error

-- The field of an array with these cells: its beginning, and then their frames. What stands behind the last is any.
pub record AreArrayCells (bytes : List ℕ) (cells : List Cell) : Type 0 where
  pub elements : Elements
  pub behind : List ℕ
  pub begins : BeginsArray bytes elements
  pub many : elements.left ≡ length cells
  pub framed : AreFramed elements.nulls cells
  pub is : elements.rest ≡ frames cells ++ behind

-- The cells spell the values, one after the other.
abbrev pub Each : {A : Type 0} → (Cell → A → Type 0) → List Cell → List A → Type 0
Each Spell [] [] = ⊤
Each Spell [] (v ∷ vs) = ⊥
Each Spell (c ∷ cs) [] = ⊥
Each Spell (c ∷ cs) (v ∷ vs) = Spell c v × Each Spell cs vs

-- The field of an array whose cells spell these values.
pub record IsArray {A : Type 0} (Spell : Cell → A → Type 0) (bytes : List ℕ) (values : List A) : Type 0 where
  pub cells : List Cell
  pub are : AreArrayCells bytes cells
  pub spelled : Each Spell cells values

-- What comes next fails: no frame stands there, or the frame of a cell that fails as an element.
pub data NextFails {E : Type 0} (name : SqlError → E) (Fail : Cell → E → Type 0) (nulls : Bool) (bytes : List ℕ)
    (e : E) : Type 0 where
  no_frame : (error : SqlError) → HasNoFrame nulls bytes error → e ≡ name error → NextFails name Fail nulls bytes e
  cell_fails : (cell : Cell) (behind : List ℕ) → bytes ≡ frame cell ++ behind → IsFramed nulls cell → Fail cell e
      → NextFails name Fail nulls bytes e

-- The frames of some cells stand there that spell values, fewer than have to come, and what comes next fails.
pub record FailsBehind {A E : Type 0} (name : SqlError → E) (Spell : Cell → A → Type 0) (Fail : Cell → E → Type 0)
    (elements : Elements) (e : E) : Type 0 where
  pub cells : List Cell
  pub values : List A
  pub behind : List ℕ
  pub fewer : length cells < elements.left
  pub framed : AreFramed elements.nulls cells
  pub is : elements.rest ≡ frames cells ++ behind
  pub spelled : Each Spell cells values
  pub next : NextFails name Fail elements.nulls behind e

-- The first fault, from the left, of a piece that is the field of no array. `name` is how an error is told.
pub data FailsArray {A E : Type 0} (name : SqlError → E) (Spell : Cell → A → Type 0) (Fail : Cell → E → Type 0)
    (bytes : List ℕ) (e : E) : Type 0 where
  fails_in_front : (error : SqlError) → BeginsNoArray bytes error → e ≡ name error → FailsArray name Spell Fail bytes e
  fails_behind : (elements : Elements) → BeginsArray bytes elements → FailsBehind name Spell Fail elements e
      → FailsArray name Spell Fail bytes e

-- with which error a piece is refused that is of no array
abbrev pub RefusesArray : {A : Type 0} → (Cell → A → Type 0) → (Cell → SqlError → Type 0) → List ℕ → SqlError → Type 0
RefusesArray Spell Refuse bytes e = FailsArray (λ error. error) Spell Refuse bytes e

-- the kind in which a piece breaks that is refused with the error; each that an array itself is refused with has one
abbrev pub kind_named : SqlError → Break
kind_named error = unwrap_or (kind_of error) Size

-- in which kind a piece breaks that is of no array
abbrev pub BreaksArray : {A : Type 0} → (Cell → A → Type 0) → (Break → Cell → Type 0) → Break → List ℕ → Type 0
BreaksArray Spell Broken kind bytes = FailsArray kind_named Spell (λ cell k. Broken k cell) bytes kind

abbrev pub is_null : Cell → Bool
is_null None = true
is_null (Some p) = false

abbrev pub any_null : List Cell → Bool
any_null [] = false
any_null (c ∷ cs) = is_null c || any_null cs

-- the flags: 1 where an element is a null, and else 0
abbrev pub flags_of : Bool → ℕ
flags_of null = if null then 1 else 0

-- What an array of these cells is written as, with elements of the type of this oid: the first has the index 1.
abbrev pub array_bytes : ℕ → List Cell → List ℕ
array_bytes oid cells = array_head (flags_of (any_null cells)) oid (length cells) 1 ++ frames cells
