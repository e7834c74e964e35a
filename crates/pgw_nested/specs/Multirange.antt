-- The field of a multirange, and with which error a piece is refused that is none. Stated over any part: what a cell
-- spells as one of its ranges, and with what it fails as one.
use Rattle.std.specs.Prelude.{◌≡◌, ◌<◌, ◌^◌, ◌++◌, ℕ, false, List, length}
use Rattle.std.specs.Int.{w32, to_be_bytes}
use Rattle.pgw_wire.specs.Cell.{Cell, frame}
use Rattle.pgw_wire.specs.declared.kind.Break.{Break}
use Rattle.pgw_wire.specs.declared.sql_error.SqlError.{SqlError}
use Rattle.pgw_wire.specs.declared.sql_error.SqlError.TheVariants.{ShortBuffer}
use Rattle.pgw_nested.specs.Frames.{frames, IsFramed, AreFramed}
use Rattle.pgw_nested.specs.Array.{Elements, Each, FailsBehind, kind_named}

-- so many ranges have to come in these bytes, none of which is null
abbrev pub ranges_in : ℕ → List ℕ → Elements
ranges_in count rest = record { left = count; nulls = false; rest = rest }

-- The field of a multirange begins with how many ranges it has.
pub record BeginsMultirange (bytes : List ℕ) (ranges : Elements) : Type 0 where
  pub count : ℕ
  pub rest : List ℕ
  pub fits : count < 2 ^ 32
  pub is : bytes ≡ to_be_bytes w32 count ++ rest
  pub ranges_are : ranges ≡ ranges_in count rest

-- The field of a multirange with these cells: their number, and then their frames. What stands behind the last is any.
pub record AreMultirangePieces (bytes : List ℕ) (cells : List Cell) : Type 0 where
  pub ranges : Elements
  pub behind : List ℕ
  pub begins : BeginsMultirange bytes ranges
  pub many : ranges.left ≡ length cells
  pub framed : AreFramed ranges.nulls cells
  pub is : ranges.rest ≡ frames cells ++ behind

-- The field of a multirange whose cells spell these ranges.
pub record IsMultirange {A : Type 0} (Spell : Cell → A → Type 0) (bytes : List ℕ) (ranges : List A) : Type 0 where
  pub cells : List Cell
  pub are : AreMultirangePieces bytes cells
  pub spelled : Each Spell cells ranges

-- The frames of some ranges stand in the field, fewer than it counts, which spell values, and behind them the frame of
-- one more, whatever that spells.
pub record ReachesRange {A : Type 0} (Spell : Cell → A → Type 0) (bytes : List ℕ) : Type 0 where
  pub ranges : Elements
  pub begins : BeginsMultirange bytes ranges
  pub cells : List Cell
  pub values : List A
  pub cell : Cell
  pub behind : List ℕ
  pub fewer : length cells < ranges.left
  pub framed : AreFramed ranges.nulls cells × IsFramed ranges.nulls cell
  pub is : ranges.rest ≡ frames cells ++ (frame cell ++ behind)
  pub spelled : Each Spell cells values

-- The first fault, from the left, of a piece that is the field of no multirange. `name` is how an error is told.
pub data FailsMultirange {A E : Type 0} (name : SqlError → E) (Spell : Cell → A → Type 0) (Fail : Cell → E → Type 0)
    (bytes : List ℕ) (e : E) : Type 0 where
  no_count : length bytes < 4 → e ≡ name ShortBuffer → FailsMultirange name Spell Fail bytes e
  fails_at_range : (ranges : Elements) → BeginsMultirange bytes ranges → FailsBehind name Spell Fail ranges e
      → FailsMultirange name Spell Fail bytes e

-- with which error a piece is refused that is of no multirange
abbrev pub RefusesMultirange : {A : Type 0} → (Cell → A → Type 0) → (Cell → SqlError → Type 0) → List ℕ → SqlError
    → Type 0
RefusesMultirange Spell Refuse bytes e = FailsMultirange (λ error. error) Spell Refuse bytes e

-- in which kind a piece breaks that is of no multirange
abbrev pub BreaksMultirange : {A : Type 0} → (Cell → A → Type 0) → (Break → Cell → Type 0) → Break → List ℕ → Type 0
BreaksMultirange Spell Broken kind bytes = FailsMultirange kind_named Spell (λ cell k. Broken k cell) bytes kind

-- what a multirange of these cells is written as
abbrev pub multirange_bytes : List Cell → List ℕ
multirange_bytes cells = to_be_bytes w32 (length cells) ++ frames cells
