-- What the readers of a range's bounds and of a multirange's ranges have still to give, and what a call of them gives.
use Rattle.std.specs.Prelude.{◌≡◌, ◌<◌, if◌then◌else◌, ℕ, false, List, ◌∷◌, length, Option, None, Some, Result, Ok, Err}
use Rattle.std.specs.Borrow.{Bor}
use Rattle.std.specs.declared.ops.Bound.{Bound}
use Rattle.std.specs.declared.ops.Bound.TheVariants as bound
use Rattle.pgw_wire.specs.declared.sql_error.SqlError.{SqlError}
use Rattle.pgw_wire.specs.declared.sql_error.SqlError.TheVariants.{ShortBuffer}
use Rattle.pgw_nested.specs.Frames.{HasNoFrame}
use Rattle.pgw_nested.specs.Array.{Elements}
use Rattle.pgw_nested.specs.Pieces.{IsNext}
use Rattle.pgw_nested.specs.Flags.{has, empty, lower_infinite, upper_infinite}
use Rattle.pgw_nested.specs.Range.{HasLower, HasUpper, as_range}
use Rattle.pgw_nested.specs.Multirange.{ranges_in}
use Rattle.pgw_nested.specs.declared.range_pieces.BoundPiece.{BoundPiece}
use Rattle.pgw_nested.specs.declared.range_pieces.BoundPiece.TheVariants.{Unbounded, Included, Excluded}
use Rattle.pgw_nested.specs.declared.range_pieces.Next.{Next}
use Rattle.pgw_nested.specs.declared.range_pieces.Next.TheVariants.{Lower, Upper, Nothing}
use Rattle.pgw_nested.specs.declared.range_pieces.RangePieces.{RangePieces}
use Rattle.pgw_nested.specs.declared.multirange_pieces.MultirangePieces.{MultirangePieces}

-- without where the piece lies in memory
abbrev pub bound_of : BoundPiece → Bound (List ℕ)
bound_of Unbounded = bound.Unbounded
bound_of (Included p) = bound.Included p.now
bound_of (Excluded p) = bound.Excluded p.now

-- which bound of a range comes next, under which flags, and the bytes that it stands in
pub record Coming : Type 0 where
  pub next : Next
  pub flags : ℕ
  pub rest : List ℕ

abbrev pub coming_of : RangePieces → Coming
coming_of p = record { next = p.next; flags = p.flags.0; rest = p.rest.now }

-- Nothing comes where the flags say that the range is empty, and else the lower bound.
abbrev pub first_under : ℕ → Next
first_under flags = if has flags empty then Nothing else Lower

-- The bytes begin with a byte of flags, and what comes is behind them.
pub record BeginsRange (bytes : List ℕ) (coming : Coming) : Type 0 where
  pub is : bytes ≡ coming.flags ∷ coming.rest
  pub first : coming.next ≡ first_under coming.flags

-- The bound is the next, and the upper comes behind the lower, and nothing behind the upper.
abbrev pub IsNextBound : Next → Bound (List ℕ) → Coming → Coming → Type 0
IsNextBound Lower b before now =
    HasLower before.flags before.rest b now.rest × (now.flags ≡ before.flags) × (now.next ≡ Upper)
IsNextBound Upper b before now =
    HasUpper before.flags before.rest b × (now.flags ≡ before.flags) × (now.next ≡ Nothing)
IsNextBound Nothing b before now = ⊥

-- No piece of the next bound stands there. Each with the error that tells it.
abbrev pub HasNoBound : Next → Coming → SqlError → Type 0
HasNoBound Lower before e =
    (error : SqlError) × (has before.flags lower_infinite ≡ false) × HasNoFrame false before.rest error
    × (e ≡ as_range error)
HasNoBound Upper before e = (has before.flags upper_infinite ≡ false) × (length before.rest < 4) × (e ≡ ShortBuffer)
HasNoBound Nothing before e = ⊥

-- None comes where no bound is left, and an error where one is and no piece stands there. Both leave what has to come.
abbrev pub GivesBound : Coming → Result (Option BoundPiece) SqlError → Coming → Type 0
GivesBound before (Ok None) now = (before.next ≡ Nothing) × (now ≡ before)
GivesBound before (Ok (Some b)) now = IsNextBound before.next (bound_of b) before now
GivesBound before (Err e) now = HasNoBound before.next before e × (now ≡ before)

-- the ranges that a reader of a multirange has still to give
abbrev pub ranges_of : MultirangePieces → Elements
ranges_of p = ranges_in p.left p.rest.now

-- None comes where no range is left, and an error where one is and no frame stands there. Both leave the ranges.
abbrev pub GivesRange : Elements → Result (Option (Bor (List ℕ))) SqlError → Elements → Type 0
GivesRange before (Ok None) now = (before.left ≡ 0) × (now ≡ before)
GivesRange before (Ok (Some piece)) now = IsNext (Some piece.now) before now
GivesRange before (Err e) now = (0 < before.left) × HasNoFrame before.nulls before.rest e × (now ≡ before)
