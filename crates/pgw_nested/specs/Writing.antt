-- What the calls that write an array leave of the output, element by element. For the crate's own functions.
use Rattle.std.specs.Prelude.{◌≡◌, ◌<◌, ◌++◌, if◌then◌else◌, ℕ, Bool, List, length, None, Some, Result, Ok, Err}
use Rattle.std.specs.Int.{w32, to_be_bytes}
use Rattle.pgw_wire.specs.Cell.{Cell, frame}
use Rattle.pgw_wire.specs.Room.{overwritten}
use Rattle.pgw_wire.specs.declared.is_null.IsNull.{IsNull}
use Rattle.pgw_wire.specs.declared.is_null.IsNull.TheVariants.{Yes, No}
use Rattle.pgw_meta.specs.Writing.{IsWriteRefused}
use Rattle.pgw_meta.specs.declared.serialize.WriteError.{WriteError}
use Rattle.pgw_nested.specs.Frames.{frames}
use Rattle.pgw_nested.specs.Array.{Each, array_head, array_bytes, is_null, any_null, flags_of}
use Rattle.pgw_nested.specs.Written.{WritesKnown, IsWrittenAs, IsRefusedWith, RefusesElements}

-- the cell that a value with this answer and these bytes is written as
abbrev pub written : IsNull → List ℕ → Cell
written Yes piece = None
written No piece = Some piece

-- One value was written as the frame of its cell.
abbrev pub WroteElement : {A : Type 0} → WritesKnown A → A → List ℕ → Result IsNull WriteError → Type 0
WroteElement writes v bytes (Ok Yes) = IsWrittenAs writes None v × (bytes ≡ frame None)
WroteElement writes v bytes (Ok No) =
    (piece : List ℕ) × IsWrittenAs writes (Some piece) v × (bytes ≡ frame (Some piece))
WroteElement writes v bytes (Err e) = IsWriteRefused (IsRefusedWith writes v) e

-- the bytes of an array, whose flags say now whether it has a null
abbrev pub flagged : Bool → List ℕ → List ℕ
flagged null bytes = if null then overwritten bytes 4 (to_be_bytes w32 1) else bytes

-- One more value was written behind bytes, which makes them these.
abbrev pub WroteNext : {A : Type 0} → WritesKnown A → A → List ℕ → List ℕ → Result (Unit {0}) WriteError → Type 0
WroteNext writes v bytes more (Ok u) =
    (c : Cell) × IsWrittenAs writes c v × (more ≡ flagged (is_null c) (bytes ++ frame c))
WroteNext writes v bytes more (Err e) = IsWriteRefused (IsRefusedWith writes v) e

-- The bytes are the front of an array of so many elements, of which these values are written.
pub record IsFront {A : Type 0} (writes : WritesKnown A) (front : List A) (oid count : ℕ) (bytes : List ℕ)
    : Type 0 where
  pub cells : List Cell
  pub written : Each (IsWrittenAs writes) cells front
  pub is : bytes ≡ array_head (flags_of (any_null cells)) oid count 1 ++ frames cells

-- The elements were written as an array.
abbrev pub WroteElements : {A : Type 0} → WritesKnown A → List A → ℕ → List ℕ → Result IsNull WriteError → Type 0
WroteElements writes values oid bytes (Ok Yes) = ⊥
WroteElements writes values oid bytes (Ok No) =
    (cells : List Cell) × (length values < 2147483648) × Each (IsWrittenAs writes) cells values
    × (bytes ≡ array_bytes oid cells)
WroteElements writes values oid bytes (Err e) = IsWriteRefused (RefusesElements writes values) e
