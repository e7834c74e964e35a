-- What ranges and multiranges are written as, over what their type says of each value.
use Rattle.std.specs.Prelude.{◌≡◌, ◌<◌, ◌⊎◌, ◌+◌, ℕ, List, length, Result, Ok, Err}
use Rattle.std.specs.declared.ops.Bound.{Bound}
use Rattle.std.specs.declared.ops.Bound.TheVariants.{Included, Excluded, Unbounded}
use Rattle.pgw_wire.specs.Cell.{Cell}
use Rattle.pgw_wire.specs.declared.is_null.IsNull.TheVariants.{Yes, No}
use Rattle.pgw_meta.specs.Writing.{Writes, IsWriteRefused}
use Rattle.pgw_meta.specs.declared.serialize.WriteError.{WriteError}
use Rattle.pgw_nested.specs.Array.{Each}
use Rattle.pgw_nested.specs.Multirange.{multirange_bytes}
use Rattle.pgw_nested.specs.Written.{WritesKnown, IsWrittenAs, IsRefusedWith, RefusesElements}
use Rattle.pgw_nested.specs.Range.{Bounds, AreBounds, lower_flags, upper_flags, bound_bytes, range_bytes}
use Rattle.pgw_nested.specs.declared.range_writing.BoundKind.{BoundKind}
use Rattle.pgw_nested.specs.declared.range_writing.BoundKind.TheVariants as kind

-- The value of the bound, where there is one, is written as the cell of the same kind of bound.
abbrev pub BoundWrittenAs : {A : Type 0} → WritesKnown A → Bound Cell → Bound A → Type 0
BoundWrittenAs writes cell bound = AreBounds (IsWrittenAs writes) cell bound

-- It is refused.
abbrev pub RefusesWrittenBound : {A : Type 0} → WritesKnown A → Bound A → WriteError → Type 0
RefusesWrittenBound writes Unbounded e = ⊥
RefusesWrittenBound writes (Included v) e = IsRefusedWith writes v e
RefusesWrittenBound writes (Excluded v) e = IsRefusedWith writes v e

-- The lower bound is refused, or it is written and the upper is refused.
abbrev pub RefusesBounds : {A : Type 0} → WritesKnown A → Bounds A → WriteError → Type 0
RefusesBounds writes bounds e =
    RefusesWrittenBound writes bounds.0 e
    ⊎ ((cell : Bound Cell) × BoundWrittenAs writes cell bounds.0 × RefusesWrittenBound writes bounds.1 e)

-- A range is never null. It is written as its flags and the cells of its bounds.
abbrev pub WritesRange : {A : Type 0} → Writes A → Writes (Bounds A)
WritesRange writes known bounds (Ok Yes) bytes = ⊥
WritesRange writes known bounds (Ok No) bytes =
    (cells : Bounds Cell) × BoundWrittenAs (writes known) cells.0 bounds.0
    × BoundWrittenAs (writes known) cells.1 bounds.1 × (bytes ≡ range_bytes cells)
WritesRange writes known bounds (Err e) bytes = RefusesBounds (writes known) bounds e

-- What has bounds, of which the lower is as the first says and the upper as the second, is written as their range.
abbrev pub WritesBoundsOf : {A R : Type 0} → (R → Bound A → Type 0) → (R → Bound A → Type 0) → Writes A → Writes R
WritesBoundsOf {A} is_lower is_upper writes known value answer bytes =
    (bounds : Bounds A) × is_lower value bounds.0 × is_upper value bounds.1
    × WritesRange writes known bounds answer bytes

-- A multirange is never null. It is written as the cells of its ranges. It is refused as the elements of an array are.
abbrev pub WritesMultirange : {A : Type 0} → Writes A → Writes (List A)
WritesMultirange writes known ranges (Ok Yes) bytes = ⊥
WritesMultirange writes known ranges (Ok No) bytes =
    (cells : List Cell) × (length ranges < 2147483648) × Each (IsWrittenAs (writes known)) cells ranges
    × (bytes ≡ multirange_bytes cells)
WritesMultirange writes known ranges (Err e) bytes = RefusesElements (writes known) ranges e

-- ---- what the crate's own calls leave of the output

-- a bound of this kind, without its value
abbrev pub bound_of_kind : BoundKind → Bound (Unit {0})
bound_of_kind kind.Unbounded = Unbounded
bound_of_kind kind.Included = Included tt
bound_of_kind kind.Excluded = Excluded tt

-- the flags of a range whose bounds are of these kinds
abbrev pub flags_of_kinds : BoundKind → BoundKind → ℕ
flags_of_kinds lower upper = lower_flags (bound_of_kind lower) + upper_flags (bound_of_kind upper)

-- One bound was written.
abbrev pub WroteBound : {A : Type 0} → WritesKnown A → Bound A → List ℕ → Result (Unit {0}) WriteError → Type 0
WroteBound writes bound bytes (Ok u) =
    (cell : Bound Cell) × BoundWrittenAs writes cell bound × (bytes ≡ bound_bytes cell)
WroteBound writes bound bytes (Err e) = IsWriteRefused (RefusesWrittenBound writes bound) e
