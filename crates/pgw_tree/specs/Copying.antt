-- What the steps of a copy leave, for the crate's own functions: a row or the end at a time, and the rows so far.
use Rattle.std.specs.Prelude.{◌≡◌, ℕ, List, length, Result}
use Rattle.pgw_wire.specs.Cell.{Cell}
use Rattle.pgw_wire.specs.Outside.{SourceState, Takes}
use Rattle.pgw_copy.specs.Format.{IsRow}
use Rattle.pgw_tree.specs.declared.fault.CopyFault.{CopyFault}
use Rattle.pgw_tree.specs.declared.fault.CopyFault.TheVariants.{Truncated, ReadFault}
use Rattle.pgw_meta.specs.Shape.{Shape}
use Rattle.pgw_cell.specs.Value.{Value}
use Rattle.pgw_tree.specs.Spells.{SpellsRow}
use Rattle.pgw_tree.specs.Canonical.{FitsRow, canonical_front}
use Rattle.pgw_tree.specs.Stream.{IsFront, IsWithin}
use Rattle.pgw_tree.specs.Limits.{Limits}
use Rattle.pgw_meta.specs.Known.{Known}

-- a row whose first cells spell these values, which fit
pub record IsValuesRow (most : ℕ) (columns : List Shape) (bytes : List ℕ) (values : List Value) : Type 0 where
  pub cells : List Cell
  pub is : IsRow cells bytes
  pub spelled : SpellsRow columns cells values
  pub fit : FitsRow most columns values

-- What a call of a copy takes, where `Truncated` comes only at the end of the source, and `ReadFault` only where it
-- failed.
abbrev pub Copies : {X Origin : Type 0} → SourceState Origin → SourceState Origin → Result X CopyFault
    → (X → List ℕ → Type 0) → (CopyFault → List ℕ → Type 0) → Type 0
Copies before now result P Fault = Takes Truncated ReadFault before now result P Fault

-- the rows so far: the front that spells them was taken, and its canonical form was written
pub record IsCopying (known : Known) (limits : Limits) (columns : List Shape) (n : ℕ) (Written : List ℕ → Type 0)
    (taken : List ℕ) : Type 0 where
  pub rows : List (List Value)
  pub begins : IsFront columns taken rows
  pub within : IsWithin limits columns rows
  pub many : length rows ≡ n
  pub written : Written (canonical_front known columns rows)
