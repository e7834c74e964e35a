-- What the crate's own functions append: the canonical fields of the values that the fields in front of bytes spell.
use Rattle.std.specs.Prelude.{◌≡◌, ℕ, ◌≤◌, ◌++◌, List, length}
use Rattle.std.specs.List.{flat_map}
use Rattle.pgw_wire.specs.Cell.{Cell, frame}
use Rattle.pgw_copy.specs.Format.{AreFields}
use Rattle.pgw_meta.specs.Shape.{Shape}
use Rattle.pgw_cell.specs.Value.{Value}
use Rattle.pgw_tree.specs.Canonical.{canonical_cells}
use Rattle.pgw_tree.specs.Columns.{SpellsFit}
use Rattle.pgw_meta.specs.Known.{Known}

-- The bytes begin with the fields of these cells.
pub record StartsWithFields (cells : List Cell) (bytes : List ℕ) : Type 0 where
  pub fields : List ℕ
  pub behind : List ℕ
  pub each : AreFields cells fields
  pub is : bytes ≡ fields ++ behind

-- They begin with those of a row that has enough of them.
pub record HasRowFields (columns : List Shape) (cells : List Cell) (bytes : List ℕ) : Type 0 where
  pub starts : StartsWithFields cells bytes
  pub enough : length columns ≤ length cells

-- the canonical fields of values, one behind the other
abbrev pub canonical_fields : Known → List Shape → List Value → List ℕ
canonical_fields known columns values = flat_map frame (canonical_cells known columns values)

-- In front of the rest stands a field for each column, which spells a value that fits, and their canonical fields were
-- appended.
pub record AppendsFields (known : Known) (most : ℕ) (columns : List Shape) (bytes rest old new : List ℕ) : Type 0 where
  pub cells : List Cell
  pub values : List Value
  pub fields : List ℕ
  pub many : length cells ≡ length columns
  pub each : AreFields cells fields
  pub is : bytes ≡ fields ++ rest
  pub first : SpellsFit most columns cells values
  pub wrote : new ≡ old ++ canonical_fields known columns values
