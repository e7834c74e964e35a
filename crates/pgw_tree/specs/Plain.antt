-- Rows whose bytes are the canonical ones of their values already, so that they may be written as they stand.
use Rattle.std.specs.Prelude.{◌≡◌, ℕ, ◌≤◌, ◌++◌, List, [], ◌∷◌, length}
use Rattle.std.specs.Io.{StartsWith}
use Rattle.std.specs.List.{flat_map}
use Rattle.pgw_wire.specs.Cell.{frame}
use Rattle.pgw_copy.specs.Format.{AreFields}
use Rattle.pgw_meta.specs.Shape.{Shape}
use Rattle.pgw_cell.specs.Value.{Value}
use Rattle.pgw_tree.specs.Spells.{SpellsRow}
use Rattle.pgw_tree.specs.Canonical.{FitsRow, canonical_cells, canonical_row}
use Rattle.pgw_tree.specs.Copying.{IsValuesRow}
use Rattle.pgw_meta.specs.Known.{Known}

-- the canonical fields of values that fit, one behind the other
pub record IsPlainFields (known : Known) (most : ℕ) (columns : List Shape) (values : List Value) (bytes : List ℕ) : Type 0 where
  pub spelled : SpellsRow columns (canonical_cells known columns values) values
  pub fit : FitsRow most columns values
  pub each : AreFields (canonical_cells known columns values) bytes
  pub is : bytes ≡ flat_map frame (canonical_cells known columns values)

-- a row that spells these values, which fit, and is their canonical row
pub record IsPlainRow (known : Known) (most : ℕ) (columns : List Shape) (bytes : List ℕ) (values : List Value) : Type 0 where
  pub row : IsValuesRow most columns bytes values
  pub is : bytes ≡ canonical_row known columns values

-- the canonical rows of these values, one behind the other
abbrev pub ArePlainRows : Known → ℕ → List Shape → List ℕ → List (List Value) → Type 0
ArePlainRows known most columns bytes [] = bytes ≡ []
ArePlainRows known most columns bytes (values ∷ rows) =
    (row : List ℕ) × (rest : List ℕ) × IsPlainRow known most columns row values × ArePlainRows known most columns rest rows
    × (bytes ≡ row ++ rest)

-- So many rows, `limit` at most, that are canonical as they stand are the front of these bytes.
pub record IsPlainRun (known : Known) (most : ℕ) (columns : List Shape) (limit : ℕ) (bytes run : List ℕ) (many : ℕ) : Type 0 where
  pub rows : List (List Value)
  pub few : many ≤ limit
  pub front : StartsWith bytes run
  pub as_many : length rows ≡ many
  pub plain : ArePlainRows known most columns run rows
