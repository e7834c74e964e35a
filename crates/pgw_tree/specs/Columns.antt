-- What the cells of a row say, column by column, and the first column that can't be written.
use Rattle.std.specs.Prelude.{◌≡◌, ◌≤◌, ℕ, List, ◌∷◌, ◌++◌, length}
use Rattle.pgw_wire.specs.Cell.{Cell}
use Rattle.pgw_wire.specs.declared.kind.Break.{Break}
use Rattle.pgw_meta.specs.Shape.{Shape}
use Rattle.pgw_cell.specs.Value.{Value}
use Rattle.pgw_cell.specs.Cells.{Spells, Fits, Breaks}
use Rattle.pgw_tree.specs.Spells.{SpellsRow}
use Rattle.pgw_tree.specs.Canonical.{FitsRow}

-- The first cells of a row spell these values, which fit.
pub record SpellsFit (most : ℕ) (columns : List Shape) (cells : List Cell) (values : List Value) : Type 0 where
  pub spelled : SpellsRow columns cells values
  pub fit : FitsRow most columns values

-- The columns in front of one, whose cells spell values that fit, and that column with its cell.
pub record IsColumnAt (most : ℕ) (columns : List Shape) (cells : List Cell) (column : ℕ) (t : Shape)
    (cell : Cell) : Type 0 where
  pub before : List Shape
  pub after : List Shape
  pub spelling : List Cell
  pub rest : List Cell
  pub values : List Value
  pub columns_are : columns ≡ before ++ (t ∷ after)
  pub cells_are : cells ≡ spelling ++ (cell ∷ rest)
  pub place : length before ≡ column
  pub spelled : SpellsRow before spelling values
  pub each : length spelling ≡ length before
  pub fit : FitsRow most before values

-- Of a row with a cell for each column, this column's breaks in this kind, and those before spell values that fit.
pub record BreaksAt (most : ℕ) (columns : List Shape) (cells : List Cell) (column : ℕ) (kind : Break) : Type 0 where
  pub enough : length columns ≤ length cells
  pub t : Shape
  pub cell : Cell
  pub placed : IsColumnAt most columns cells column t cell
  pub breaks : Breaks t kind cell

-- Of a row with a cell for each column, this column's spells a value that is too long, and those before fit.
pub record IsLongAt (most : ℕ) (columns : List Shape) (cells : List Cell) (column : ℕ) : Type 0 where
  pub enough : length columns ≤ length cells
  pub t : Shape
  pub cell : Cell
  pub value : Value
  pub placed : IsColumnAt most columns cells column t cell
  pub spells : Spells t cell value
  pub long : Fits most t value → ⊥
