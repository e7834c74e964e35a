-- What the reader of an array's elements has still to give, and what a call of it gives.
use Rattle.std.specs.Prelude.{◌≡◌, ◌<◌, ◌++◌, suc, Option, None, Some, Result, Ok, Err}
use Rattle.pgw_wire.specs.Cell.{Cell, cell_of, frame}
use Rattle.pgw_wire.specs.declared.cell.RawCell.{RawCell}
use Rattle.pgw_wire.specs.declared.sql_error.SqlError.{SqlError}
use Rattle.pgw_nested.specs.Frames.{IsFramed, HasNoFrame}
use Rattle.pgw_nested.specs.Array.{Elements}
use Rattle.pgw_nested.specs.declared.array_pieces.ArrayPieces.{ArrayPieces}

abbrev pub elements_of : ArrayPieces → Elements
elements_of p = record { left = p.left; nulls = p.nulls; rest = p.rest.now }

-- The cell is the next of the elements, and behind it come those that are then left.
pub record IsNext (cell : Cell) (before now : Elements) : Type 0 where
  pub left : before.left ≡ suc now.left
  pub nulls : now.nulls ≡ before.nulls
  pub framed : IsFramed before.nulls cell
  pub is : before.rest ≡ frame cell ++ now.rest

-- None comes where no element is left, and an error where one is and no frame stands there. Both leave the elements.
abbrev pub GivesNext : Elements → Result (Option RawCell) SqlError → Elements → Type 0
GivesNext before (Ok None) now = (before.left ≡ 0) × (now ≡ before)
GivesNext before (Ok (Some cell)) now = IsNext (cell_of cell) before now
GivesNext before (Err e) now = (0 < before.left) × HasNoFrame before.nulls before.rest e × (now ≡ before)
