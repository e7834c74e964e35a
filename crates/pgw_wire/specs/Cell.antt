-- A cell is null or a piece of bytes, and a frame is how it is written: its length, and then its bytes.
use Rattle.std.specs.Prelude.{ℕ, ◌++◌, List, length, Option, None, Some}
use Rattle.std.specs.Int.{w32, to_be_bytes}
use Rattle.pgw_wire.specs.declared.cell.RawCell.{RawCell}
use Rattle.pgw_wire.specs.declared.cell.RawCell.TheVariants.{Null, Piece}

-- without where the piece lies in memory
abbrev pub Cell : Type 0
Cell = Option (List ℕ)

abbrev pub cell_of : RawCell → Cell
cell_of Null = None
cell_of (Piece p) = Some p.now

-- The length of a null is -1, whose bytes are those of 2 ^ 32 - 1.
abbrev pub frame : Cell → List ℕ
frame None = to_be_bytes w32 4294967295
frame (Some p) = to_be_bytes w32 (length p) ++ p

-- how many bytes a cell has, 0 for a null
abbrev pub size_of : Cell → ℕ
size_of None = 0
size_of (Some p) = length p
