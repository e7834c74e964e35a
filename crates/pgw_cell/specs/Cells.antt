-- What each type says of cells: nulls, and pieces as the type says of these.
use Rattle.std.specs.Prelude.{ℕ, ◌≤◌, Result}
use Rattle.pgw_wire.specs.Cell.{Cell}
use Rattle.pgw_wire.specs.declared.kind.Break.{Break}
use Rattle.pgw_meta.specs.Known.{Known}
use Rattle.pgw_meta.specs.Shape.{Shape}
use Rattle.pgw_meta.specs.Schema.{is_nullable}
use Rattle.pgw_cell.specs.Value.{Value}
use Rattle.pgw_cell.specs.Nulls.{HasCell, SpellsCell, BreaksCell, cell_by, size_by, read_by}
use Rattle.pgw_cell.specs.Pieces.{HasPiece, SpellsPiece, BreaksPiece, canonical_piece, piece_size, read_piece}

-- The value is one of the type: null where the type allows it, and else one that pieces spell.
abbrev pub HasType : Shape → Value → Type 0
HasType t v = HasCell (is_nullable t) (HasPiece t) v

-- A cell spells a value of a type. A null spells the value null where the type is nullable, and nothing else.
abbrev pub Spells : Shape → Cell → Value → Type 0
Spells t c v = SpellsCell (is_nullable t) (SpellsPiece t) c v

-- In which kind a cell breaks that spells no value. A null breaks where the type allows none.
abbrev pub Breaks : Shape → Break → Cell → Type 0
Breaks t kind c = BreaksCell (is_nullable t) (BreaksPiece t) kind c

-- The one cell that a value of the type is written as, by what is known of the oids of named types.
abbrev pub canonical_cell : Known → Shape → Value → Cell
canonical_cell known t v = cell_by (canonical_piece known t) v

-- how many bytes that has, whatever the oids are, 0 for a null
abbrev pub canonical_size : Shape → Value → ℕ
canonical_size t v = size_by (piece_size t) v

-- The value's canonical cell has at most this many bytes.
abbrev pub Fits : ℕ → Shape → Value → Type 0
Fits most t v = canonical_size t v ≤ most

-- What a cell is read as, a value or a break: one function beside `Spells` and `Breaks`, for the proofs.
abbrev pub read_value : Shape → Cell → Result Value Break
read_value t c = read_by (is_nullable t) (read_piece t) c
