-- What each type says of pieces and values: which values it has, which of them pieces spell, in which kinds pieces
-- break, and what a value is written as. A type has a case in each of these.
use Rattle.std.specs.Prelude.{ℕ, List, Result}
use Rattle.pgw_wire.specs.declared.kind.Break.{Break}
use Rattle.pgw_meta.specs.Known.{Known}
use Rattle.pgw_meta.specs.NamedOids.{oids_of}
use Rattle.pgw_meta.specs.Schema.{is_nullable}
use Rattle.pgw_meta.specs.Shape.{Shape, scalar, nullable, array, range, multirange, named}
use Rattle.pgw_nested.specs.Array.{BreaksArray}
use Rattle.pgw_cell.specs.Value.{Value}
use Rattle.pgw_cell.specs.Spellings.{spelling, no_spelling}
use Rattle.pgw_cell.specs.Nulls.{HasCell, SpellsCell, BreaksCell, cell_by, size_by, read_by}
use Rattle.pgw_cell.specs.Ranges.{range_spelling, multirange_spelling}
use Rattle.pgw_cell.specs.Arrays.{HasArray, SpellsArray, array_piece, array_size, read_elements}

-- The value is one of the type, and not null.
abbrev pub HasPiece : Shape → Value → Type 0
HasPiece (scalar s) = (spelling s).Has
HasPiece (nullable t) = HasPiece t
HasPiece (array t) = HasArray (HasCell (is_nullable t) (HasPiece t))
HasPiece (range t) = (range_spelling t).Has
HasPiece (multirange t) = (multirange_spelling t).Has
HasPiece (named k t) = HasPiece t
HasPiece _ = no_spelling.Has

abbrev pub SpellsPiece : Shape → List ℕ → Value → Type 0
SpellsPiece (scalar s) = (spelling s).Spells
SpellsPiece (nullable t) = SpellsPiece t
SpellsPiece (array t) = SpellsArray (SpellsCell (is_nullable t) (SpellsPiece t))
SpellsPiece (range t) = (range_spelling t).Spells
SpellsPiece (multirange t) = (multirange_spelling t).Spells
SpellsPiece (named k t) = SpellsPiece t
SpellsPiece _ = no_spelling.Spells

abbrev pub BreaksPiece : Shape → Break → List ℕ → Type 0
BreaksPiece (scalar s) = (spelling s).Breaks
BreaksPiece (nullable t) = BreaksPiece t
BreaksPiece (array t) = BreaksArray (SpellsCell (is_nullable t) (SpellsPiece t)) (BreaksCell (is_nullable t) (BreaksPiece t))
BreaksPiece (range t) = (range_spelling t).Breaks
BreaksPiece (multirange t) = (multirange_spelling t).Breaks
BreaksPiece (named k t) = BreaksPiece t
BreaksPiece _ = no_spelling.Breaks

-- the one piece that a value of the type is written as, by what is known of the oids of named types
abbrev pub canonical_piece : Known → Shape → Value → List ℕ
canonical_piece known (scalar s) = (spelling s).canonical
canonical_piece known (nullable t) = canonical_piece known t
canonical_piece known (array t) = array_piece (oids_of known t).oid (cell_by (canonical_piece known t))
canonical_piece known (range t) = (range_spelling t).canonical
canonical_piece known (multirange t) = (multirange_spelling t).canonical
canonical_piece known (named k t) = canonical_piece known t
canonical_piece known _ = no_spelling.canonical

-- how many bytes that has, whatever the oids are
abbrev pub piece_size : Shape → Value → ℕ
piece_size (scalar s) = (spelling s).size
piece_size (nullable t) = piece_size t
piece_size (array t) = array_size (size_by (piece_size t))
piece_size (range t) = (range_spelling t).size
piece_size (multirange t) = (multirange_spelling t).size
piece_size (named k t) = piece_size t
piece_size _ = no_spelling.size

-- What a piece is read as: one function beside the others, for the proofs.
abbrev pub read_piece : Shape → List ℕ → Result Value Break
read_piece (scalar s) = (spelling s).read
read_piece (nullable t) = read_piece t
read_piece (array t) = read_elements (read_by (is_nullable t) (read_piece t))
read_piece (range t) = (range_spelling t).read
read_piece (multirange t) = (multirange_spelling t).read
read_piece (named k t) = read_piece t
read_piece _ = no_spelling.read
