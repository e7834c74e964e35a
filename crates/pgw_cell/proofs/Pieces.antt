-- Pieces, by the types of their columns.
use Rattle.pgw_meta.specs.Known.{Known}
use Rattle.pgw_meta.specs.NamedOids.{oids_of}
use Rattle.pgw_meta.specs.Schema.{is_nullable}
use Rattle.pgw_meta.specs.Shape.{Shape, scalar, nullable, array, range, multirange, named}
use Rattle.pgw_cell.specs.Pieces.{HasPiece, SpellsPiece, BreaksPiece, canonical_piece, piece_size, read_piece}
use Rattle.pgw_cell.specs.Spellings.{no_spelling}
use Rattle.pgw_cell.proofs.Told.{IsTold, IsWritten, told_whole, written_whole, no_spelling_whole}
use Rattle.pgw_cell.proofs.Spellings.{spelling_told, spelling_written}
use Rattle.pgw_cell.proofs.ArrayPieces.{array_told, array_written}
use Rattle.pgw_cell.proofs.RangePieces.{range_told, range_written, multirange_told, multirange_written}

pub piece_told : (t : Shape) → IsTold (HasPiece t) (SpellsPiece t) (BreaksPiece t) (read_piece t)
piece_told (scalar s) = spelling_told s
piece_told (nullable t) = piece_told t
piece_told (array t) = array_told (is_nullable t) (piece_told t)
piece_told (range t) = range_told t
piece_told (multirange t) = multirange_told t
piece_told (named k t) = piece_told t
piece_told _ = told_whole no_spelling no_spelling_whole

pub piece_written : (known : Known) (t : Shape) → IsWritten (HasPiece t) (SpellsPiece t) (canonical_piece known t) (piece_size t)
piece_written known (scalar s) = spelling_written s
piece_written known (nullable t) = piece_written known t
piece_written known (array t) = array_written (is_nullable t) (piece_written known t) (oids_of known t).oid
piece_written known (range t) = range_written t
piece_written known (multirange t) = multirange_written t
piece_written known (named k t) = piece_written known t
piece_written known _ = written_whole no_spelling no_spelling_whole
