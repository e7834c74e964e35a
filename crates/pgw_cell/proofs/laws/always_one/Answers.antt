use Rattle.std.proofs.Common.{ap, sym, subst}
use Rattle.pgw_wire.specs.Cell.{cell_of}
use Rattle.pgw_meta.specs.Types.{shape}
use Rattle.pgw_cell.specs.Written.{AreBytes}
use Rattle.pgw_cell.proofs.Reading.{always_one}
use Rattle.pgw_cell.proofs.laws.always_one.Goals as goal

pub returns-in-Null : goal.returns-in-Null
returns-in-Null c = always_one (shape c.args.t.now) (cell_of c.args.cell) c.requires (subst AreBytes (sym (ap cell_of c.in-Null.is)) tt)

pub returns-in-Piece : goal.returns-in-Piece
returns-in-Piece c = always_one (shape c.args.t.now) (cell_of c.args.cell) c.requires (subst AreBytes (sym (ap cell_of c.in-Piece.is)) c.are_bytes.ensures)
