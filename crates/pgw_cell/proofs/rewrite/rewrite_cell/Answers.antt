use Rattle.pgw_wire.specs.Cell.{cell_of}
use Rattle.pgw_meta.specs.NamedOids.{known_of}
use Rattle.pgw_meta.specs.Types.{shape}
use Rattle.pgw_cell.proofs.Reading.{value_again}
use Rattle.pgw_cell.proofs.Rewriting.{room_of_cell}
use Rattle.pgw_cell.proofs.rewrite.rewrite_cell.Goals as goal

pub push_cell-requires : goal.push_cell-requires
push_cell-requires c = let h = c.requires in room_of_cell (known_of c.args.found.now) (shape c.args.t.now) (cell_of c.args.cell) h.0 c.args.out.now.spare h.1 h.2 h.3

pub returns-clause-bytes : goal.returns-clause-bytes
returns-clause-bytes c = λ v s. (c.push_cell.ensures v (value_again (shape c.args.t.now) (cell_of c.args.cell) v s)).0

pub returns-clause-spare : goal.returns-clause-spare
returns-clause-spare c = λ v s. (c.push_cell.ensures v (value_again (shape c.args.t.now) (cell_of c.args.cell) v s)).1
