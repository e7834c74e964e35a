use Rattle.pgw_wire.specs.Cell.{cell_of}
use Rattle.pgw_meta.specs.Types.{shape}
use Rattle.pgw_cell.proofs.ReadCells.{read_says}
use Rattle.pgw_cell.proofs.read.read_cell.Goals as goal

pub returns-clause-ok : goal.returns-clause-ok
returns-clause-ok c = (read_says (shape c.args.t.now) (cell_of c.args.cell) c.read.result c.requires c.read.ensures.bytes c.read.ensures.value).ok

pub returns-clause-spells : goal.returns-clause-spells
returns-clause-spells c = (read_says (shape c.args.t.now) (cell_of c.args.cell) c.read.result c.requires c.read.ensures.bytes c.read.ensures.value).spells

pub returns-clause-broken : goal.returns-clause-broken
returns-clause-broken c = (read_says (shape c.args.t.now) (cell_of c.args.cell) c.read.result c.requires c.read.ensures.bytes c.read.ensures.value).broken

pub returns-clause-breaks : goal.returns-clause-breaks
returns-clause-breaks c = (read_says (shape c.args.t.now) (cell_of c.args.cell) c.read.result c.requires c.read.ensures.bytes c.read.ensures.value).breaks

pub returns-clause-memory : goal.returns-clause-memory
returns-clause-memory c = (read_says (shape c.args.t.now) (cell_of c.args.cell) c.read.result c.requires c.read.ensures.bytes c.read.ensures.value).memory
