use Rattle.pgw_wire.specs.Cell.{cell_of}
use Rattle.pgw_meta.specs.NamedOids.{known_of}
use Rattle.pgw_meta.specs.Types.{shape}
use Rattle.pgw_cell.proofs.Appending.{appended_says, appended_fits, appended_breaks, appended_long}
use Rattle.pgw_cell.proofs.append.append_cell.Goals as goal

pub returns-clause-ok : goal.returns-clause-ok
returns-clause-ok c = (appended_says (known_of c.args.found.now) (shape c.args.t.now) (cell_of c.args.cell) c.args.field_max c.args.out.now.bytes c.append.new.out.bytes c.append.result c.requires.built c.append.ensures.bytes c.append.ensures.value).ok

pub returns-clause-broken : goal.returns-clause-broken
returns-clause-broken c =
    (appended_says (known_of c.args.found.now) (shape c.args.t.now) (cell_of c.args.cell) c.args.field_max c.args.out.now.bytes c.append.new.out.bytes c.append.result c.requires.built c.append.ensures.bytes c.append.ensures.value).broken

pub returns-clause-long : goal.returns-clause-long
returns-clause-long c = (appended_says (known_of c.args.found.now) (shape c.args.t.now) (cell_of c.args.cell) c.args.field_max c.args.out.now.bytes c.append.new.out.bytes c.append.result c.requires.built c.append.ensures.bytes c.append.ensures.value).long

pub returns-clause-spells : goal.returns-clause-spells
returns-clause-spells c = λ v s fits. appended_fits (known_of c.args.found.now) (shape c.args.t.now) (cell_of c.args.cell) c.args.field_max c.args.out.now.bytes c.append.new.out.bytes c.append.result c.append.ensures.value v s fits

pub returns-clause-breaks : goal.returns-clause-breaks
returns-clause-breaks c = λ kind b. appended_breaks (known_of c.args.found.now) (shape c.args.t.now) (cell_of c.args.cell) c.args.field_max c.args.out.now.bytes c.append.new.out.bytes c.append.result c.append.ensures.value kind b

pub returns-clause-passes : goal.returns-clause-passes
returns-clause-passes c = λ v s long. appended_long (known_of c.args.found.now) (shape c.args.t.now) (cell_of c.args.cell) c.args.field_max c.args.out.now.bytes c.append.new.out.bytes c.append.result c.append.ensures.value v s long

pub returns-clause-kept : goal.returns-clause-kept
returns-clause-kept c = (appended_says (known_of c.args.found.now) (shape c.args.t.now) (cell_of c.args.cell) c.args.field_max c.args.out.now.bytes c.append.new.out.bytes c.append.result c.requires.built c.append.ensures.bytes c.append.ensures.value).kept
