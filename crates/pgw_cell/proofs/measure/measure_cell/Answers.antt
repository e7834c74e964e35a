use Rattle.std.proofs.Common.{◌∙◌}
use Rattle.pgw_wire.specs.Cell.{cell_of}
use Rattle.pgw_meta.specs.Types.{shape}
use Rattle.pgw_cell.proofs.Measured.{measured_says, measured_fits, measured_breaks, measured_passes}
use Rattle.pgw_cell.proofs.measure.measure_cell.Goals as goal

pub returns-clause-ok : goal.returns-clause-ok
returns-clause-ok c = (measured_says c.args.field_max (shape c.args.t.now) (cell_of c.args.cell) c.measure.result c.requires.built c.measure.ensures.bytes c.measure.ensures.value).ok

pub returns-clause-broken : goal.returns-clause-broken
returns-clause-broken c = (measured_says c.args.field_max (shape c.args.t.now) (cell_of c.args.cell) c.measure.result c.requires.built c.measure.ensures.bytes c.measure.ensures.value).broken

pub returns-clause-long : goal.returns-clause-long
returns-clause-long c = (measured_says c.args.field_max (shape c.args.t.now) (cell_of c.args.cell) c.measure.result c.requires.built c.measure.ensures.bytes c.measure.ensures.value).long

pub returns-clause-spells : goal.returns-clause-spells
returns-clause-spells c = λ known v s fits. c.measure.ensures.value ∙ measured_fits known c.args.field_max (shape c.args.t.now) (cell_of c.args.cell) v s fits

pub returns-clause-breaks : goal.returns-clause-breaks
returns-clause-breaks c = λ kind b. c.measure.ensures.value ∙ measured_breaks c.args.field_max (shape c.args.t.now) (cell_of c.args.cell) kind b

pub returns-clause-passes : goal.returns-clause-passes
returns-clause-passes c = λ v s long. c.measure.ensures.value ∙ measured_passes c.args.field_max (shape c.args.t.now) (cell_of c.args.cell) v s long
