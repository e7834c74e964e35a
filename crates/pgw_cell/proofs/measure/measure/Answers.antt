use Rattle.pgw_meta.specs.Types.{shape}
use Rattle.pgw_wire.specs.Cell.{cell_of}
use Rattle.pgw_cell.proofs.Measured.{measured_short, measured_long, measured_broken}
use Rattle.std.proofs.Common.{◌∙◌, sym}
use Rattle.pgw_cell.specs.Cells.{read_value}
use Rattle.pgw_cell.proofs.measure.measure.Goals as goal

pub returns-in-Err-clause-value : goal.returns-in-Err-clause-value
returns-in-Err-clause-value c = measured_broken c.args.field_max (shape c.args.t.now) (read_value (shape c.args.t.now) (cell_of c.args.cell)) c.in-Err.kind (sym c.in-Err.is ∙ c.sized_cell.ensures)

pub returns-then-size-field_max-clause-value : goal.returns-then-size-field_max-clause-value
returns-then-size-field_max-clause-value c =
    measured_long c.args.field_max (shape c.args.t.now) (read_value (shape c.args.t.now) (cell_of c.args.cell)) c.in-Ok.size c.requires c.if-size-field_max.true (sym c.in-Ok.is ∙ c.sized_cell.ensures)

pub returns-else-size-field_max-clause-value : goal.returns-else-size-field_max-clause-value
returns-else-size-field_max-clause-value c =
    measured_short c.args.field_max (shape c.args.t.now) (read_value (shape c.args.t.now) (cell_of c.args.cell)) c.in-Ok.size c.requires c.if-size-field_max.false (sym c.in-Ok.is ∙ c.sized_cell.ensures)
