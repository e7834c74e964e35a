use Rattle.std.proofs.Common.{◌∙◌, ap, sym}
use Rattle.pgw_meta.specs.Types.{shape}
use Rattle.pgw_meta.specs.Schema.{part_fault}
use Rattle.pgw_meta.proofs.Faults.{not_deep}
use Rattle.pgw_meta.proofs.Views.{record_width}
use Rattle.pgw_meta.proofs.schema.check_one.Goals as goal

pub returns-in-Record-clause-fault : goal.returns-in-Record-clause-fault
returns-in-Record-clause-fault c =
    c.check_width.ensures ∙ record_width c.args.column c.len.result c.in-Record.parts c.len.ensures
    ∙ ap (λ t. part_fault c.args.column (shape t)) (sym c.in-Record.is)
    ∙ not_deep c.args.column c.args.depth (shape c.args.t.now) c.if-depth-gt-DEPTH_MAX.false
