use Rattle.std.proofs.Common.{◌∙◌, Ok, sym, ap, arith}
use Rattle.pgw_meta.specs.Types.{shape}
use Rattle.pgw_cell.specs.Written.{cells_of_range, range_answer}
use Rattle.pgw_cell.proofs.RangeAnswers.{range_was_read, range_sizes}
use Rattle.pgw_cell.proofs.range.sized_range.Goals as goal

pub returns-in-Ok : goal.returns-in-Ok
returns-in-Ok c =
    let t = shape c.args.part.now in
    let p = c.args.piece.now in
    let cells = cells_of_range c.in-Ok.range in
    ap Ok c.len.ensures ∙ range_sizes t p cells (λ i. omega (arith, c.type_inv.piece i)) (range_was_read t p cells (sym (ap range_answer c.in-Ok.is) ∙ c.written_range.ensures))
