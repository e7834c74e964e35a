use Rattle.std.proofs.Common.{◌∙◌, ◌||◌, ap}
use Rattle.pgw_cell.proofs.PlainFields.{element_more}
use Rattle.pgw_cell.proofs.plain.behind_each.Goals as goal

pub loop-place-preserved : goal.loop-place-preserved
loop-place-preserved c =
    let h = c.in_ok-is_null.ensures in
    element_more c.args.element c.loop-place._place c.args.bytes.now c.loop-place.rest.now c.in_ok-is_null.behind.now c.loop-place.null c.either-null.result h.cell c.loop-place.invariant h.pass h.is
    (c.either-null.ensures ∙ ap (λ b. c.loop-place.null || b) h.nulls)
