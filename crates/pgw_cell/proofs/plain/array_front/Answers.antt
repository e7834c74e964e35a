use Rattle.pgw_cell.proofs.PlainFields.{array_front}
use Rattle.pgw_cell.proofs.plain.array_front.Goals as goal

pub returns : goal.returns
returns c =
    array_front c.args.piece.now c.in_ok-dimensions.rest.now c.in_ok-flags.rest.now c.in_ok-element.rest.now c.in_ok-count.rest.now c.in_ok-bound.rest.now
    c.in_ok-dimensions.dimensions c.in_ok-flags.flags c.in_ok-element.element c.in_ok-count.count c.in_ok-bound.bound c.args.oid
    c.in_ok-dimensions.ensures.number c.in_ok-flags.ensures.number c.in_ok-element.ensures.number c.in_ok-count.ensures.number c.in_ok-bound.ensures.number
    c.if-dimensions-ne1.false c.if-element-oid.false c.if-bound-ne1.false
