use Rattle.pgw_cell.proofs.PlainFields.{dimension_read}
use Rattle.pgw_cell.proofs.plain.dimension.Goals as goal

pub returns : goal.returns
returns c =
    dimension_read c.args.piece.now c.in_ok-dimensions.rest.now c.in_ok-flags.rest.now c.in_ok-_oid.rest.now c.in_ok-count.rest.now c.in_ok-_bound.rest.now
    c.in_ok-dimensions.dimensions c.in_ok-flags.flags c.in_ok-_oid._oid c.in_ok-count.count c.in_ok-_bound._bound
    c.in_ok-dimensions.ensures.number c.in_ok-flags.ensures.number c.in_ok-_oid.ensures.number c.in_ok-count.ensures.number c.in_ok-_bound.ensures.number
    c.if-dimensions-ne1.false c.in_ok-flags.ensures.range c.in_ok-count.ensures.range
