use Rattle.std.proofs.Common.{arith}
use Rattle.pgw_cell.proofs.PlainFields.{plain_piece}
use Rattle.pgw_cell.proofs.plain.PlainCell.behind_field.Goals as goal

pub returns-in-Some : goal.returns-in-Some
returns-in-Some c = λ known t is. plain_piece known c.args.field_max t c.args.self.now c.args.bytes.now c.in-Some.rest.now (λ i. omega (arith, c.type_inv.bytes i)) is c.in-Some.ensures

pub returns-in-None : goal.returns-in-None
returns-in-None c = c.behind_other.ensures
