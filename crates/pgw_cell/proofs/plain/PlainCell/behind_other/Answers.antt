use Rattle.std.proofs.Common.{arith}
use Rattle.std.proofs.lemmas.Option.{IfSome_then}
use Rattle.pgw_cell.proofs.PlainFields.{plain_array, plain_null}
use Rattle.pgw_cell.proofs.plain.PlainCell.behind_other.Goals as goal

pub returns-in-Some : goal.returns-in-Some
returns-in-Some c = λ known t is.
    plain_array known c.args.field_max t c.args.self.now c.args.bytes.now c.in-Some.rest.now c.requires (λ i. omega (arith, c.type_inv.bytes i)) is c.in-Array.is c.in-Some.ensures

pub returns-in-None : goal.returns-in-None
returns-in-None c = λ known t is. IfSome_then c.behind_null.result c.behind_null.ensures (λ rest h. plain_null known c.args.field_max t c.args.self.now c.args.bytes.now rest.now is h.0 h.1)

pub returns-in_default : goal.returns-in_default
returns-in_default c = λ known t is. IfSome_then c.behind_null-in_default.result c.behind_null-in_default.ensures (λ rest h. plain_null known c.args.field_max t c.args.self.now c.args.bytes.now rest.now is h.0 h.1)
