use Rattle.pgw_numeric.proofs.Parts.{front_ok, front_spelled, front_broken, front_breaks}
use Rattle.pgw_numeric.proofs.field.canonical_front.Goals as goal

pub returns-clause-ok : goal.returns-clause-ok
returns-clause-ok c = front_ok c.args.piece.now c.front_of.result c.front_of.ensures.bytes c.front_of.ensures.read

pub returns-clause-spells : goal.returns-clause-spells
returns-clause-spells c = λ v is. front_spelled c.args.piece.now c.front_of.result v c.front_of.ensures.read is

pub returns-clause-broken : goal.returns-clause-broken
returns-clause-broken c = λ kind is. front_broken c.args.piece.now c.front_of.result kind c.front_of.ensures.bytes c.front_of.ensures.read is

pub returns-clause-breaks : goal.returns-clause-breaks
returns-clause-breaks c = λ kind b. front_breaks c.args.piece.now c.front_of.result kind c.front_of.ensures.read b
