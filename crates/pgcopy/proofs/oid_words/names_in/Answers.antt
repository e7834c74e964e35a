use Rattle.std.proofs.Common.{arith}
use Rattle.pgcopy.proofs.OidWords.{splits, names_cut, names_whole}
use Rattle.pgcopy.proofs.oid_words.names_in.Goals as goal

pub returns-in-Some : goal.returns-in-Some
returns-in-Some c = names_cut c.args.text.now _ c.split_once.result c.in-Some.is (splits 46 c.args.text.now c.split_once.result c.split_once.ensures.cases (omega arith))

pub returns-in-None : goal.returns-in-None
returns-in-None c = names_whole c.args.text.now c.split_once.result c.in-None.is (splits 46 c.args.text.now c.split_once.result c.split_once.ensures.cases (omega arith))
