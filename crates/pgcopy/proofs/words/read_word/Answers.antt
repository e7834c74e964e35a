use Rattle.std.proofs.Common.{sym, ◌∙◌}
use Rattle.pgcopy.specs.Words.{texts}
use Rattle.pgcopy.proofs.ReadingWords.{type_seen}
use Rattle.pgcopy.proofs.TypeNames.{named_unless_fault}
use Rattle.pgcopy.proofs.words.read_word.Goals as goal

pub returns-in-None : goal.returns-in-None
returns-in-None c = λ seen.
    let named = named_unless_fault c.args.word.now (sym c.type_fault_of.ensures ∙ c.in-None.is) in
    type_seen c.args.seen named.0 c.args.word.now (texts c.args.before.now) seen named.1
