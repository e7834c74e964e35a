use Rattle.std.proofs.Common.{rules, refl}
use Rattle.pgw_copy.specs.Reader.{bad_count}
use Rattle.pgw_copy.proofs.reader.count_of.Goals as goal

pub returns-else-count-lt-NEGATIVE_COUNT-clause-err : goal.returns-else-count-lt-NEGATIVE_COUNT-clause-err
returns-else-count-lt-NEGATIVE_COUNT-clause-err c = bad_count _ refl (search rules)
