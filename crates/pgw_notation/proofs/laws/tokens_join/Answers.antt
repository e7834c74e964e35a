use Rattle.pgw_notation.proofs.FirstTokens.{joined_tokens}
use Rattle.pgw_notation.proofs.laws.tokens_join.Goals as goal

pub returns : goal.returns
returns c = joined_tokens
