use Rattle.std.proofs.Common.{ℕ, ◌<◌, IsTrue, get_or}
use Rattle.pgw_notation.specs.Names.{is_name_byte}
use Rattle.pgw_notation.proofs.tokens.run_len.Given as goal

abbrev pub invariant-loop-place : goal.invariant-loop-place
invariant-loop-place l = (k : ℕ) → k < l.place → IsTrue (is_name_byte (get_or l.bytes k 0))
