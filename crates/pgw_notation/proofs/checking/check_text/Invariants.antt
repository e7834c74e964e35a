use Rattle.std.proofs.Common.{◌≡◌, ◌-◌, ◌≤◌, length, drop}
use Rattle.pgw_notation.specs.Tokens.{tokens}
use Rattle.pgw_notation.specs.Checking.{at_start, sketch_at, check_tokens}
use Rattle.pgw_notation.specs.Views.{sketch}
use Rattle.pgw_notation.proofs.checking.check_text.Given as goal

abbrev pub invariant-loop-token : goal.invariant-loop-token
invariant-loop-token l = record {
  within : l.place ≤ length l.text;
  so_far : check_tokens l.place (sketch l.progress) (tokens (drop l.place l.text)) ≡ check_tokens 0 (sketch_at 0 at_start) (tokens l.text);
}

abbrev pub decreases-loop-token : goal.decreases-loop-token
decreases-loop-token l = length l.text - l.place
