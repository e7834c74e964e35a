use Rattle.std.proofs.Common.{◌≡◌, ◌-◌, ◌≤◌, length, drop}
use Rattle.pgw_notation.specs.Tokens.{tokens}
use Rattle.pgw_notation.specs.Reading.{read_tokens, start}
use Rattle.pgw_notation.specs.Views.{state_of}
use Rattle.pgw_notation.proofs.reading.read_text.Given as goal

abbrev pub invariant-loop-token : goal.invariant-loop-token
invariant-loop-token l = record {
  within : l.place ≤ length l.text;
  so_far : read_tokens l.place (state_of l.open.items l.front) (tokens (drop l.place l.text)) ≡ read_tokens 0 start (tokens l.text);
}

abbrev pub decreases-loop-token : goal.decreases-loop-token
decreases-loop-token l = length l.text - l.place
