use Rattle.std.proofs.Common.{◌≡◌, ◌++◌, ◌≤◌, length, drop}
use Rattle.pgcopy.specs.Report.{hexadecimal, flags_text}
use Rattle.pgcopy.proofs.report.flags_text.Given as goal

-- the digits of what is left, and those that are written, are all digits
abbrev pub invariant-loop-place : goal.invariant-loop-place
invariant-loop-place l =
    record {
      within : l.place ≤ 8;
      whole : length l.text ≡ 8;
      digits : hexadecimal l.place l.left ++ drop l.place l.text ≡ flags_text l.fn.flags;
    }

abbrev pub decreases-loop-place : goal.decreases-loop-place
decreases-loop-place l = l.place
