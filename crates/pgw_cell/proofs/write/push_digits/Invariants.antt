use Rattle.std.proofs.Common.{◌≡◌, ◌+◌, ◌*◌, ◌++◌, take}
use Rattle.pgw_numeric.specs.Numeric.{digit_bytes}
use Rattle.pgw_cell.proofs.write.push_digits.Given as goal

-- The digits so far were appended, and there is room for the others.
abbrev pub invariant-loop-digit : goal.invariant-loop-digit
invariant-loop-digit l = record {
  appended : l.out.bytes ≡ l.fn.out.bytes ++ digit_bytes (take l.digit-index l.digits);
  room : l.out.spare + 2 * l.digit-index ≡ l.fn.out.spare;
}
