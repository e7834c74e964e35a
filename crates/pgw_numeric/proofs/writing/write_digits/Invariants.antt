use Rattle.std.proofs.Common.{◌≡◌, ◌++◌, take}
use Rattle.pgw_wire.specs.Output.{IsSameOutput}
use Rattle.pgw_numeric.specs.Numeric.{digit_bytes}
use Rattle.pgw_numeric.proofs.writing.write_digits.Given as goal

-- The digits so far were appended, and nothing else has changed.
abbrev pub invariant-loop-digit : goal.invariant-loop-digit
invariant-loop-digit g l = record {
  same : IsSameOutput l.fn.out l.out;
  lookup : l.out.lookup.now ≡ l.fn.out.lookup.now;
  appended : l.out.out.now.bytes ≡ l.fn.out.out.now.bytes ++ digit_bytes (take l.digit-index l.digits);
}
