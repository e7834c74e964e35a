use Rattle.std.proofs.Common.{◌≡◌, ◌≤◌, ◌+◌, ◌*◌, ◌++◌, length}
use Rattle.std.specs.Prelude.{FitsSigned, vec_len, vec_capacity}
use Rattle.std.specs.List.{AllByRecursion}
use Rattle.std.specs.Int.{w16}
use Rattle.pgw_numeric.specs.Numeric.{digit_bytes}
use Rattle.pgw_numeric.proofs.reading.read_digits.Given as goal

-- The digits that were read stand in front of the rest, and all have room.
abbrev pub invariant-read : goal.invariant-read
invariant-read l = record {
  each : AllByRecursion (FitsSigned w16) l.digits.items;
  is : l.fn.bytes ≡ digit_bytes l.digits.items ++ l.rest;
  left : 2 * vec_len l.digits + length l.rest ≡ 2 * l.fn.count;
  room : l.fn.count ≤ vec_capacity l.digits;
}

abbrev pub decreases-read : goal.decreases-read
decreases-read l = length l.rest
