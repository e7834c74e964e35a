use Rattle.std.proofs.Common.{arith, refl}
use Rattle.std.specs.Int.{to_be_bytes, w32}
use Rattle.pgw_tree.proofs.fields.front_cell.Goals as goal

pub returns-else-length-lt-NEGATIVE_LENGTH-clause-some : goal.returns-else-length-lt-NEGATIVE_LENGTH-clause-some
returns-else-length-lt-NEGATIVE_LENGTH-clause-some c =
    (to_be_bytes w32 c.in_ok-length.length, (c.in_ok-length.length, omega (arith, c.if-length-lt-NEGATIVE_LENGTH.false), c.in_ok-length.ensures.range, refl), c.in_ok-length.ensures.number)
