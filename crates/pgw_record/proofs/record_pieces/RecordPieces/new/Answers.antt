use Rattle.std.proofs.Common.{ℤ, ap, ◌∙◌}
use Rattle.std.specs.Int.{w32, cast_signed}
use Rattle.pgw_wire.specs.declared.sql_error.SqlError.TheVariants.{TupleCount}
use Rattle.pgw_nested.proofs.Cut.{told_again}
use Rattle.pgw_record.specs.Record.{other_count}
use Rattle.pgw_record.proofs.record_pieces.RecordPieces.new.Goals as goal
use mir.Val.{to_z, of_z}

pub returns-then-left-arity : goal.returns-then-left-arity
returns-then-left-arity c =
    let n = c.in_ok-left in
    let want = told_again c.args.arity c.cast_signed.result c.ranges.arity.fits c.cast_signed.ensures in
    let have = told_again n.left c.cast_signed-then-left-arity.result n.ensures.1 c.cast_signed-then-left-arity.ensures in
    other_count n.left n.rest.now n.ensures.0 n.ensures.1 c.if-left-arity.true
    (ap (λ (z : ℤ). TupleCount z (to_z w32 (of_z w32 c.cast_signed-then-left-arity.result))) want ∙ ap (λ (z : ℤ). TupleCount (cast_signed w32 c.args.arity) z) have)
