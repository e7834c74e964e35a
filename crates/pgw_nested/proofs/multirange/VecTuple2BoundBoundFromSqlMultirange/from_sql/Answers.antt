use Rattle.std.proofs.Common.{List, ℕ, Some, true, refl, subst}
use Rattle.pgw_wire.proofs.Taking.{exit}
use Rattle.pgw_wire.specs.declared.sql_error.SqlError.{SqlError}
use Rattle.pgw_wire.specs.declared.sql_error.SqlError.TheVariants.{NoMemory}
use Rattle.pgw_meta.specs.Reading.{ReadsPiece, RefusesPiece, IsRefusal}
use Rattle.pgw_meta.proofs.Reading.{refused, refused_too}
use Rattle.pgw_nested.specs.Range.{IsRange, RefusesRange}
use Rattle.pgw_nested.specs.Multirange.{RefusesMultirange}
use Rattle.pgw_nested.specs.RangePieces.{ranges_of}
use Rattle.pgw_nested.proofs.Exact.{err_is}
use Rattle.pgw_nested.proofs.RangesRead.{range_given, one_range_more, range_reached, range_not_given, range_refused}
use Rattle.pgw_nested.proofs.multirange.VecTuple2BoundBoundFromSqlMultirange.from_sql.Goals as goal

pub returns-in_err-piece : goal.returns-in_err-piece
returns-in_err-piece g c =
    let bytes = c.args.value.raw_value.now in
    let reads = ReadsPiece (IsRange g.T.FromSql.reads g.T.Defaultable.DEFAULT) in
    let refuses = RefusesPiece (RefusesRange g.T.FromSql.reads g.T.FromSql.refuses) in
    let e = c.in_err-piece.field-0.0 in
    let f = c.in_err-piece.ensures in
    let r = range_not_given reads refuses bytes c.bounds.items.items (ranges_of c.bounds.pieces) e c.bounds.invariant f.0 f.1 in
    rw (exit c.from_residual-in_err-piece.result _ c.from_residual-in_err-piece.ensures.1)
    record {
      answers = refused (RefusesMultirange reads refuses bytes) true e r.0 r.1;
      memory = λ is. absurd (subst (λ (x : SqlError). IsRefusal x) (err_is e NoMemory is) r.1);
    }

pub returns-in_err-range : goal.returns-in_err-range
returns-in_err-range g c =
    let bytes = c.args.value.raw_value.now in
    let reads = ReadsPiece (IsRange g.T.FromSql.reads g.T.Defaultable.DEFAULT) in
    let refuses = RefusesPiece (RefusesRange g.T.FromSql.reads g.T.FromSql.refuses) in
    let e = c.in_err-range.field-0.0 in
    let piece = Some c.in-Some.piece.now in
    let before = ranges_of c.bounds.pieces in
    let now = ranges_of c.next_piece.new.self in
    let next = range_given reads refuses bytes before now c.in_ok-piece.field-0 c.in-Some.piece c.in-Some.is c.in_ok-piece.ensures in
    rw (exit c.from_residual-in_err-range.result _ c.from_residual-in_err-range.ensures.1)
    record {
      answers = refused_too (refuses (Some c.new-in-Some.result.raw_value.now)) (RefusesMultirange reads refuses bytes) g.T.FromSql.MEMORY true e
          (λ r. range_refused reads refuses bytes c.bounds.items.items before now piece e c.bounds.invariant next
          (subst (λ (x : List ℕ). refuses (Some x) e) c.new-in-Some.ensures.bytes r))
          (λ _. refl) c.in_err-range.ensures;
      memory = λ is. range_reached reads refuses bytes c.bounds.items.items before now c.in_ok-piece.field-0 c.in-Some.piece c.bounds.invariant c.in-Some.is c.in_ok-piece.ensures;
    }

pub bounds-preserved : goal.bounds-preserved
bounds-preserved g c =
    let bytes = c.args.value.raw_value.now in
    let reads = ReadsPiece (IsRange g.T.FromSql.reads g.T.Defaultable.DEFAULT) in
    let refuses = RefusesPiece (RefusesRange g.T.FromSql.reads g.T.FromSql.refuses) in
    let piece = Some c.in-Some.piece.now in
    let before = ranges_of c.bounds.pieces in
    let now = ranges_of c.next_piece.new.self in
    let next = range_given reads refuses bytes before now c.in_ok-piece.field-0 c.in-Some.piece c.in-Some.is c.in_ok-piece.ensures in
    let range = c.in_ok-range.range in
    rw c.in_ok-push.ensures.items
    (one_range_more reads refuses bytes c.bounds.items.items before now piece range c.bounds.invariant next
    (subst (λ (x : List ℕ). reads (Some x) range) c.new-in-Some.ensures.bytes c.in_ok-range.ensures))

pub returns-in_err-push-clause-memory : goal.returns-in_err-push-clause-memory
returns-in_err-push-clause-memory g c =
    let reads = ReadsPiece (IsRange g.T.FromSql.reads g.T.Defaultable.DEFAULT) in
    let refuses = RefusesPiece (RefusesRange g.T.FromSql.reads g.T.FromSql.refuses) in
    λ is. range_reached reads refuses c.args.value.raw_value.now c.bounds.items.items (ranges_of c.bounds.pieces)
    (ranges_of c.next_piece.new.self) c.in_ok-piece.field-0 c.in-Some.piece c.bounds.invariant c.in-Some.is c.in_ok-piece.ensures
