use Rattle.std.proofs.Common.{List, ℕ, subst}
use Rattle.pgw_wire.proofs.Taking.{exit}
use Rattle.pgw_meta.proofs.Reading.{refused, refused_too}
use Rattle.pgw_nested.specs.Range.{RefusesBound, RefusesRange}
use Rattle.pgw_nested.specs.RangePieces.{bound_of, coming_of, BeginsRange}
use Rattle.pgw_nested.proofs.Bounds.{lower_given, none_given, lower_not_given, lower_refused, upper_not_given, upper_refused, both_read}
use Rattle.pgw_nested.proofs.range.Tuple2BoundBoundFromSqlRange.from_sql.Goals as goal

pub returns-in_err-piece : goal.returns-in_err-piece
returns-in_err-piece g c =
    let bytes = c.args.value.raw_value.now in
    let before = coming_of c.in_ok-pieces.pieces in
    let begins = subst (λ (b : List ℕ). BeginsRange b before) c.as_bytes.ensures c.in_ok-pieces.ensures in
    let e = c.in_err-piece.field-0.0 in
    let r = lower_not_given g.T.FromSql.reads g.T.FromSql.refuses bytes before (coming_of c.next_piece.new.self) e begins c.in_err-piece.ensures in
    rw (exit c.from_residual-in_err-piece.result _ c.from_residual-in_err-piece.ensures.1)
    (refused (RefusesRange g.T.FromSql.reads g.T.FromSql.refuses bytes) g.T.FromSql.MEMORY e r.0 r.1)

pub returns-in_err-lower-in-Some : goal.returns-in_err-lower-in-Some
returns-in_err-lower-in-Some g c =
    let bytes = c.args.value.raw_value.now in
    let before = coming_of c.in_ok-pieces.pieces in
    let now = coming_of c.next_piece.new.self in
    let begins = subst (λ (b : List ℕ). BeginsRange b before) c.as_bytes.ensures c.in_ok-pieces.ensures in
    let lower = bound_of c.in-Some.piece in
    let given = lower_given bytes before now c.in_ok-piece.field-0 c.in-Some.piece c.in-Some.is begins c.in_ok-piece.ensures in
    let e = c.in_err-lower-in-Some.field-0.0 in
    rw (exit c.from_residual-in_err-lower-in-Some.result _ c.from_residual-in_err-lower-in-Some.ensures.1)
    (refused_too (RefusesBound g.T.FromSql.refuses lower) (RefusesRange g.T.FromSql.reads g.T.FromSql.refuses bytes) g.T.FromSql.MEMORY g.T.FromSql.MEMORY e
    (λ r. lower_refused g.T.FromSql.reads g.T.FromSql.refuses bytes lower now.flags now.rest e given r) (λ m. m) c.in_err-lower-in-Some.ensures)

pub returns-in-None : goal.returns-in-None
returns-in-None g c =
    let bytes = c.args.value.raw_value.now in
    let before = coming_of c.in_ok-pieces.pieces in
    let begins = subst (λ (b : List ℕ). BeginsRange b before) c.as_bytes.ensures c.in_ok-pieces.ensures in
    rw c.no_value.ensures
    (none_given g.T.FromSql.reads g.T.FromSql.refuses g.T.Defaultable.DEFAULT bytes before (coming_of c.next_piece.new.self) c.in_ok-piece.field-0 c.in-None.is begins c.in_ok-piece.ensures)

pub returns-in_err-upper_piece : goal.returns-in_err-upper_piece
returns-in_err-upper_piece g c =
    let bytes = c.args.value.raw_value.now in
    let before = coming_of c.in_ok-pieces.pieces in
    let now = coming_of c.next_piece.new.self in
    let begins = subst (λ (b : List ℕ). BeginsRange b before) c.as_bytes.ensures c.in_ok-pieces.ensures in
    let lower = bound_of c.in-Some.piece in
    let given = lower_given bytes before now c.in_ok-piece.field-0 c.in-Some.piece c.in-Some.is begins c.in_ok-piece.ensures in
    let e = c.in_err-upper_piece.field-0.0 in
    let r = upper_not_given g.T.FromSql.reads g.T.FromSql.refuses bytes lower now.flags now.rest c.in_ok-lower-in-Some.lower e given c.in_ok-lower-in-Some.ensures c.in_err-upper_piece.ensures in
    rw (exit c.from_residual-in_err-upper_piece.result _ c.from_residual-in_err-upper_piece.ensures.1)
    (refused (RefusesRange g.T.FromSql.reads g.T.FromSql.refuses bytes) g.T.FromSql.MEMORY e r.0 r.1)

pub returns-in_err-upper : goal.returns-in_err-upper
returns-in_err-upper g c =
    let bytes = c.args.value.raw_value.now in
    let before = coming_of c.in_ok-pieces.pieces in
    let now = coming_of c.next_piece.new.self in
    let begins = subst (λ (b : List ℕ). BeginsRange b before) c.as_bytes.ensures c.in_ok-pieces.ensures in
    let lower = bound_of c.in-Some.piece in
    let given = lower_given bytes before now c.in_ok-piece.field-0 c.in-Some.piece c.in-Some.is begins c.in_ok-piece.ensures in
    let upper = bound_of c.in_ok-upper_piece.field-0 in
    let e = c.in_err-upper.field-0.0 in
    rw (exit c.from_residual-in_err-upper.result _ c.from_residual-in_err-upper.ensures.1)
    (refused_too (RefusesBound g.T.FromSql.refuses upper) (RefusesRange g.T.FromSql.reads g.T.FromSql.refuses bytes) g.T.FromSql.MEMORY g.T.FromSql.MEMORY e
    (λ r. upper_refused g.T.FromSql.reads g.T.FromSql.refuses bytes lower now.flags now.rest c.in_ok-lower-in-Some.lower upper e given c.in_ok-lower-in-Some.ensures c.in_ok-upper_piece.ensures r) (λ m. m) c.in_err-upper.ensures)

pub returns : goal.returns
returns g c =
    let bytes = c.args.value.raw_value.now in
    let before = coming_of c.in_ok-pieces.pieces in
    let now = coming_of c.next_piece.new.self in
    let begins = subst (λ (b : List ℕ). BeginsRange b before) c.as_bytes.ensures c.in_ok-pieces.ensures in
    let lower = bound_of c.in-Some.piece in
    let given = lower_given bytes before now c.in_ok-piece.field-0 c.in-Some.piece c.in-Some.is begins c.in_ok-piece.ensures in
    both_read g.T.FromSql.reads g.T.FromSql.refuses g.T.Defaultable.DEFAULT bytes lower now.flags now.rest (bound_of c.in_ok-upper_piece.field-0) c.in_ok-lower-in-Some.lower c.in_ok-upper.upper
    given c.in_ok-lower-in-Some.ensures c.in_ok-upper_piece.ensures c.in_ok-upper.ensures
