use Rattle.std.proofs.Common.{List, ℕ, true, refl, subst}
use Rattle.pgw_wire.specs.Cell.{Cell, cell_of}
use Rattle.pgw_wire.proofs.Taking.{exit}
use Rattle.pgw_meta.specs.Reading.{cell_of_value}
use Rattle.pgw_meta.proofs.Reading.{refused, refused_too}
use Rattle.pgw_nested.specs.Array.{BeginsNoArray, fails_in_front, RefusesArray}
use Rattle.pgw_nested.specs.Pieces.{elements_of}
use Rattle.pgw_nested.proofs.ReadingOn.{one_more_read, frame_refused, cell_refused, given_next}
use Rattle.pgw_nested.proofs.Refusals.{no_frame_refusal, no_array_refusal}
use Rattle.pgw_nested.proofs.array.VecFromSqlArray.from_sql.Goals as goal

pub returns-in_err-pieces : goal.returns-in_err-pieces
returns-in_err-pieces g c =
    let e = c.in_err-pieces.field-0.0 in
    let bytes = c.args.value.raw_value.now in
    let none : BeginsNoArray bytes e = subst (λ (b : List ℕ). BeginsNoArray b e) c.as_bytes.ensures c.in_err-pieces.ensures in
    rw (exit c.from_residual.result _ c.from_residual.ensures.1)
    (refused (RefusesArray g.T.FromSql.reads g.T.FromSql.refuses bytes) true e (fails_in_front e none refl) (no_array_refusal bytes e none))

pub returns-in_err-cell : goal.returns-in_err-cell
returns-in_err-cell g c =
    let e = c.in_err-cell.field-0.0 in
    let f = c.in_err-cell.ensures in
    let bytes = c.args.value.raw_value.now in
    let pieces = c.elements.pieces in
    rw (exit c.from_residual-in_err-cell.result _ c.from_residual-in_err-cell.ensures.1)
    (refused (RefusesArray g.T.FromSql.reads g.T.FromSql.refuses bytes) true e
    (frame_refused g.T.FromSql.reads g.T.FromSql.refuses bytes c.elements.items.items (elements_of pieces) e c.elements.invariant f.0 f.1)
    (no_frame_refusal pieces.nulls pieces.rest.now e f.1))

pub returns-in_err-item : goal.returns-in_err-item
returns-in_err-item g c =
    let e = c.in_err-item.field-0.0 in
    let bytes = c.args.value.raw_value.now in
    let cell = cell_of c.in-Some.cell in
    let before = elements_of c.elements.pieces in
    let now = elements_of c.next_piece.new.self in
    let next = given_next before c.in_ok-cell.field-0 c.in-Some.cell now c.in-Some.is c.in_ok-cell.ensures in
    rw (exit c.from_residual-in_err-item.result _ c.from_residual-in_err-item.ensures.1)
    (refused_too (g.T.FromSql.refuses (cell_of_value c.value_of.result)) (RefusesArray g.T.FromSql.reads g.T.FromSql.refuses bytes) g.T.FromSql.MEMORY true e
    (λ r. cell_refused g.T.FromSql.reads g.T.FromSql.refuses bytes c.elements.items.items before now cell e c.elements.invariant next
    (subst (λ (x : Cell). g.T.FromSql.refuses x e) c.value_of.ensures.cell r))
    (λ _. refl) c.in_err-item.ensures)

pub elements-preserved : goal.elements-preserved
elements-preserved g c =
    let bytes = c.args.value.raw_value.now in
    let cell = cell_of c.in-Some.cell in
    let before = elements_of c.elements.pieces in
    let now = elements_of c.next_piece.new.self in
    let item = c.in_ok-item.item in
    let next = given_next before c.in_ok-cell.field-0 c.in-Some.cell now c.in-Some.is c.in_ok-cell.ensures in
    rw c.in_ok-push.ensures.items
    (one_more_read g.T.FromSql.reads bytes c.elements.items.items before now cell item c.elements.invariant next
    (subst (λ (x : Cell). g.T.FromSql.reads x item) c.value_of.ensures.cell c.in_ok-item.ensures))
