use Rattle.std.proofs.Common.{rules, ◌∙◌, map, Some, Result, Ok, refl, sym, ap, subst, arith}
use Rattle.std.proofs.lemmas.Result.{err_from_is_err_and}
use Rattle.pgw_wire.specs.Cell.{Cell, cell_of}
use Rattle.pgw_wire.proofs.Taking.{exit}
use Rattle.pgw_meta.specs.Shape.{array, range, multirange}
use Rattle.pgw_meta.specs.Types.{shape}
use Rattle.pgw_meta.specs.declared.types.PgType.{PgType}
use Rattle.pgw_scalar.proofs.Readers.{never_both}
use Rattle.pgw_nested.specs.Pieces.{elements_of}
use Rattle.pgw_nested.proofs.ReadingOn.{given_next}
use Rattle.pgw_cell.specs.Pieces.{piece_size, read_piece}
use Rattle.pgw_cell.specs.Cells.{read_value}
use Rattle.pgw_cell.specs.Data.{value_of, values_of, data_of, value_of_range, range_values, ranges_of as items_of, AnswersBound, AnswersAs}
use Rattle.pgw_cell.specs.Written.{cells_read}
use Rattle.pgw_cell.proofs.Counted.{size_ok, size_err, array_broken}
use Rattle.pgw_cell.proofs.Elements.{frame_broken, given_none}
use Rattle.pgw_cell.proofs.Lists.{value_of_list, value_of_ranges}
use Rattle.pgw_cell.proofs.Rewriting.{array_reads}
use Rattle.pgw_cell.proofs.ReadArrays.{ReadSoFar, none_read, one_read, value_more, only_memory, all_are_read, array_of, array_refused}
use Rattle.pgw_nested.specs.Range.{Bounds}
use Rattle.pgw_nested.specs.RangePieces.{ranges_of}
use Rattle.pgw_cell.specs.Value.{included, excluded, bound_value}
use Rattle.pgw_cell.specs.Written.{cell_of_bound, cells_of_range, range_answer}
use Rattle.pgw_cell.specs.declared.datum.Datum.{Datum}
use Rattle.pgw_cell.specs.declared.datum.BoundDatum.{BoundDatum}
use Rattle.pgw_cell.specs.declared.read.CellFault.{CellFault}
use Rattle.pgw_cell.proofs.Multiranges.{given_none as range_given_none, given_range, multirange_reads}
use Rattle.pgw_cell.proofs.RangeAnswers.{range_was_read, range_was_broken}
use Rattle.pgw_cell.proofs.ReadRanges.{bounds_have, lower_refused, upper_refused, both_answered, included_is, excluded_is, value_answered, value_refused, range_more, multirange_of_read, multirange_refused}
use Rattle.pgw_cell.proofs.read.+reading.Goals as goal

pub read_array-returns-in-Err : goal.read_array-returns-in-Err
read_array-returns-in-Err t c =
    let s = array (shape c.args.element.now) in
    size_err (piece_size s) (read_piece s c.args.piece.now) c.in-Err.kind (sym c.sized_array.ensures ∙ c.in-Err.is)

pub read_array-read_elements-requires : goal.read_array-read_elements-requires
read_array-read_elements-requires t c =
    let s = shape c.args.element.now in
    let ok = size_ok (piece_size (array s)) (read_piece (array s) c.args.piece.now) c.in_default.field-0 (sym c.sized_array.ensures ∙ c.in_default.is) in
    let e = elements_of c.in-Ok.pieces in
    let r = array_reads s c.args.piece.now e ok.0 c.in-Ok.ensures ok.1 in
    (search rules, (r.read, r.reads))

pub read_array-returns-in_err-list-in-Ok : goal.read_array-returns-in_err-list-in-Ok
read_array-returns-in_err-list-in-Ok t c =
    let s = shape c.args.element.now in
    let ok = size_ok (piece_size (array s)) (read_piece (array s) c.args.piece.now) c.in_default.field-0 (sym c.sized_array.ensures ∙ c.in_default.is) in
    let e = elements_of c.in-Ok.pieces in
    let r = array_reads s c.args.piece.now e ok.0 c.in-Ok.ensures ok.1 in
    rw (exit c.from_residual.result _ c.from_residual.ensures.1) (array_refused s c.args.piece.now e r.read c.in_err-list-in-Ok.field-0.0 c.in-Ok.ensures r.reads c.in_err-list-in-Ok.ensures.err)

pub read_array-unreachable-requires : goal.read_array-unreachable-requires
read_array-unreachable-requires t c =
    let s = shape c.args.element.now in
    let ok = size_ok (piece_size (array s)) (read_piece (array s) c.args.piece.now) c.in_default.field-0 (sym c.sized_array.ensures ∙ c.in_default.is) in
    never_both (read_piece (array s) c.args.piece.now) ok.0 _ ok.1 (array_broken s c.args.piece.now c.in-Err-new.field-0 c.in-Err-new.ensures)

pub read_array-returns : goal.read_array-returns
read_array-returns t c =
    let s = shape c.args.element.now in
    let ok = c.in_ok-list-in-Ok.ensures.ok in
    array_of s c.args.piece.now (elements_of c.in-Ok.pieces) (values_of (data_of c.in_ok-list-in-Ok.list)) ok.0 c.in-Ok.ensures ok.1 ∙ ap Ok (sym (value_of_list c.in_ok-list-in-Ok.list))

pub read_elements-loop-cell-init : goal.read_elements-loop-cell-init
read_elements-loop-cell-init t c =
    subst (λ l. ReadSoFar (shape c.args.element.now) (elements_of c.args.pieces) (elements_of c.args.pieces) (values_of l)) (sym c.new-list.ensures) (none_read (shape c.args.element.now) (elements_of c.args.pieces) c.requires.0 c.requires.1)

pub read_elements-returns-in_err-item-in-Ok-Some-clause-err :
    goal.read_elements-returns-in_err-item-in-Ok-Some-clause-err
read_elements-returns-in_err-item-in-Ok-Some-clause-err t c =
    let before = elements_of c.loop-cell.pieces in
    let now = elements_of c.next_piece.new.self in
    let next = given_next before c.in-Ok-Some.field-0 c.in-Ok-Some.cell now c.in-Ok-Some.field-0-is c.in-Ok-Some.ensures in
    rw (exit c.from_residual.result _ c.from_residual.ensures.1)
    (only_memory value_of (shape c.args.element.now) (cell_of c.in-Ok-Some.cell) (elements_of c.args.pieces) before now (values_of (data_of c.loop-cell.list)) _ next c.loop-cell.invariant c.in_err-item-in-Ok-Some.ensures.value)

pub read_elements-loop-cell-smaller : goal.read_elements-loop-cell-smaller
read_elements-loop-cell-smaller t c =
    let before = elements_of c.loop-cell.pieces in
    let now = elements_of c.next_piece.new.self in
    let next = given_next before c.in-Ok-Some.field-0 c.in-Ok-Some.cell now c.in-Ok-Some.field-0-is c.in-Ok-Some.ensures in
    omega (arith, next.left)

pub read_elements-loop-cell-preserved : goal.read_elements-loop-cell-preserved
read_elements-loop-cell-preserved t c =
    let before = elements_of c.loop-cell.pieces in
    let now = elements_of c.next_piece.new.self in
    let next = given_next before c.in-Ok-Some.field-0 c.in-Ok-Some.cell now c.in-Ok-Some.field-0-is c.in-Ok-Some.ensures in
    one_read (shape c.args.element.now) (cell_of c.in-Ok-Some.cell) (elements_of c.args.pieces) before now (values_of (data_of c.loop-cell.list)) (values_of (data_of c.push.new.self)) (value_of c.in_ok-item-in-Ok-Some.item) next c.loop-cell.invariant c.in_ok-item-in-Ok-Some.ensures.value
    (value_more (data_of c.loop-cell.list) (data_of c.push.new.self) c.in_ok-item-in-Ok-Some.item c.in_ok-push-in-Ok-Some.ensures.ok)

pub read_elements-returns-in_err-push-in-Ok-Some-clause-err :
    goal.read_elements-returns-in_err-push-in-Ok-Some-clause-err
read_elements-returns-in_err-push-in-Ok-Some-clause-err t c =
    let before = elements_of c.loop-cell.pieces in
    let now = elements_of c.next_piece.new.self in
    let next = given_next before c.in-Ok-Some.field-0 c.in-Ok-Some.cell now c.in-Ok-Some.field-0-is c.in-Ok-Some.ensures in
    let p = err_from_is_err_and c.from_residual-in_err-push-in-Ok-Some.result c.from_residual-in_err-push-in-Ok-Some.ensures.1 in
    rw (p.1, p.2) (refl, omega (arith, c.loop-cell.invariant.few, next.left))

pub read_elements-returns-in-Ok-None-clause-ok : goal.read_elements-returns-in-Ok-None-clause-ok
read_elements-returns-in-Ok-None-clause-ok t c =
    let before = elements_of c.loop-cell.pieces in
    let none = given_none before c.in-Ok-None.field-0 (elements_of c.next_piece.new.self) c.in-Ok-None.field-0-is c.in-Ok-None.ensures in
    all_are_read (shape c.args.element.now) (elements_of c.args.pieces) before (values_of (data_of c.loop-cell.list)) c.loop-cell.invariant none

pub read_elements-unreachable-requires : goal.read_elements-unreachable-requires
read_elements-unreachable-requires t c =
    let s = shape c.args.element.now in
    let before = elements_of c.loop-cell.pieces in
    let f = c.in-Err.ensures in
    never_both (cells_read s before) c.loop-cell.invariant.left _ c.loop-cell.invariant.reads (frame_broken (λ (x : Cell). read_value s x) before c.in-Err.field-0 f.0 f.1)

pub read_piece-returns-in-Array : goal.read_piece-returns-in-Array
read_piece-returns-in-Array t c =
    let p = c.args.piece.now in
    subst (λ (u : PgType). AnswersAs c.read_array.result (read_piece (shape u) p)) (sym c.in-Array.is)
    (subst (λ (u : PgType). AnswersAs c.read_array.result (read_piece (array (shape u)) p)) c.deref.ensures c.read_array.ensures)

-- ---- ranges

pub read_range-returns-in-Err : goal.read_range-returns-in-Err
read_range-returns-in-Err t c =
    range_was_broken (shape c.args.part.now) c.args.piece.now c.in-Err.kind (sym (ap range_answer c.in-Err.is) ∙ c.written_range.ensures)

pub read_range-returns-in_err-lower-in-Ok : goal.read_range-returns-in_err-lower-in-Ok
read_range-returns-in_err-lower-in-Ok t c =
    let s = shape c.args.part.now in
    let cells = cells_of_range c.in-Ok.range in
    let r = range_was_read s c.args.piece.now cells (sym (ap range_answer c.in-Ok.is) ∙ c.written_range.ensures) in
    let has = bounds_have s c.args.piece.now cells (λ i. omega (arith, c.type_inv.piece i)) r in
    let fault = c.in_err-lower-in-Ok.field-0.0 in
    let lower = subst (λ (x : Result BoundDatum CellFault). AnswersBound r.bounds.0 x) c.in_err-lower-in-Ok.was (c.read_bound.ensures r.bounds.0 has.0 (ap (λ (x : Bounds Cell). x.0) r.cells_are)) in
    rw (exit c.from_residual.result fault c.from_residual.ensures.1) (lower_refused s c.args.piece.now cells fault r lower)

pub read_range-returns-in_err-upper-in-Ok : goal.read_range-returns-in_err-upper-in-Ok
read_range-returns-in_err-upper-in-Ok t c =
    let s = shape c.args.part.now in
    let cells = cells_of_range c.in-Ok.range in
    let r = range_was_read s c.args.piece.now cells (sym (ap range_answer c.in-Ok.is) ∙ c.written_range.ensures) in
    let has = bounds_have s c.args.piece.now cells (λ i. omega (arith, c.type_inv.piece i)) r in
    let fault = c.in_err-upper-in-Ok.field-0.0 in
    let upper = subst (λ (x : Result BoundDatum CellFault). AnswersBound r.bounds.1 x) c.in_err-upper-in-Ok.was (c.read_bound-in-Ok.ensures r.bounds.1 has.1 (ap (λ (x : Bounds Cell). x.1) r.cells_are)) in
    rw (exit c.from_residual-in_err-upper-in-Ok.result fault c.from_residual-in_err-upper-in-Ok.ensures.1) (upper_refused s c.args.piece.now cells fault r upper)

pub read_range-returns-in_ok-upper-in-Ok : goal.read_range-returns-in_ok-upper-in-Ok
read_range-returns-in_ok-upper-in-Ok t c =
    let s = shape c.args.part.now in
    let cells = cells_of_range c.in-Ok.range in
    let r = range_was_read s c.args.piece.now cells (sym (ap range_answer c.in-Ok.is) ∙ c.written_range.ensures) in
    let has = bounds_have s c.args.piece.now cells (λ i. omega (arith, c.type_inv.piece i)) r in
    let lower = subst (λ (x : Result BoundDatum CellFault). AnswersBound r.bounds.0 x) c.in_ok-lower-in-Ok.was (c.read_bound.ensures r.bounds.0 has.0 (ap (λ (x : Bounds Cell). x.0) r.cells_are)) in
    let upper = subst (λ (x : Result BoundDatum CellFault). AnswersBound r.bounds.1 x) c.in_ok-upper-in-Ok.was (c.read_bound-in-Ok.ensures r.bounds.1 has.1 (ap (λ (x : Bounds Cell). x.1) r.cells_are)) in
    both_answered s c.args.piece.now cells c.in_ok-lower-in-Ok.lower c.in_ok-upper-in-Ok.upper r lower upper

pub read_bound-returns-in_err-value-in-Included : goal.read_bound-returns-in_err-value-in-Included
read_bound-returns-in_err-value-in-Included t c = λ b has e.
    let s = shape c.args.part.now in
    let k = included_is s c.in-Included.value b has (sym (ap cell_of_bound c.in-Included.is) ∙ e) in
    let fault = c.in_err-value-in-Included.field-0.0 in
    let reads = ap (read_piece s) c.bytes.ensures ∙ k.reads in
    let memory = value_refused s c.bytes.result.now k.value fault reads (subst (λ (x : Result Datum CellFault). AnswersAs x (read_piece s c.bytes.result.now)) c.in_err-value-in-Included.was c.read_piece.ensures) in
    rw (exit c.from_residual.result fault c.from_residual.ensures.1, k.is) (memory, refl)

pub read_bound-returns-in_err-value-in-Excluded : goal.read_bound-returns-in_err-value-in-Excluded
read_bound-returns-in_err-value-in-Excluded t c = λ b has e.
    let s = shape c.args.part.now in
    let k = excluded_is s c.in-Excluded.value b has (sym (ap cell_of_bound c.in-Excluded.is) ∙ e) in
    let fault = c.in_err-value-in-Excluded.field-0.0 in
    let reads = ap (read_piece s) c.bytes-in-Excluded.ensures ∙ k.reads in
    let memory = value_refused s c.bytes-in-Excluded.result.now k.value fault reads (subst (λ (x : Result Datum CellFault). AnswersAs x (read_piece s c.bytes-in-Excluded.result.now)) c.in_err-value-in-Excluded.was c.read_piece-in-Excluded.ensures) in
    rw (exit c.from_residual-in_err-value-in-Excluded.result fault c.from_residual-in_err-value-in-Excluded.ensures.1, k.is) (memory, refl)

pub read_bound-returns-in_ok-boxed-in-Included : goal.read_bound-returns-in_ok-boxed-in-Included
read_bound-returns-in_ok-boxed-in-Included t c = λ b has e.
    let s = shape c.args.part.now in
    let k = included_is s c.in-Included.value b has (sym (ap cell_of_bound c.in-Included.is) ∙ e) in
    let reads = ap (read_piece s) c.bytes.ensures ∙ k.reads in
    let value = value_answered s c.bytes.result.now k.value c.in_ok-value-in-Included.value reads (subst (λ (x : Result Datum CellFault). AnswersAs x (read_piece s c.bytes.result.now)) c.in_ok-value-in-Included.was c.read_piece.ensures) in
    ap (λ d. included (value_of d)) c.in_ok-boxed-in-Included.ensures.ok ∙ ap included value ∙ ap bound_value (sym k.is)

pub read_bound-returns-in_ok-boxed-in-Excluded : goal.read_bound-returns-in_ok-boxed-in-Excluded
read_bound-returns-in_ok-boxed-in-Excluded t c = λ b has e.
    let s = shape c.args.part.now in
    let k = excluded_is s c.in-Excluded.value b has (sym (ap cell_of_bound c.in-Excluded.is) ∙ e) in
    let reads = ap (read_piece s) c.bytes-in-Excluded.ensures ∙ k.reads in
    let value = value_answered s c.bytes-in-Excluded.result.now k.value c.in_ok-value-in-Excluded.value reads (subst (λ (x : Result Datum CellFault). AnswersAs x (read_piece s c.bytes-in-Excluded.result.now)) c.in_ok-value-in-Excluded.was c.read_piece-in-Excluded.ensures) in
    ap (λ d. excluded (value_of d)) c.in_ok-boxed-in-Excluded.ensures.ok ∙ ap excluded value ∙ ap bound_value (sym k.is)

-- ---- multiranges

pub read_multirange-read_ranges-requires : goal.read_multirange-read_ranges-requires
read_multirange-read_ranges-requires t c =
    let s = shape c.args.part.now in
    let ok = size_ok (piece_size (multirange s)) (read_piece (multirange s) c.args.piece.now) c.in_default.field-0 (sym c.sized_multirange.ensures ∙ c.in_default.is) in
    let e = ranges_of c.in-Ok.pieces in
    let r = multirange_reads s c.args.piece.now e ok.0 c.in-Ok.ensures ok.1 in
    (search rules, (r.read, r.reads))

pub read_multirange-returns-in_err-list-in-Ok : goal.read_multirange-returns-in_err-list-in-Ok
read_multirange-returns-in_err-list-in-Ok t c =
    let s = shape c.args.part.now in
    let ok = size_ok (piece_size (multirange s)) (read_piece (multirange s) c.args.piece.now) c.in_default.field-0 (sym c.sized_multirange.ensures ∙ c.in_default.is) in
    let e = ranges_of c.in-Ok.pieces in
    let r = multirange_reads s c.args.piece.now e ok.0 c.in-Ok.ensures ok.1 in
    rw (exit c.from_residual.result _ c.from_residual.ensures.1) (multirange_refused s c.args.piece.now e r.read c.in_err-list-in-Ok.field-0.0 c.in-Ok.ensures r.reads c.in_err-list-in-Ok.ensures.err)

pub read_multirange-returns : goal.read_multirange-returns
read_multirange-returns t c =
    let s = shape c.args.part.now in
    let ok = c.in_ok-list-in-Ok.ensures.ok in
    multirange_of_read s c.args.piece.now (ranges_of c.in-Ok.pieces) (range_values c.in_ok-list-in-Ok.list) ok.0 c.in-Ok.ensures ok.1 ∙ ap Ok (sym (value_of_ranges c.in_ok-list-in-Ok.list))

pub read_ranges-loop-piece-init : goal.read_ranges-loop-piece-init
read_ranges-loop-piece-init t c =
    let s = range (shape c.args.part.now) in
    subst (λ l. ReadSoFar s (ranges_of c.args.pieces) (ranges_of c.args.pieces) (map value_of_range l)) (sym c.new-list.ensures) (none_read s (ranges_of c.args.pieces) c.requires.0 c.requires.1)

pub read_ranges-returns-in_err-item-in-Ok-Some-clause-err :
    goal.read_ranges-returns-in_err-item-in-Ok-Some-clause-err
read_ranges-returns-in_err-item-in-Ok-Some-clause-err t c =
    let s = range (shape c.args.part.now) in
    let before = ranges_of c.loop-piece.pieces in
    let now = ranges_of c.next_piece.new.self in
    let next = given_range before c.in-Ok-Some.field-0 c.in-Ok-Some.piece now c.in-Ok-Some.field-0-is c.in-Ok-Some.ensures in
    rw (exit c.from_residual.result _ c.from_residual.ensures.1)
    (only_memory value_of_range s (Some c.in-Ok-Some.piece.now) (ranges_of c.args.pieces) before now (range_values c.loop-piece.list) _ next c.loop-piece.invariant c.in_err-item-in-Ok-Some.ensures)

pub read_ranges-loop-piece-smaller : goal.read_ranges-loop-piece-smaller
read_ranges-loop-piece-smaller t c =
    let before = ranges_of c.loop-piece.pieces in
    let now = ranges_of c.next_piece.new.self in
    let next = given_range before c.in-Ok-Some.field-0 c.in-Ok-Some.piece now c.in-Ok-Some.field-0-is c.in-Ok-Some.ensures in
    omega (arith, next.left)

pub read_ranges-loop-piece-preserved : goal.read_ranges-loop-piece-preserved
read_ranges-loop-piece-preserved t c =
    let s = range (shape c.args.part.now) in
    let before = ranges_of c.loop-piece.pieces in
    let now = ranges_of c.next_piece.new.self in
    let next = given_range before c.in-Ok-Some.field-0 c.in-Ok-Some.piece now c.in-Ok-Some.field-0-is c.in-Ok-Some.ensures in
    let item = c.in_ok-item-in-Ok-Some.item in
    one_read s (Some c.in-Ok-Some.piece.now) (ranges_of c.args.pieces) before now (range_values c.loop-piece.list) (range_values c.push.new.self) (value_of_range item) next c.loop-piece.invariant c.in_ok-item-in-Ok-Some.ensures
    (range_more (items_of c.loop-piece.list) (items_of c.push.new.self) item c.in_ok-push-in-Ok-Some.ensures.ok)

pub read_ranges-returns-in_err-push-in-Ok-Some-clause-err :
    goal.read_ranges-returns-in_err-push-in-Ok-Some-clause-err
read_ranges-returns-in_err-push-in-Ok-Some-clause-err t c =
    let before = ranges_of c.loop-piece.pieces in
    let now = ranges_of c.next_piece.new.self in
    let next = given_range before c.in-Ok-Some.field-0 c.in-Ok-Some.piece now c.in-Ok-Some.field-0-is c.in-Ok-Some.ensures in
    let p = err_from_is_err_and c.from_residual-in_err-push-in-Ok-Some.result c.from_residual-in_err-push-in-Ok-Some.ensures.1 in
    rw (p.1, p.2) (refl, omega (arith, c.loop-piece.invariant.few, next.left))

pub read_ranges-returns-in-Ok-None-clause-ok : goal.read_ranges-returns-in-Ok-None-clause-ok
read_ranges-returns-in-Ok-None-clause-ok t c =
    let before = ranges_of c.loop-piece.pieces in
    let none = range_given_none before c.in-Ok-None.field-0 (ranges_of c.next_piece.new.self) c.in-Ok-None.field-0-is c.in-Ok-None.ensures in
    all_are_read (range (shape c.args.part.now)) (ranges_of c.args.pieces) before (range_values c.loop-piece.list) c.loop-piece.invariant none

pub read_ranges-unreachable-requires : goal.read_ranges-unreachable-requires
read_ranges-unreachable-requires t c =
    let s = range (shape c.args.part.now) in
    let before = ranges_of c.loop-piece.pieces in
    let f = c.in-Err.ensures in
    never_both (cells_read s before) c.loop-piece.invariant.left _ c.loop-piece.invariant.reads (frame_broken (λ (x : Cell). read_value s x) before c.in-Err.field-0 f.0 f.1)

pub read_piece-returns-in-Multirange : goal.read_piece-returns-in-Multirange
read_piece-returns-in-Multirange t c =
    let p = c.args.piece.now in
    subst (λ (u : PgType). AnswersAs c.read_multirange.result (read_piece (shape u) p)) (sym c.in-Multirange.is)
    (subst (λ (u : PgType). AnswersAs c.read_multirange.result (read_piece (multirange (shape u)) p)) c.deref-in-Multirange.ensures c.read_multirange.ensures)
