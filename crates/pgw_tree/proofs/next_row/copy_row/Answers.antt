use Rattle.std.proofs.Common.{◌∙◌, ℕ, List, [], ◌<◌, true, false, Err, refl, sym, ap, arith, subst, inl}
use Rattle.std.specs.Prelude.{◌≢◌}
use Rattle.std.specs.Int.{to_be_bytes, w16}
use Rattle.pgw_wire.specs.Outside.{Wrote}
use Rattle.pgw_wire.proofs.Taking.{exit, took_weaker, takes_done, takes_error, takes_refused}
use Rattle.pgw_wire.proofs.Adding.{wrote_none, wrote_still}
use Rattle.pgw_copy.specs.Format.{IsRow}
use Rattle.pgw_copy.specs.State.{cells_of}
use Rattle.pgw_copy.proofs.Reading.{row_of}
use Rattle.pgw_tree.specs.declared.fault.CopyFault.TheVariants.{RowLimit}
use Rattle.pgw_tree.specs.declared.send_fault.SendFault.TheVariants.{WriteFault}
use Rattle.pgw_meta.specs.Types.{column_shapes}
use Rattle.pgw_tree.specs.Causes.{row_limit}
use Rattle.pgw_tree.proofs.Parts.{reader_first, reader_later, count_cause, fields_cause, row_taken, is_inside, sent_cause, sent_failed, some_count, no_count}
use Rattle.pgw_tree.proofs.Runs.{run_one}
use Rattle.pgw_meta.specs.NamedOids.{known_of}
use Rattle.pgw_tree.proofs.next_row.copy_row.Goals as goal

pub returns-in_err-next_count-clause-takes : goal.returns-in_err-next_count-clause-takes
returns-in_err-next_count-clause-takes g c =
    reader_first _ _ (exit c.from_residual.result _ c.from_residual.ensures.1) c.in_err-next_count.ensures.takes
    (λ bytes h. inl (count_cause c.args.limits (column_shapes c.args.columns.now.types.now) c.args.rows c.in_err-next_count.field-0.0 bytes h, wrote_none _))

pub returns-then-is_none-clause-takes : goal.returns-then-is_none-clause-takes
returns-then-is_none-clause-takes g c =
    let none = no_count c.in_ok-next_count.field-0 c.is_none.result c.is_none.ensures c.if-is_none.true in
    takes_done false _ _ (took_weaker (rw none at (c.in_ok-next_count.ensures.takes.ok _ refl)) (λ bytes end. (end, wrote_none _)))

pub returns-then-rows-rows_max-clause-takes : goal.returns-then-rows-rows_max-clause-takes
returns-then-rows-rows_max-clause-takes g c =
    let some = some_count c.in_ok-next_count.field-0 c.is_none.result c.is_none.ensures c.if-is_none.false in
    let counted = rw some.1 at (c.in_ok-next_count.ensures.takes.ok _ refl) in
    takes_error RowLimit _ _ (took_weaker counted (λ x count. inl (row_limit some.0 refl count (c.if-rows-rows_max.true ∙ c.rows_max.ensures), wrote_none _))) (λ h. absurd (cc)) (λ h. absurd (cc))

pub returns-in_err-row-clause-takes : goal.returns-in_err-row-clause-takes
returns-in_err-row-clause-takes g c =
    let some = some_count c.in_ok-next_count.field-0 c.is_none.result c.is_none.ensures c.if-is_none.false in
    let counted = rw some.1 at (c.in_ok-next_count.ensures.takes.ok _ refl) in
    let pends = ap (λ s. s.pending) c.in_ok-next_count.ensures.ok ∙ some.1 in
    reader_later _ _ (exit c.from_residual-in_err-row.result _ c.from_residual-in_err-row.ensures.1) counted (c.in_err-row.ensures.takes some.0 pends)
    (λ x y count cut. inl (fields_cause c.args.limits (column_shapes c.args.columns.now.types.now) c.args.rows some.0 c.in_err-row.field-0.0 x y (omega (arith, c.requires.allowed, c.if-rows-rows_max.false, c.rows_max.ensures)) count cut, wrote_none _))

pub send_values-requires-clause-row : goal.send_values-requires-clause-row
send_values-requires-clause-row g c =
    let some = some_count c.in_ok-next_count.field-0 c.is_none.result c.is_none.ensures c.if-is_none.false in
    let counted = rw some.1 at (c.in_ok-next_count.ensures.takes.ok _ refl) in
    let pends = ap (λ s. s.pending) c.in_ok-next_count.ensures.ok ∙ some.1 in
    let each = (c.in_ok-row.ensures.takes some.0 pends).ok _ refl in
    subst (λ (l : List ℕ). IsRow (cells_of c.in_ok-row.row) l) (sym each.has.1) (row_of some.0 (cells_of c.in_ok-row.row) (to_be_bytes w16 some.0) each.taken (counted.has.0, refl) (c.in_ok-row.ensures.many some.0 pends) each.has.0)

pub returns-in-Ok-clause-takes : goal.returns-in-Ok-clause-takes
returns-in-Ok-clause-takes g c =
    let some = some_count c.in_ok-next_count.field-0 c.is_none.result c.is_none.ensures c.if-is_none.false in
    let counted = rw some.1 at (c.in_ok-next_count.ensures.takes.ok _ refl) in
    let pends = ap (λ s. s.pending) c.in_ok-next_count.ensures.ok ∙ some.1 in
    let allowed : c.args.rows < c.args.limits.rows_max = omega (arith, c.requires.allowed, c.if-rows-rows_max.false, c.rows_max.ensures) in
    let row = row_taken c.args.limits c.args.rows some.0 (cells_of c.in_ok-row.row) _ allowed (c.in_ok-row.ensures.many some.0 pends) counted ((c.in_ok-row.ensures.takes some.0 pends).ok _ refl) in
    let sent = rw c.field_max.ensures.value at c.in-Ok.ensures.ok in
    takes_done true _ _ (took_weaker row (λ bytes at.
    run_one (known_of c.args.columns.now.found.now) c.args.limits (column_shapes c.args.columns.now.types.now) c.args.rows _ bytes sent.0 allowed (record { cells = _; is = at.is; spelled = sent.1.spelled; fit = sent.1.fit }) sent.2))

pub returns-in-Err-clause-takes : goal.returns-in-Err-clause-takes
returns-in-Err-clause-takes g c =
    let some = some_count c.in_ok-next_count.field-0 c.is_none.result c.is_none.ensures c.if-is_none.false in
    let counted = rw some.1 at (c.in_ok-next_count.ensures.takes.ok _ refl) in
    let pends = ap (λ s. s.pending) c.in_ok-next_count.ensures.ok ∙ some.1 in
    let allowed : c.args.rows < c.args.limits.rows_max = omega (arith, c.requires.allowed, c.if-rows-rows_max.false, c.rows_max.ensures) in
    let row = row_taken c.args.limits c.args.rows some.0 (cells_of c.in_ok-row.row) _ allowed (c.in_ok-row.ensures.many some.0 pends) counted ((c.in_ok-row.ensures.takes some.0 pends).ok _ refl) in
    let says = rw c.field_max.ensures.value at c.in-Err.ensures.err in
    let still : c.in-Err.fault ≢ WriteFault → Wrote (g.K.Sink.state c.args.sink.now) (g.K.Sink.state c.send_values.new.sink) [] = λ other. wrote_still g.K.Sink.state c.args.sink.now c.send_values.new.sink (c.in-Err.ensures.unwritten other) in
    let inside = is_inside c.args.rows c.in-Err.fault in
    takes_refused _ _ (ap Err c.in_row.ensures) (took_weaker row (λ bytes at. sent_cause (known_of c.args.columns.now.found.now) c.args.limits (column_shapes c.args.columns.now.types.now) c.args.rows _ bytes c.in-Err.fault at says still))
    (λ h. absurd (inside.0 h)) (λ h. absurd (inside.1 h))

pub returns-in-Err-clause-write_fault : goal.returns-in-Err-clause-write_fault
returns-in-Err-clause-write_fault g c = λ is. sent_failed c.args.rows c.in-Err.fault c.in-Err.ensures.err (λ broken. broken.3) (cc)
