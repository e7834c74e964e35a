use Rattle.std.proofs.Common.{◌∙◌, Some, refl, sym, ap}
use Rattle.std.specs.Result.{result_err}
use Rattle.std.proofs.lemmas.Result.{err_from_is_err_and}
use Rattle.pgw_meta.proofs.Views.{parts_err, parts_ok, parts_done, record_fault}
use Rattle.pgw_meta.proofs.schema.+check.Goals as goal

pub check_parts-loop-part-init : goal.check_parts-loop-part-init
check_parts-loop-part-init t c = refl

pub check_parts-returns-in_err-check_type : goal.check_parts-returns-in_err-check_type
check_parts-returns-in_err-check_type t c =
    let p = err_from_is_err_and c.from_residual.result c.from_residual.ensures.1 in
    ap result_err p.1 ∙ ap Some p.2
    ∙ parts_err c.args.column c.args.depth c.args.parts.now c.loop-part.part-index _ _ c.loop-part-test.true c.part-item.is
    (sym c.check_type.ensures ∙ ap result_err c.in_err-check_type.was) c.loop-part.invariant

pub check_parts-loop-part-preserved : goal.check_parts-loop-part-preserved
check_parts-loop-part-preserved t c =
    parts_ok c.args.column c.args.depth c.args.parts.now c.loop-part.part-index _ c.loop-part-test.true c.part-item.is
    (sym c.check_type.ensures ∙ ap result_err c.in_ok-check_type.was) c.loop-part.invariant

pub check_parts-returns : goal.check_parts-returns
check_parts-returns t c =
    sym (parts_done c.args.column c.args.depth c.args.parts.now c.loop-part.part-index c.loop-part-test.false) ∙ c.loop-part.invariant

pub check_type-returns-in-Record : goal.check_type-returns-in-Record
check_type-returns-in-Record t c =
    record_fault c.args.column c.args.depth c.args.t.now c.in-Record.parts c.as_slice.result.now _ c.in-Record.is c.as_slice.ensures
    (sym c.check_one.ensures.fault ∙ ap result_err c.in_ok-check_one.was) c.check_parts.ensures
