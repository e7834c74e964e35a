use Rattle.std.proofs.Common.{◌∙◌, Some, refl, sym, ap}
use Rattle.std.specs.Result.{result_err}
use Rattle.std.proofs.lemmas.Result.{err_from_is_err_and}
use Rattle.pgw_meta.proofs.Columns.{columns_bounded, columns_err, columns_ok, columns_done}
use Rattle.pgw_meta.proofs.schema.check_columns.Goals as goal

pub loop-column-init : goal.loop-column-init
loop-column-init c = refl

pub returns-in_err-check_type : goal.returns-in_err-check_type
returns-in_err-check_type c =
    let p = err_from_is_err_and c.from_residual.result c.from_residual.ensures.1 in
    ap result_err p.1 ∙ ap Some p.2
    ∙ columns_err c.args.columns.now c.loop-column.column _ _ c.loop-column-test.true c.index-columns-column.is
    (sym c.check_type.ensures ∙ ap result_err c.in_err-check_type.was) c.loop-column.invariant
    ∙ columns_bounded c.args.columns.now (sym c.if-is_empty.ensures) c.if-columns-gt-COLUMNS_MAX.false

pub loop-column-preserved : goal.loop-column-preserved
loop-column-preserved c =
    columns_ok c.args.columns.now c.loop-column.column _ c.loop-column-test.true c.index-columns-column.is
    (sym c.check_type.ensures ∙ ap result_err c.in_ok-check_type.was) c.loop-column.invariant

pub returns : goal.returns
returns c =
    sym (columns_done c.args.columns.now c.loop-column.column c.loop-column-test.false) ∙ c.loop-column.invariant
    ∙ columns_bounded c.args.columns.now (sym c.if-is_empty.ensures) c.if-columns-gt-COLUMNS_MAX.false
