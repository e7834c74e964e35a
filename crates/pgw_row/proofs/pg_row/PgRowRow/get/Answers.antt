-- The field has the column and the cell at its place, and there is none where one of both is missing.
use Rattle.std.proofs.Common.{◌∙◌, ap, sym, arith}
use Rattle.std.specs.Prelude.{option_map, Some}
use Rattle.pgw_row.specs.Rows.{field_of}
use Rattle.pgw_row.proofs.ResultFields.{field_at_place, no_field}
use Rattle.pgw_row.proofs.pg_row.PgRowRow.get.Goals as goal

pub returns-in_err-column : goal.returns-in_err-column
returns-in_err-column c =
    let none = c.in_err-column.ensures.lookup.3 in
    ap (option_map field_of) c.from_residual.ensures
    ∙ sym (no_field c.args.self.now.columns.now c.args.self.now.cells.now c.args.idx (omega (arith, none)))

pub returns-in_err-cell : goal.returns-in_err-cell
returns-in_err-cell c =
    let none = c.in_err-cell.ensures.lookup.3 in
    ap (option_map field_of) c.from_residual-in_err-cell.ensures
    ∙ sym (no_field c.args.self.now.columns.now c.args.self.now.cells.now c.args.idx (omega (arith, none)))

pub returns : goal.returns
returns c =
    let column = c.in_ok-column.ensures.lookup in
    let cell = c.in_ok-cell.ensures.lookup in
    ap Some c.field_in.ensures
    ∙ sym (field_at_place c.args.self.now.columns.now c.args.self.now.cells.now c.args.idx _ _
    column.3.0 column.1 cell.3.0 cell.1)
