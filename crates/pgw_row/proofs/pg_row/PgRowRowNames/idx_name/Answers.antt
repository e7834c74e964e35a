-- A column that has the name, and no cell, has no field.
use Rattle.std.proofs.Common.{sym, arith}
use Rattle.pgw_row.proofs.ResultFields.{place_outside}
use Rattle.pgw_row.proofs.pg_row.PgRowRowNames.idx_name.Goals as goal

pub returns-else-place-field_count : goal.returns-else-place-field_count
returns-else-place-field_count c =
    sym (place_outside c.args.self.now.columns.now c.args.self.now.cells.now c.args.name.now c.in_ok-place.place
    (sym c.in_ok-place.ensures) (omega (arith, c.if-place-field_count.false, c.field_count.ensures)))
