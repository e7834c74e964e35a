use Rattle.pgw_wire.proofs.Taking.{exit}
use Rattle.std.specs.Int.NonZero.{non_zero_u32_get}
use Rattle.pgw_record.specs.Record.{no_cell}
use Rattle.pgw_record.proofs.record_pieces.take_component.Goals as goal

pub returns-in_err-cell : goal.returns-in_err-cell
returns-in_err-cell c =
    let o = c.in_ok-oid in
    rw (exit c.from_residual-in_err-cell.result _ c.from_residual-in_err-cell.ensures.1)
    (no_cell (non_zero_u32_get o.oid) o.rest.now o.ensures.0 o.ensures.1 o.ensures.2 c.in_err-cell.ensures)
