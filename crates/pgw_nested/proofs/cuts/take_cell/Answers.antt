use Rattle.pgw_wire.proofs.Taking.{exit}
use Rattle.pgw_nested.proofs.Cut.{no_null_length, no_piece}
use Rattle.pgw_nested.proofs.cuts.take_cell.Goals as goal

pub returns-in_err-piece : goal.returns-in_err-piece
returns-in_err-piece c =
    let n = c.in_ok-len in
    rw (exit c.from_residual-in_err-piece.result _ c.from_residual-in_err-piece.ensures.1)
    (no_piece c.args.nulls n.len c.args.bytes.now n.rest.now _ n.ensures.0 n.ensures.1 (no_null_length c.args.nulls n.len c.else-nulls.either) c.in_err-piece.ensures)
