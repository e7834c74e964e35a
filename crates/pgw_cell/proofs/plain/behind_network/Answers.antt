use Rattle.std.proofs.Common.{arith, sym}
use Rattle.pgw_cell.proofs.PlainFields.{inside, network_passed}
use Rattle.pgw_cell.proofs.plain.behind_network.Goals as goal

pub returns-then-is_ok : goal.returns-then-is_ok
returns-then-is_ok c =
    let piece = c.in_ok-piece.piece.now in
    let bytes = inside c.args.bytes.now piece c.in_ok-piece.rest.now (λ i. omega (arith, c.type_inv.bytes i)) c.in_ok-piece.ensures.field in
    record {
      piece = piece;
      passes = network_passed c.args.type_byte piece c.network_field.result bytes c.network_field.ensures (sym c.if-is_ok.ensures.value);
      fits = c.in_ok-piece.ensures.fits;
      is = c.in_ok-piece.ensures.field;
    }
