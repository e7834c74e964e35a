use Rattle.std.proofs.Common.{◌∙◌, ◌+◌, ◌++◌, length, Some, Err, ap, arith}
use Rattle.pgw_meta.specs.NamedOids.{known_of}
use Rattle.pgw_meta.specs.Shape.{array}
use Rattle.pgw_meta.specs.Types.{shape}
use Rattle.pgw_wire.specs.Cell.{frame}
use Rattle.pgw_wire.proofs.Taking.{exit}
use Rattle.pgw_nested.specs.Array.{array_head, flags_of}
use Rattle.pgw_cell.specs.Pieces.{piece_size, read_piece}
use Rattle.pgw_cell.proofs.Appending.{no_room, plain_many, plain_appended}
use Rattle.pgw_cell.proofs.PlainFields.{plain_read}
use Rattle.pgw_cell.proofs.Rewriting.{piece_bytes}
use Rattle.pgw_cell.proofs.append.append_array.Goals as goal

pub returns-in_err-make_room-in-Some : goal.returns-in_err-make_room-in-Some
returns-in_err-make_room-in-Some c =
    let known = known_of c.args.found.now in
    let s = shape c.args.element.now in
    let p = c.args.piece.now in
    let bytes = c.in-Some.elements.now in
    let x = plain_read known s p c.in-Some.count c.in-Some.null bytes (λ i. omega (arith, c.type_inv.piece i)) c.in-Some.ensures in
    let many = plain_many known s p c.in-Some.count c.in-Some.null bytes x in
    rw (exit c.from_residual.result _ c.from_residual.ensures.1)
    (no_room (read_piece (array s) p) (piece_size (array s)) (piece_bytes known (array s)) c.args.most c.args.out.now.bytes c.make_room.new.out.bytes (Err c.in_err-make_room-in-Some.field-0.0) x.value (20 + length bytes) x.reads
    (λ h. omega (arith, h, many)) (λ h. omega (arith, h, many)) c.in_err-make_room-in-Some.ensures.bytes c.in_err-make_room-in-Some.ensures.err)

pub returns-in_ok-make_room-in-Some : goal.returns-in_ok-make_room-in-Some
returns-in_ok-make_room-in-Some c =
    let known = known_of c.args.found.now in
    let s = shape c.args.element.now in
    let p = c.args.piece.now in
    let bytes = c.in-Some.elements.now in
    let x = plain_read known s p c.in-Some.count c.in-Some.null bytes (λ i. omega (arith, c.type_inv.piece i)) c.in-Some.ensures in
    let field = frame (Some (array_head (flags_of c.in-Some.null) c.oid_of.result c.in-Some.count 1 ++ bytes)) in
    let wrote = c.push_plain_array.ensures.bytes ∙ ap (λ l. l ++ field) c.in_ok-make_room-in-Some.ensures.bytes in
    plain_appended known s p c.in-Some.count c.in-Some.null bytes c.oid_of.result c.args.most c.args.out.now.bytes c.push_plain_array.new.out.bytes x c.oid_of.ensures (omega (arith, c.in_ok-make_room-in-Some.ensures.fits)) wrote
