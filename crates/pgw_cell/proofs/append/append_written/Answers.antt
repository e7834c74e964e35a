use Rattle.std.proofs.Common.{◌∙◌, ◌++◌, length, Some, Ok, Err, refl, ap, arith}
use Rattle.std.specs.Int.{to_be_bytes, w32}
use Rattle.pgw_wire.specs.Cell.{frame}
use Rattle.pgw_wire.proofs.Taking.{exit}
use Rattle.pgw_cell.specs.Written.{bytes_of}
use Rattle.pgw_cell.specs.Appending.{has_field}
use Rattle.pgw_cell.proofs.Appending.{no_room}
use Rattle.pgw_cell.proofs.Rewriting.{field_written}
use Rattle.pgw_cell.proofs.append.append_written.Goals as goal

pub returns-in_err-make_room : goal.returns-in_err-make_room
returns-in_err-make_room c =
    let b = bytes_of c.args.written in
    rw (exit c.from_residual.result _ c.from_residual.ensures.1)
    (no_room (Ok b) (λ x. length x) (λ x. frame (Some x)) c.args.most c.args.out.now.bytes c.make_room.new.out.bytes (Err c.in_err-make_room.field-0.0) b c.len-size.result refl
    (λ h. omega (arith, h, c.len-size.ensures)) (λ h. omega (arith, h, c.len-size.ensures)) c.in_err-make_room.ensures.bytes c.in_err-make_room.ensures.err)

pub returns : goal.returns
returns c =
    let b = bytes_of c.args.written in
    let old = c.args.out.now.bytes in
    let front = c.push_reserved.ensures.bytes ∙ ap (λ l. l ++ c.to_be_bytes.result) c.in_ok-make_room.ensures.bytes ∙ ap (λ l. old ++ l) (c.to_be_bytes.ensures ∙ ap (to_be_bytes w32) c.len-size.ensures) in
    has_field b refl (omega (arith, c.len-size.ensures, c.in_ok-make_room.ensures.fits)) (field_written old c.push_reserved.new.self.bytes c.push_reserved-2.new.out.bytes b b front c.push_reserved-2.ensures.bytes refl) refl
