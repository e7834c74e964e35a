use Rattle.std.proofs.Common.{◌∙◌, ◌++◌, Some, Err, refl, sym, ap, arith}
use Rattle.pgw_wire.specs.Cell.{frame}
use Rattle.pgw_wire.proofs.Taking.{exit}
use Rattle.pgw_meta.specs.Shape.{range}
use Rattle.pgw_meta.specs.Types.{shape}
use Rattle.pgw_cell.specs.Pieces.{piece_size, read_piece}
use Rattle.pgw_cell.specs.Written.{cells_of_range, bytes_of_range, range_answer}
use Rattle.pgw_cell.specs.Appending.{has_field, has_break}
use Rattle.pgw_cell.proofs.Appending.{no_room, range_counted}
use Rattle.pgw_cell.proofs.Multiranges.{no_oids}
use Rattle.pgw_cell.proofs.RangeAnswers.{range_was_broken, range_bytes_are}
use Rattle.pgw_cell.proofs.Rewriting.{piece_bytes}
use Rattle.pgw_cell.proofs.append.append_range.Goals as goal

pub returns-in_err-make_room-in-Ok : goal.returns-in_err-make_room-in-Ok
returns-in_err-make_room-in-Ok c =
    let t = shape c.args.part.now in
    let s = range t in
    let p = c.args.piece.now in
    let x = range_counted no_oids t p (cells_of_range c.in-Ok.range) (λ i. omega (arith, c.type_inv.piece i)) (sym (ap range_answer c.in-Ok.is) ∙ c.written_range.ensures) in
    rw (exit c.from_residual.result _ c.from_residual.ensures.1)
    (no_room (read_piece s p) (piece_size s) (piece_bytes no_oids s) c.args.most c.args.out.now.bytes c.make_room.new.out.bytes (Err c.in_err-make_room-in-Ok.field-0.0) x.value c.len.result x.reads
    (λ h. omega (arith, h, x.many, c.len.ensures)) (λ h. omega (arith, h, x.many, c.len.ensures, c.requires)) c.in_err-make_room-in-Ok.ensures.bytes c.in_err-make_room-in-Ok.ensures.err)

pub push_field-requires-clause-room : goal.push_field-requires-clause-room
push_field-requires-clause-room c = omega (arith, c.len.ensures, c.in_ok-make_room-in-Ok.ensures.fits, c.in_ok-make_room-in-Ok.ensures.room, c.requires)

pub push_field-requires-clause-small : goal.push_field-requires-clause-small
push_field-requires-clause-small c = omega (arith, c.len.ensures, c.in_ok-make_room-in-Ok.ensures.fits, c.requires)

pub returns-in_ok-make_room-in-Ok : goal.returns-in_ok-make_room-in-Ok
returns-in_ok-make_room-in-Ok c =
    let t = shape c.args.part.now in
    let p = c.args.piece.now in
    let answers = sym (ap range_answer c.in-Ok.is) ∙ c.written_range.ensures in
    let x = range_counted no_oids t p (cells_of_range c.in-Ok.range) (λ i. omega (arith, c.type_inv.piece i)) answers in
    let is = range_bytes_are t p (cells_of_range c.in-Ok.range) x.value answers x.reads in
    let field = frame (Some (bytes_of_range c.in-Ok.range)) in
    let wrote = c.push_field.ensures.bytes ∙ ap (λ l. l ++ field) c.in_ok-make_room-in-Ok.ensures.bytes ∙ ap (λ b. c.args.out.now.bytes ++ frame (Some b)) (sym is) in
    has_field x.value x.reads (omega (arith, x.many, c.len.ensures, c.in_ok-make_room-in-Ok.ensures.fits, c.requires)) wrote refl

pub returns-in-Err : goal.returns-in-Err
returns-in-Err c =
    has_break c.in-Err.kind (range_was_broken (shape c.args.part.now) c.args.piece.now c.in-Err.kind (sym (ap range_answer c.in-Err.is) ∙ c.written_range.ensures)) refl refl
