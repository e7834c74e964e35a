use Rattle.std.proofs.Common.{◌∙◌, ◌++◌, Err, refl, sym, ap, arith}
use Rattle.pgw_meta.specs.NamedOids.{known_of}
use Rattle.pgw_meta.specs.Shape.{array}
use Rattle.pgw_meta.specs.Types.{shape}
use Rattle.pgw_wire.proofs.Taking.{exit}
use Rattle.pgw_cell.specs.Pieces.{piece_size, read_piece}
use Rattle.pgw_cell.specs.Appending.{has_field, has_break}
use Rattle.pgw_cell.proofs.Appending.{no_room, is_counted, counted_room}
use Rattle.pgw_cell.proofs.Counted.{size_err}
use Rattle.pgw_cell.proofs.Rewriting.{piece_bytes}
use Rattle.pgw_cell.proofs.append.append_other_array.Goals as goal

pub returns-in_err-make_room-in-Ok : goal.returns-in_err-make_room-in-Ok
returns-in_err-make_room-in-Ok c =
    let known = known_of c.args.found.now in
    let s = array (shape c.args.element.now) in
    let p = c.args.piece.now in
    let x = is_counted known s p c.in-Ok.size (λ i. omega (arith, c.type_inv.piece i)) (sym c.in-Ok.is ∙ c.sized_other_array.ensures) in
    rw (exit c.from_residual.result _ c.from_residual.ensures.1)
    (no_room (read_piece s p) (piece_size s) (piece_bytes known s) c.args.most c.args.out.now.bytes c.make_room.new.out.bytes (Err c.in_err-make_room-in-Ok.field-0.0) x.value c.in-Ok.size x.reads
    (λ h. omega (arith, h, x.many)) (λ h. omega (arith, h, x.many, c.requires)) c.in_err-make_room-in-Ok.ensures.bytes c.in_err-make_room-in-Ok.ensures.err)

pub push_other_array-requires : goal.push_other_array-requires
push_other_array-requires c =
    let known = known_of c.args.found.now in
    let s = array (shape c.args.element.now) in
    let p = c.args.piece.now in
    let x = is_counted known s p c.in-Ok.size (λ i. omega (arith, c.type_inv.piece i)) (sym c.in-Ok.is ∙ c.sized_other_array.ensures) in
    counted_room known s p c.in-Ok.size c.args.most c.make_room.new.out.spare x c.in_ok-make_room-in-Ok.ensures.fits c.requires c.in_ok-make_room-in-Ok.ensures.room

pub returns-in_ok-make_room-in-Ok : goal.returns-in_ok-make_room-in-Ok
returns-in_ok-make_room-in-Ok c =
    let known = known_of c.args.found.now in
    let s = array (shape c.args.element.now) in
    let p = c.args.piece.now in
    let x = is_counted known s p c.in-Ok.size (λ i. omega (arith, c.type_inv.piece i)) (sym c.in-Ok.is ∙ c.sized_other_array.ensures) in
    let wrote = (c.push_other_array.ensures x.value x.reads).0 ∙ ap (λ l. l ++ piece_bytes known s x.value) c.in_ok-make_room-in-Ok.ensures.bytes in
    has_field x.value x.reads (omega (arith, x.many, c.in_ok-make_room-in-Ok.ensures.fits, c.requires)) wrote refl

pub returns-in-Err : goal.returns-in-Err
returns-in-Err c =
    let s = array (shape c.args.element.now) in
    has_break c.in-Err.kind (size_err (piece_size s) (read_piece s c.args.piece.now) c.in-Err.kind (sym c.sized_other_array.ensures ∙ c.in-Err.is)) refl refl
