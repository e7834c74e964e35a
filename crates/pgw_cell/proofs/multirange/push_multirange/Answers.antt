use Rattle.std.proofs.Common.{◌∙◌, ◌++◌, length, sym, ap, arith}
use Rattle.pgw_meta.specs.Shape.{range, multirange}
use Rattle.pgw_meta.specs.Types.{shape}
use Rattle.pgw_scalar.proofs.Readers.{never_both}
use Rattle.pgw_nested.proofs.Exact.{ok_is}
use Rattle.pgw_wire.specs.declared.kind.Break.{Break}
use Rattle.pgw_wire.specs.Cell.{frame}
use Rattle.std.proofs.Common.{Some, ◌+◌, ◌≡◌}
use Rattle.pgw_nested.specs.Multirange.{multirange_bytes}
use Rattle.pgw_nested.specs.RangePieces.{ranges_of}
use Rattle.pgw_cell.specs.Ranges.{multirange_spelling}
use Rattle.pgw_cell.specs.Pieces.{read_piece}
use Rattle.pgw_cell.specs.Written.{cells_written}
use Rattle.pgw_cell.proofs.ArrayPieces.{frame_length}
use Rattle.pgw_cell.proofs.Rewriting.{placed_length, length_closed}
use Rattle.pgw_cell.proofs.Multiranges.{no_oids, multirange_broken, multirange_reads, multirange_piece_is, multirange_length, multirange_room, multirange_placed}
use Rattle.pgw_cell.proofs.multirange.push_multirange.Goals as goal

pub unreachable-requires : goal.unreachable-requires
unreachable-requires c =
    let t = shape c.args.part.now in
    never_both (read_piece (multirange t) c.args.piece.now) c.requires.value _ c.requires.reads (multirange_broken t c.args.piece.now c.in-Err.field-0 c.in-Err.ensures)

pub push_ranges-requires : goal.push_ranges-requires
push_ranges-requires c =
    let t = shape c.args.part.now in
    let room = multirange_room t c.args.piece.now (ranges_of c.in-Ok.pieces) c.args.out.now.spare c.in-Ok.ensures c.requires in
    record { value = room.ranges.value; reads = room.ranges.reads; room = omega (arith, room.ranges.room, room.many, c.place_length-place.ensures.spare, c.push_reserved.ensures.spare); small = room.ranges.small }

pub close_length-requires-clause-there : goal.close_length-requires-clause-there
close_length-requires-clause-there c =
    let t = shape c.args.part.now in
    let room = multirange_room t c.args.piece.now (ranges_of c.in-Ok.pieces) c.args.out.now.spare c.in-Ok.ensures c.requires in
    let cells = cells_written no_oids (range t) room.ranges.value in
    let wrote = c.push_ranges.ensures room.ranges.value room.ranges.reads in
    let head = c.push_reserved.ensures.bytes ∙ ap (λ l. c.place_length-place.new.out.bytes ++ l) c.to_be_bytes.ensures in
    let placed = multirange_placed c.args.out.now.bytes c.place_length-place.new.out.bytes c.push_reserved.new.self.bytes c.push_ranges.new.out.bytes c.left.result cells c.place_length-place.ensures.bytes head (c.left.ensures ∙ room.count) wrote.0 in
    omega (arith, placed_length c.args.out.now.bytes (multirange_bytes cells) c.push_ranges.new.out.bytes placed, c.place_length-place.ensures.place)

pub close_length-requires-clause-fits : goal.close_length-requires-clause-fits
close_length-requires-clause-fits c =
    let t = shape c.args.part.now in
    let room = multirange_room t c.args.piece.now (ranges_of c.in-Ok.pieces) c.args.out.now.spare c.in-Ok.ensures c.requires in
    let cells = cells_written no_oids (range t) room.ranges.value in
    let wrote = c.push_ranges.ensures room.ranges.value room.ranges.reads in
    let head = c.push_reserved.ensures.bytes ∙ ap (λ l. c.place_length-place.new.out.bytes ++ l) c.to_be_bytes.ensures in
    let placed = multirange_placed c.args.out.now.bytes c.place_length-place.new.out.bytes c.push_reserved.new.self.bytes c.push_ranges.new.out.bytes c.left.result cells c.place_length-place.ensures.bytes head (c.left.ensures ∙ room.count) wrote.0 in
    omega (arith, placed_length c.args.out.now.bytes (multirange_bytes cells) c.push_ranges.new.out.bytes placed, room.small, c.place_length-place.ensures.place)

pub returns : goal.returns
returns c = λ v read.
    let t = shape c.args.part.now in
    let e = ranges_of c.in-Ok.pieces in
    let room = multirange_room t c.args.piece.now e c.args.out.now.spare c.in-Ok.ensures c.requires in
    let cells = cells_written no_oids (range t) room.ranges.value in
    let wrote = c.push_ranges.ensures room.ranges.value room.ranges.reads in
    let head = c.push_reserved.ensures.bytes ∙ ap (λ l. c.place_length-place.new.out.bytes ++ l) c.to_be_bytes.ensures in
    let placed = multirange_placed c.args.out.now.bytes c.place_length-place.new.out.bytes c.push_reserved.new.self.bytes c.push_ranges.new.out.bytes c.left.result cells c.place_length-place.ensures.bytes head (c.left.ensures ∙ room.count) wrote.0 in
    let closed = length_closed c.args.out.now.bytes (multirange_bytes cells) c.push_ranges.new.out.bytes c.close_length.new.out.bytes c.place_length-place.result c.place_length-place.ensures.place placed c.close_length.ensures.bytes in
    let r = multirange_reads t c.args.piece.now e v c.in-Ok.ensures read in
    let same = ok_is {E = Break} r.read room.ranges.value (sym r.reads ∙ room.ranges.reads) in
    let is : (multirange_spelling t).canonical v ≡ multirange_bytes cells = multirange_piece_is t c.args.piece.now e v r ∙ ap (λ x. multirange_bytes (cells_written no_oids (range t) x)) same in
    let long = frame_length (Some ((multirange_spelling t).canonical v)) ∙ ap (λ l. 4 + length l) is in
    let many = multirange_length cells in (
      closed ∙ ap (λ p. c.args.out.now.bytes ++ frame (Some p)) (sym is),
      omega (arith, long, many, wrote.1, c.place_length-place.ensures.spare, c.push_reserved.ensures.spare, c.close_length.ensures.spare),
    )
