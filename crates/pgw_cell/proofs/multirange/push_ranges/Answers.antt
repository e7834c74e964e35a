use Rattle.std.proofs.Common.{false, Some, refl, arith}
use Rattle.pgw_wire.specs.Cell.{Cell}
use Rattle.pgw_meta.specs.Shape.{range}
use Rattle.pgw_meta.specs.Types.{shape}
use Rattle.pgw_scalar.proofs.Readers.{never_both}
use Rattle.pgw_nested.specs.RangePieces.{ranges_of}
use Rattle.pgw_cell.specs.Cells.{read_value}
use Rattle.pgw_cell.specs.Written.{cells_read}
use Rattle.pgw_cell.proofs.Elements.{frame_broken}
use Rattle.pgw_cell.proofs.Rewriting.{room_of_piece, piece_appends, elements_first, element_room, one_element, all_appended}
use Rattle.pgw_cell.proofs.Multiranges.{no_oids, given_none, given_range}
use Rattle.pgw_cell.proofs.multirange.push_ranges.Goals as goal

pub loop-piece-init : goal.loop-piece-init
loop-piece-init c = elements_first no_oids (range (shape c.args.part.now)) (ranges_of c.args.pieces) c.args.out.now c.requires

pub push_range-requires : goal.push_range-requires
push_range-requires c =
    let s = range (shape c.args.part.now) in
    let p = c.in-Ok-Some.piece.now in
    let before = ranges_of c.loop-piece.pieces in
    let now = ranges_of c.next_piece.new.self in
    let next = given_range before c.in-Ok-Some.field-0 c.in-Ok-Some.piece now c.in-Ok-Some.field-0-is c.in-Ok-Some.ensures in
    room_of_piece no_oids s p c.loop-piece.out.spare c.are_bytes.ensures (element_room no_oids s (Some p) (ranges_of c.args.pieces) before now c.args.out.now c.loop-piece.out false next c.loop-piece.invariant)

pub loop-piece-smaller : goal.loop-piece-smaller
loop-piece-smaller c =
    let before = ranges_of c.loop-piece.pieces in
    let now = ranges_of c.next_piece.new.self in
    let next = given_range before c.in-Ok-Some.field-0 c.in-Ok-Some.piece now c.in-Ok-Some.field-0-is c.in-Ok-Some.ensures in
    omega (arith, next.left)

pub loop-piece-preserved : goal.loop-piece-preserved
loop-piece-preserved c =
    let s = range (shape c.args.part.now) in
    let p = c.in-Ok-Some.piece.now in
    let before = ranges_of c.loop-piece.pieces in
    let now = ranges_of c.next_piece.new.self in
    let next = given_range before c.in-Ok-Some.field-0 c.in-Ok-Some.piece now c.in-Ok-Some.field-0-is c.in-Ok-Some.ensures in
    one_element no_oids s (Some p) (ranges_of c.args.pieces) before now c.args.out.now c.loop-piece.out c.push_range.new.out false false c.are_bytes.ensures next c.loop-piece.invariant
    (piece_appends no_oids s p c.loop-piece.out c.push_range.new.out c.are_bytes.ensures c.push_range.ensures) refl

pub returns-in-Ok-None : goal.returns-in-Ok-None
returns-in-Ok-None c =
    let before = ranges_of c.loop-piece.pieces in
    let none = given_none before c.in-Ok-None.field-0 (ranges_of c.next_piece.new.self) c.in-Ok-None.field-0-is c.in-Ok-None.ensures in
    all_appended no_oids (range (shape c.args.part.now)) (ranges_of c.args.pieces) before c.args.out.now c.loop-piece.out false c.loop-piece.invariant none

pub unreachable-requires : goal.unreachable-requires
unreachable-requires c =
    let s = range (shape c.args.part.now) in
    let before = ranges_of c.loop-piece.pieces in
    let f = c.in-Err.ensures in
    never_both (cells_read s before) c.loop-piece.invariant.left _ c.loop-piece.invariant.reads (frame_broken (λ (x : Cell). read_value s x) before c.in-Err.field-0 f.0 f.1)
