use Rattle.std.proofs.Common.{◌∙◌, ◌+◌, Err, Some, refl, sym, ap, arith}
use Rattle.pgw_wire.specs.Cell.{Cell}
use Rattle.pgw_wire.proofs.Taking.{exit}
use Rattle.pgw_meta.specs.Shape.{range}
use Rattle.pgw_meta.specs.Types.{shape}
use Rattle.pgw_nested.specs.RangePieces.{ranges_of}
use Rattle.pgw_cell.specs.Pieces.{piece_size, read_piece}
use Rattle.pgw_cell.specs.Cells.{canonical_size, read_value}
use Rattle.pgw_cell.specs.Written.{counted, sizes_read, cells_read}
use Rattle.pgw_cell.proofs.Elements.{next_read, next_broken, frame_broken, none_left}
use Rattle.pgw_cell.proofs.Counted.{cell_sizes, sizes_more, sizes_done, size_ok, size_err}
use Rattle.pgw_cell.proofs.Multiranges.{given_none, given_range}
use Rattle.pgw_cell.proofs.multirange.sized_ranges.Goals as goal

pub loop-piece-init : goal.loop-piece-init
loop-piece-init c = record { small = omega arith; so_far = refl }

pub returns-in_err-sized_range-in-Ok-Some : goal.returns-in_err-sized_range-in-Ok-Some
returns-in_err-sized_range-in-Ok-Some c =
    let s = range (shape c.args.part.now) in
    let read = λ (x : Cell). read_value s x in
    let p = c.in-Ok-Some.piece.now in
    let before = ranges_of c.loop-piece.pieces in
    let now = ranges_of c.next_piece.new.self in
    let next = given_range before c.in-Ok-Some.field-0 c.in-Ok-Some.piece now c.in-Ok-Some.field-0-is c.in-Ok-Some.ensures in
    let kind = c.in_err-sized_range-in-Ok-Some.field-0.0 in
    let sized = sym c.sized_range.ensures ∙ c.in_err-sized_range-in-Ok-Some.was in
    let broken = size_err (canonical_size s) (read_value s (Some p)) kind (sym (cell_sizes s p c.are_bytes.ensures) ∙ sized) in
    exit c.from_residual.result kind c.from_residual.ensures.1
    ∙ sym (ap (sizes_read (canonical_size s) c.loop-piece.total) (next_broken read (Some p) kind before now next broken)) ∙ c.loop-piece.invariant.so_far

pub returns-in-Ok-None : goal.returns-in-Ok-None
returns-in-Ok-None c =
    let s = range (shape c.args.part.now) in
    let before = ranges_of c.loop-piece.pieces in
    let none = given_none before c.in-Ok-None.field-0 (ranges_of c.next_piece.new.self) c.in-Ok-None.field-0-is c.in-Ok-None.ensures in
    sizes_done (canonical_size s) c.loop-piece.total before.rest c.loop-piece.invariant.small
    ∙ ap (sizes_read (canonical_size s) c.loop-piece.total) (sym (none_left (λ (x : Cell). read_value s x) before none)) ∙ c.loop-piece.invariant.so_far

pub returns-in-Err : goal.returns-in-Err
returns-in-Err c =
    let s = range (shape c.args.part.now) in
    let before = ranges_of c.loop-piece.pieces in
    let f = c.in-Err.ensures in
    ap Err c.break_of.ensures
    ∙ sym (ap (sizes_read (canonical_size s) c.loop-piece.total) (frame_broken (λ (x : Cell). read_value s x) before c.in-Err.error f.0 f.1)) ∙ c.loop-piece.invariant.so_far

pub add-total-requires-clause-total : goal.add-total-requires-clause-total
add-total-requires-clause-total c = c.loop-piece.invariant.small

pub add-total-requires-clause-size : goal.add-total-requires-clause-size
add-total-requires-clause-size c =
    let s = range (shape c.args.part.now) in
    let ok = size_ok (piece_size s) (read_piece s c.in-Ok-Some.piece.now) _ (sym c.sized_range.ensures ∙ c.in_ok-sized_range-in-Ok-Some.was) in
    omega (arith, ok.2)

pub loop-piece-smaller : goal.loop-piece-smaller
loop-piece-smaller c =
    let before = ranges_of c.loop-piece.pieces in
    let now = ranges_of c.next_piece.new.self in
    let next = given_range before c.in-Ok-Some.field-0 c.in-Ok-Some.piece now c.in-Ok-Some.field-0-is c.in-Ok-Some.ensures in
    omega (arith, next.left)

pub loop-piece-preserved : goal.loop-piece-preserved
loop-piece-preserved c =
    let s = range (shape c.args.part.now) in
    let read = λ (x : Cell). read_value s x in
    let p = c.in-Ok-Some.piece.now in
    let before = ranges_of c.loop-piece.pieces in
    let now = ranges_of c.next_piece.new.self in
    let next = given_range before c.in-Ok-Some.field-0 c.in-Ok-Some.piece now c.in-Ok-Some.field-0-is c.in-Ok-Some.ensures in
    let sized = sym c.sized_range.ensures ∙ c.in_ok-sized_range-in-Ok-Some.was in
    let ok = size_ok (canonical_size s) (read_value s (Some p)) c.in_ok-sized_range-in-Ok-Some.field-0 (sym (cell_sizes s p c.are_bytes.ensures) ∙ sized) in
    record {
      small = omega (arith, c.add-total.ensures);
      so_far = sizes_more (canonical_size s) c.loop-piece.total c.add-total.result ok.0 (cells_read s now) (c.add-total.ensures ∙ ap (λ n. counted (c.loop-piece.total + (4 + n))) ok.2)
          ∙ ap (sizes_read (canonical_size s) c.loop-piece.total) (sym (next_read read (Some p) ok.0 before now next ok.1)) ∙ c.loop-piece.invariant.so_far;
    }
