use Rattle.std.proofs.Common.{◌∙◌, false, Ok, Err, sym, ap}
use Rattle.pgw_wire.proofs.Taking.{exit}
use Rattle.pgw_meta.specs.Types.{shape}
use Rattle.pgw_nested.specs.RangePieces.{bound_of, coming_of}
use Rattle.pgw_nested.specs.RangeReading.{read_bound}
use Rattle.pgw_nested.proofs.Bounds.{lower_given}
use Rattle.pgw_cell.specs.Nulls.{read_by}
use Rattle.pgw_cell.specs.Ranges.{bound_cell, part_spelling}
use Rattle.pgw_cell.specs.Written.{cell_of_bound, bound_answer, range_answer}
use Rattle.pgw_cell.proofs.RangeBounds.{answer_ok, answer_err, default_is, upper_comes, upper_given, no_flags_answered, none_answered, lower_not_answered, lower_broken, upper_not_answered, upper_broken, both_read}
use Rattle.pgw_cell.proofs.range.written_range.Goals as goal

pub returns-in-Err : goal.returns-in-Err
returns-in-Err c =
    let t = shape c.args.part.now in
    let h = default_is t c.in-Some.default c.in-Some.ensures in
    ap Err c.break_of.ensures ∙ no_flags_answered t c.args.piece.now c.in-Some.default h c.in-Err.error c.in-Err.ensures

pub returns-in-Ok-None : goal.returns-in-Ok-None
returns-in-Ok-None c =
    let t = shape c.args.part.now in
    let h = default_is t c.in-Some.default c.in-Some.ensures in
    rw h.bytes (none_answered t c.args.piece.now c.in-Some.default h (coming_of c.in-Ok.pieces) (coming_of c.next_piece.new.self) c.in-Ok-None.field-0 c.in-Ok-None.field-0-is c.in-Ok.ensures c.in-Ok-None.ensures)

pub returns-in-Err-next_piece : goal.returns-in-Err-next_piece
returns-in-Err-next_piece c =
    let t = shape c.args.part.now in
    let h = default_is t c.in-Some.default c.in-Some.ensures in
    ap Err c.break_of-in-Err-next_piece.ensures
    ∙ lower_not_answered t c.args.piece.now c.in-Some.default h (coming_of c.in-Ok.pieces) (coming_of c.next_piece.new.self) c.in-Err-next_piece.error c.in-Ok.ensures c.in-Err-next_piece.ensures

pub returns-in_err-lower-in-Ok-Some : goal.returns-in_err-lower-in-Ok-Some
returns-in_err-lower-in-Ok-Some c =
    let t = shape c.args.part.now in
    let h = default_is t c.in-Some.default c.in-Some.ensures in
    let now = coming_of c.next_piece.new.self in
    let lower = bound_of c.in-Ok-Some.piece in
    let l = lower_given c.args.piece.now (coming_of c.in-Ok.pieces) now c.in-Ok-Some.field-0 c.in-Ok-Some.piece c.in-Ok-Some.field-0-is c.in-Ok.ensures c.in-Ok-Some.ensures in
    let kind = c.in_err-lower-in-Ok-Some.field-0.0 in
    let broken = answer_err (bound_cell (part_spelling t).canonical) (read_bound (read_by false (part_spelling t).read) lower) kind (sym c.written_bound.ensures ∙ ap bound_answer c.in_err-lower-in-Ok-Some.was) in
    ap range_answer (exit c.from_residual.result kind c.from_residual.ensures.1) ∙ lower_broken t c.args.piece.now c.in-Some.default h lower now.flags now.rest kind l broken

pub returns-in_err-upper-in-Ok-Some-next_piece : goal.returns-in_err-upper-in-Ok-Some-next_piece
returns-in_err-upper-in-Ok-Some-next_piece c =
    let t = shape c.args.part.now in
    let h = default_is t c.in-Some.default c.in-Some.ensures in
    let first = coming_of c.in-Ok.pieces in
    let now = coming_of c.next_piece.new.self in
    let lower = bound_of c.in-Ok-Some.piece in
    let upper = bound_of c.in-Ok-Some-next_piece.piece in
    let l = lower_given c.args.piece.now first now c.in-Ok-Some.field-0 c.in-Ok-Some.piece c.in-Ok-Some.field-0-is c.in-Ok.ensures c.in-Ok-Some.ensures in
    let v = answer_ok (bound_cell (part_spelling t).canonical) (read_bound (read_by false (part_spelling t).read) lower) _ (sym c.written_bound.ensures ∙ ap bound_answer c.in_ok-lower-in-Ok-Some.was) in
    let next = upper_comes c.args.piece.now first now c.in-Ok-Some.field-0 c.in-Ok-Some.piece c.in-Ok-Some.field-0-is c.in-Ok.ensures c.in-Ok-Some.ensures in
    let u = upper_given now (coming_of c.next_piece-2.new.self) c.in-Ok-Some-next_piece.field-0 c.in-Ok-Some-next_piece.piece c.in-Ok-Some-next_piece.field-0-is next c.in-Ok-Some-next_piece.ensures in
    let kind = c.in_err-upper-in-Ok-Some-next_piece.field-0.0 in
    let broken = answer_err (bound_cell (part_spelling t).canonical) (read_bound (read_by false (part_spelling t).read) upper) kind (sym c.written_bound-in-Ok-Some-next_piece.ensures ∙ ap bound_answer c.in_err-upper-in-Ok-Some-next_piece.was) in
    ap range_answer (exit c.from_residual-in_err-upper-in-Ok-Some-next_piece.result kind c.from_residual-in_err-upper-in-Ok-Some-next_piece.ensures.1)
    ∙ upper_broken t c.args.piece.now c.in-Some.default h lower upper v.0 now.flags now.rest kind l v.1 u broken

pub returns-in-Err-next_piece-2 : goal.returns-in-Err-next_piece-2
returns-in-Err-next_piece-2 c =
    let t = shape c.args.part.now in
    let h = default_is t c.in-Some.default c.in-Some.ensures in
    let first = coming_of c.in-Ok.pieces in
    let now = coming_of c.next_piece.new.self in
    let lower = bound_of c.in-Ok-Some.piece in
    let l = lower_given c.args.piece.now first now c.in-Ok-Some.field-0 c.in-Ok-Some.piece c.in-Ok-Some.field-0-is c.in-Ok.ensures c.in-Ok-Some.ensures in
    let v = answer_ok (bound_cell (part_spelling t).canonical) (read_bound (read_by false (part_spelling t).read) lower) _ (sym c.written_bound.ensures ∙ ap bound_answer c.in_ok-lower-in-Ok-Some.was) in
    let next = upper_comes c.args.piece.now first now c.in-Ok-Some.field-0 c.in-Ok-Some.piece c.in-Ok-Some.field-0-is c.in-Ok.ensures c.in-Ok-Some.ensures in
    ap Err c.break_of-in-Err-next_piece-2.ensures
    ∙ upper_not_answered t c.args.piece.now c.in-Some.default h lower v.0 now (coming_of c.next_piece-2.new.self) c.in-Err-next_piece-2.error l v.1 next c.in-Err-next_piece-2.ensures

pub returns : goal.returns
returns c =
    let t = shape c.args.part.now in
    let h = default_is t c.in-Some.default c.in-Some.ensures in
    let first = coming_of c.in-Ok.pieces in
    let now = coming_of c.next_piece.new.self in
    let lower = bound_of c.in-Ok-Some.piece in
    let upper = bound_of c.in-Ok-Some-next_piece.piece in
    let l = lower_given c.args.piece.now first now c.in-Ok-Some.field-0 c.in-Ok-Some.piece c.in-Ok-Some.field-0-is c.in-Ok.ensures c.in-Ok-Some.ensures in
    let v = answer_ok (bound_cell (part_spelling t).canonical) (read_bound (read_by false (part_spelling t).read) lower) _ (sym c.written_bound.ensures ∙ ap bound_answer c.in_ok-lower-in-Ok-Some.was) in
    let next = upper_comes c.args.piece.now first now c.in-Ok-Some.field-0 c.in-Ok-Some.piece c.in-Ok-Some.field-0-is c.in-Ok.ensures c.in-Ok-Some.ensures in
    let u = upper_given now (coming_of c.next_piece-2.new.self) c.in-Ok-Some-next_piece.field-0 c.in-Ok-Some-next_piece.piece c.in-Ok-Some-next_piece.field-0-is next c.in-Ok-Some-next_piece.ensures in
    let w = answer_ok (bound_cell (part_spelling t).canonical) (read_bound (read_by false (part_spelling t).read) upper) _ (sym c.written_bound-in-Ok-Some-next_piece.ensures ∙ ap bound_answer c.in_ok-upper-in-Ok-Some-next_piece.was) in
    ap (λ x. Ok (x, cell_of_bound c.in_ok-upper-in-Ok-Some-next_piece.upper)) v.2 ∙ ap (λ x. Ok (bound_cell (part_spelling t).canonical v.0, x)) w.2
    ∙ both_read t c.args.piece.now c.in-Some.default h lower upper v.0 w.0 now.flags now.rest l v.1 u w.1
