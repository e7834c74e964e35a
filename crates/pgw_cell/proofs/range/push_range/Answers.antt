use Rattle.std.proofs.Common.{◌∙◌, ◌++◌, Some, sym, ap, arith}
use Rattle.pgw_wire.specs.Cell.{frame}
use Rattle.pgw_meta.specs.Shape.{range}
use Rattle.pgw_meta.specs.Types.{shape}
use Rattle.pgw_scalar.proofs.Readers.{never_both}
use Rattle.pgw_cell.specs.Pieces.{read_piece}
use Rattle.pgw_cell.specs.Ranges.{range_spelling}
use Rattle.pgw_cell.specs.Written.{cells_of_range, bytes_of_range, range_answer}
use Rattle.pgw_cell.proofs.Rewriting.{field_length}
use Rattle.pgw_cell.proofs.RangeAnswers.{range_was_broken, range_bytes_are}
use Rattle.pgw_cell.proofs.range.push_range.Goals as goal

pub push_field-requires-clause-room : goal.push_field-requires-clause-room
push_field-requires-clause-room c =
    let t = shape c.args.part.now in
    let b = bytes_of_range c.in-Ok.range in
    let is = range_bytes_are t c.args.piece.now (cells_of_range c.in-Ok.range) c.requires.value (sym (ap range_answer c.in-Ok.is) ∙ c.written_range.ensures) c.requires.reads in
    omega (arith, field_length b ((range_spelling t).canonical c.requires.value) is, c.requires.room)

pub push_field-requires-clause-small : goal.push_field-requires-clause-small
push_field-requires-clause-small c =
    let t = shape c.args.part.now in
    let b = bytes_of_range c.in-Ok.range in
    let is = range_bytes_are t c.args.piece.now (cells_of_range c.in-Ok.range) c.requires.value (sym (ap range_answer c.in-Ok.is) ∙ c.written_range.ensures) c.requires.reads in
    omega (arith, field_length b ((range_spelling t).canonical c.requires.value) is, c.requires.small)

pub unreachable-requires : goal.unreachable-requires
unreachable-requires c =
    let t = shape c.args.part.now in
    never_both (read_piece (range t) c.args.piece.now) c.requires.value c.in-Err.field-0 c.requires.reads (range_was_broken t c.args.piece.now c.in-Err.field-0 (sym (ap range_answer c.in-Err.is) ∙ c.written_range.ensures))

pub returns : goal.returns
returns c = λ v read.
    let t = shape c.args.part.now in
    let b = bytes_of_range c.in-Ok.range in
    let is = range_bytes_are t c.args.piece.now (cells_of_range c.in-Ok.range) v (sym (ap range_answer c.in-Ok.is) ∙ c.written_range.ensures) read in (
      c.push_field.ensures.bytes ∙ ap (λ x. c.args.out.now.bytes ++ frame (Some x)) (sym is),
      omega (arith, field_length b ((range_spelling t).canonical v) is, c.push_field.ensures.spare),
    )
