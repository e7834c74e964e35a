use Rattle.std.proofs.Common.{◌∙◌, Err, sym, ap}
use Rattle.pgw_meta.specs.Shape.{multirange}
use Rattle.pgw_meta.specs.Types.{shape}
use Rattle.pgw_nested.specs.RangePieces.{ranges_of}
use Rattle.pgw_cell.specs.Pieces.{piece_size}
use Rattle.pgw_cell.specs.Written.{size_read}
use Rattle.pgw_cell.proofs.Multiranges.{multirange_sizes, multirange_broken}
use Rattle.pgw_cell.proofs.multirange.sized_multirange.Goals as goal

pub returns-in-Ok : goal.returns-in-Ok
returns-in-Ok c = c.sized_ranges.ensures ∙ multirange_sizes (shape c.args.part.now) c.args.piece.now (ranges_of c.in-Ok.pieces) c.in-Ok.ensures

pub returns-in-Err : goal.returns-in-Err
returns-in-Err c =
    let t = shape c.args.part.now in
    ap Err c.break_of.ensures ∙ sym (ap (size_read (piece_size (multirange t))) (multirange_broken t c.args.piece.now c.in-Err.error c.in-Err.ensures))
