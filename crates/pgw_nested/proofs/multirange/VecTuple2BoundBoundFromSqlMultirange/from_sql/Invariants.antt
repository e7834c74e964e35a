use Rattle.pgw_meta.specs.Reading.{ReadsPiece}
use Rattle.pgw_nested.specs.Range.{IsRange}
use Rattle.pgw_nested.specs.RangePieces.{ranges_of}
use Rattle.pgw_nested.proofs.RangesRead.{RangesSoFar}
use Rattle.pgw_nested.proofs.multirange.VecTuple2BoundBoundFromSqlMultirange.from_sql.Given as goal

abbrev pub invariant-bounds : goal.invariant-bounds
invariant-bounds g l = RangesSoFar (ReadsPiece (IsRange g.T.FromSql.reads g.T.Defaultable.DEFAULT)) l.fn.value.raw_value.now l.items.items (ranges_of l.pieces)

abbrev pub decreases-bounds : goal.decreases-bounds
decreases-bounds g l = l.pieces.left
