use Rattle.pgw_nested.specs.Pieces.{elements_of}
use Rattle.pgw_nested.proofs.ReadingOn.{ReadSoFar}
use Rattle.pgw_nested.proofs.array.VecFromSqlArray.from_sql.Given as goal

abbrev pub invariant-elements : goal.invariant-elements
invariant-elements g l = ReadSoFar g.T.FromSql.reads l.fn.value.raw_value.now l.items.items (elements_of l.pieces)

abbrev pub decreases-elements : goal.decreases-elements
decreases-elements g l = l.pieces.left
