use Rattle.std.proofs.Common.{◌≡◌, ◌++◌, length}
use Rattle.std.specs.Int.{to_be_bytes, w16}
use Rattle.pgw_wire.specs.Outside.{Took}
use Rattle.pgw_copy.specs.Format.{AreFields}
use Rattle.pgw_copy.proofs.row.RowBuffer.take_fields.Given as goal

abbrev pub invariant-loop-field : goal.invariant-loop-field
invariant-loop-field g l = record {
  took : Took (g.S.Source.state l.fn.source) (g.S.Source.state l.source) (λ taken. AreFields l.self.cells taken × (l.self.bytes ≡ to_be_bytes w16 l.count ++ taken));
  many : length l.self.cells ≡ l._field;
}
