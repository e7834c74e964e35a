use Rattle.std.proofs.Common.{◌≡◌, ◌≤◌, ◌-◌}
use Rattle.pgw_wire.specs.Outside.{Took, Wrote}
use Rattle.pgw_copy.specs.State.{ready}
use Rattle.pgw_meta.specs.Types.{column_shapes}
use Rattle.pgw_tree.specs.Copying.{IsCopying}
use Rattle.pgw_meta.specs.NamedOids.{known_of}
use Rattle.pgw_tree.proofs.stream.copy_stream.Given as goal

abbrev pub invariant-loop-writer : goal.invariant-loop-writer
invariant-loop-writer g l = record {
  ready : l.reader ≡ ready;
  few : l.rows ≤ l.limits.rows_max;
  took : Took (g.S.Source.state l.fn.source) (g.S.Source.state l.source)
      (IsCopying (known_of l.columns.found.now) l.limits (column_shapes l.columns.types.now) l.rows (Wrote (g.K.Sink.state l.fn.sink) (g.K.Sink.state l.sink)));
}

abbrev pub decreases-loop-writer : goal.decreases-loop-writer
decreases-loop-writer g l = l.limits.rows_max - l.rows
