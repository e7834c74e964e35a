use Rattle.std.proofs.Common.{◌≤◌, ◌-◌, length, take}
use Rattle.pgw_wire.specs.Outside.{Wrote}
use Rattle.pgw_meta.specs.Types.{column_shapes}
use Rattle.pgw_tree.specs.Runs.{IsRun}
use Rattle.pgw_meta.specs.NamedOids.{known_of}
use Rattle.pgw_tree.proofs.shown.copy_rows.Given as goal

abbrev pub invariant-loop-rows : goal.invariant-loop-rows
invariant-loop-rows g l = record {
  within : l.len ≤ length l.bytes;
  few : l.rows ≤ l.limits.rows_max;
  run : IsRun (known_of l.columns.found.now) l.limits (column_shapes l.columns.types.now) l.before l.rows (Wrote (g.K.Sink.state l.fn.sink) (g.K.Sink.state l.sink)) (take l.len l.bytes);
}

abbrev pub decreases-loop-rows : goal.decreases-loop-rows
decreases-loop-rows g l = l.limits.rows_max - l.rows
