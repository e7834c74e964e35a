use Rattle.std.proofs.Common.{◌-◌, ◌≡◌, ◌≤◌, ◌++◌, List, ℕ, length}
use Rattle.pgw_meta.specs.Types.{column_shapes}
use Rattle.pgw_cell.specs.Value.{Value}
use Rattle.pgw_tree.specs.Plain.{ArePlainRows}
use Rattle.pgw_meta.specs.NamedOids.{known_of}
use Rattle.pgw_tree.proofs.plain.walk.Given as goal

abbrev pub invariant-loop-rows : goal.invariant-loop-rows
invariant-loop-rows l = record {
  limit : l.rows ≤ l.most;
  within : length l.rest ≤ length l.bytes;
  front : List ℕ;
  values : List (List Value);
  many : length values ≡ l.rows;
  plain : ArePlainRows (known_of l.columns.found.now) l.field_max (column_shapes l.columns.types.now) front values;
  is : l.fn.bytes ≡ front ++ l.rest;
}

abbrev pub decreases-loop-rows : goal.decreases-loop-rows
decreases-loop-rows l = l.most - l.rows
