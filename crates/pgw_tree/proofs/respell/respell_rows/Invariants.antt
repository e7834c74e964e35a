use Rattle.std.proofs.Common.{◌-◌, ◌≡◌, ◌++◌, ◌≤◌, List, ℕ}
use Rattle.pgw_meta.specs.Types.{column_shapes}
use Rattle.pgw_tree.specs.Runs.{AreRespelled}
use Rattle.pgw_meta.specs.NamedOids.{known_of}
use Rattle.pgw_tree.proofs.respell.respell_rows.Given as goal

-- The rows so far stand in front of the rest, and the buffer has their canonical form.
abbrev pub invariant-loop-rows : goal.invariant-loop-rows
invariant-loop-rows l = record {
  limit : l.rows ≤ l.most;
  front : List ℕ;
  is : l.fn.bytes ≡ front ++ l.rest;
  respelled : AreRespelled (known_of l.columns.found.now) l.field_max (column_shapes l.columns.types.now) l.rows l.out.bytes front;
}

abbrev pub decreases-loop-rows : goal.decreases-loop-rows
decreases-loop-rows l = l.most - l.rows
