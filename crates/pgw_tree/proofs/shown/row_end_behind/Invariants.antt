use Rattle.std.proofs.Common.{◌≡◌, ◌≤◌, ◌++◌, List, ℕ, length}
use Rattle.pgw_meta.specs.Known.{Known}
use Rattle.pgw_meta.specs.Shape.{Shape}
use Rattle.pgw_tree.specs.Runs.{AreRespelled}
use Rattle.pgw_tree.proofs.Runs.{AreSplit}
use Rattle.pgw_tree.proofs.shown.row_end_behind.Given as goal

-- The rows whose canonical form ends within the bytes that were sent stand in front of the rest, and so does their form.
abbrev pub invariant-loop-behind : goal.invariant-loop-behind
invariant-loop-behind l = record {
  sent_rows : List ℕ;
  front : List ℕ;
  is : l.fn.canonical ≡ sent_rows ++ l.rest;
  run_is : l.fn.run ≡ front ++ l.run_rest;
  begun : length sent_rows ≤ l.sent;
  split : (known : Known) (most : ℕ) (columns : List Shape) (many : ℕ) (all : AreRespelled known most columns many l.fn.canonical l.fn.run) → AreSplit known most columns all.rows sent_rows l.rest front l.run_rest;
}

abbrev pub decreases-loop-behind : goal.decreases-loop-behind
decreases-loop-behind l = length l.rest
