use Rattle.std.proofs.Common.{◌≡◌, ◌++◌, List, ℕ, length}
use Rattle.pgw_wire.specs.Cell.{Cell}
use Rattle.pgw_copy.specs.Format.{AreFields}
use Rattle.pgw_tree.proofs.fields.behind_fields.Given as goal

-- As many fields as were walked over stand in front of the rest.
abbrev pub invariant-loop-field : goal.invariant-loop-field
invariant-loop-field l = record {
  cells : List Cell;
  fields : List ℕ;
  many : length cells ≡ l._field;
  each : AreFields cells fields;
  is : l.fn.bytes ≡ fields ++ l.rest;
}
