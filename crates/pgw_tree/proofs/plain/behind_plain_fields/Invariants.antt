use Rattle.std.proofs.Common.{◌≡◌, ◌++◌, List, ℕ, take}
use Rattle.pgw_meta.specs.Types.{column_shapes}
use Rattle.pgw_cell.specs.Value.{Value}
use Rattle.pgw_tree.specs.Plain.{IsPlainFields}
use Rattle.pgw_meta.specs.NamedOids.{known_of}
use Rattle.pgw_tree.proofs.plain.behind_plain_fields.Given as goal

-- The fields so far are the canonical ones of these values.
abbrev pub invariant-loop-cell : goal.invariant-loop-cell
invariant-loop-cell l = record {
  values : List Value;
  fields : List ℕ;
  plain : IsPlainFields (known_of l.columns.found.now) l.field_max (take l.cell-index (column_shapes l.columns.types.now)) values fields;
  is : l.fn.bytes ≡ fields ++ l.rest;
}
