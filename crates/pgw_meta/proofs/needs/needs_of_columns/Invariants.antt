use Rattle.std.proofs.Common.{◌≡◌, drop, flat_map}
use Rattle.pgw_meta.specs.Types.{column_shapes}
use Rattle.pgw_meta.specs.Needs.{needed_keys, with_needs, needs_of, field_needs}
use Rattle.pgw_meta.proofs.needs.needs_of_columns.Given as goal

-- The needs so far with those of the columns that are left are those of all.
abbrev pub invariant-loop-t : goal.invariant-loop-t
invariant-loop-t l =
    with_needs (needed_keys l.needs) (flat_map field_needs (column_shapes (drop l.t-index l.columns)))
    ≡ needs_of (column_shapes l.columns)
