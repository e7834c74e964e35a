use Rattle.std.proofs.Common.{◌≡◌, ◌≤◌, ◌+◌, drop, map}
use Rattle.std.specs.List.{AllByRecursion}
use Rattle.pgw_meta.specs.Shape.{range}
use Rattle.pgw_meta.specs.Types.{shape}
use Rattle.pgw_cell.specs.Arrays.{frames_size}
use Rattle.pgw_cell.specs.Cells.{HasType, canonical_size}
use Rattle.pgw_cell.specs.Data.{values_of, value_of_range}
use Rattle.pgw_cell.specs.Written.{counted}
use Rattle.pgw_cell.proofs.value_sizes.+value_sizes.Given as goal

-- What was counted so far, with the elements that are left, is the size of all.
abbrev pub invariant-items_size-loop-item : goal.invariant-items_size-loop-item
invariant-items_size-loop-item l = record {
  small : l.total ≤ 4294967296;
  have : AllByRecursion (HasType (shape l.element)) (values_of (drop l.item-index l.items));
  so_far : counted (l.total + frames_size (canonical_size (shape l.element)) (values_of (drop l.item-index l.items)))
      ≡ counted (20 + frames_size (canonical_size (shape l.element)) (values_of l.items));
}

abbrev pub invariant-ranges_size-loop-bounds : goal.invariant-ranges_size-loop-bounds
invariant-ranges_size-loop-bounds l = record {
  small : l.total ≤ 4294967296;
  have : AllByRecursion (HasType (range (shape l.part))) (map value_of_range (drop l.bounds-index l.ranges));
  so_far : counted (l.total + frames_size (canonical_size (range (shape l.part))) (map value_of_range (drop l.bounds-index l.ranges)))
      ≡ counted (4 + frames_size (canonical_size (range (shape l.part))) (map value_of_range l.ranges));
}
