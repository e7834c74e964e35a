use Rattle.std.proofs.Common.{drop, map, false}
use Rattle.pgw_meta.specs.NamedOids.{known_of}
use Rattle.pgw_meta.specs.Shape.{range}
use Rattle.pgw_meta.specs.Types.{shape}
use Rattle.pgw_cell.specs.Data.{values_of, value_of_range}
use Rattle.pgw_cell.proofs.Writing.{LeftItems}
use Rattle.pgw_cell.proofs.write.+writing.Given as goal

abbrev pub invariant-write_items-loop-item : goal.invariant-write_items-loop-item
invariant-write_items-loop-item l = LeftItems (known_of l.found) (shape l.element) (values_of l.items) (values_of (drop l.item-index l.items)) l.fn.out l.out l.null

abbrev pub invariant-write_each_range-loop-bounds : goal.invariant-write_each_range-loop-bounds
invariant-write_each_range-loop-bounds l = LeftItems (known_of l.found) (range (shape l.part)) (map value_of_range l.ranges) (map value_of_range (drop l.bounds-index l.ranges)) l.fn.out l.out false
