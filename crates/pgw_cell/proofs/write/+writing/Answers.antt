use Rattle.std.proofs.Common.{rules, ◌∙◌, ◌+◌, ◌++◌, ◌||◌, ℕ, false, refl, List, length, drop, map, Some, sym, ap, subst, arith, length-append}
use Rattle.std.proofs.lemmas.List.{length-map}
use Rattle.std.proofs.lemmas.Result.{err_from_is_err_and}
use Rattle.pgw_meta.specs.NamedOids.{known_of, oids_of}
use Rattle.pgw_meta.specs.Shape.{array, range, multirange}
use Rattle.pgw_meta.specs.Types.{shape}
use Rattle.pgw_meta.specs.declared.types.PgType.{PgType}
use Rattle.pgw_nested.specs.Array.{array_head, array_bytes}
use Rattle.pgw_nested.proofs.Beginnings.{head_length}
use Rattle.pgw_cell.specs.Pieces.{canonical_piece}
use Rattle.pgw_cell.specs.Cells.{canonical_cell, canonical_size}
use Rattle.pgw_cell.specs.Data.{value_of, values_of}
use Rattle.pgw_cell.specs.Written.{counted}
use Rattle.pgw_cell.specs.Wrote.{Wrote}
use Rattle.pgw_cell.proofs.ArrayPieces.{frames_many}
use Rattle.pgw_cell.proofs.Writing.{list_has, list_piece, items_more, item_bytes, items_first, next_item, was_written, one_item, items_done, no_items, array_sizes, array_behind, wrote_piece, wrote_no_piece}
use Rattle.pgw_nested.specs.Multirange.{multirange_bytes}
use Rattle.pgw_nested.specs.RangeWritten.{bound_of_kind}
use Rattle.pgw_cell.specs.Data.{value_of_range, bound_of}
use Rattle.pgw_cell.proofs.ArrayPieces.{frame_length}
use Rattle.pgw_cell.proofs.WriteRanges.{range_is, bounds_length, bounds_behind, list_has as ranges_has, list_piece as ranges_piece, ranges_more, no_ranges, multirange_sizes, multirange_behind}
use Rattle.pgw_cell.proofs.write.+writing.Goals as goal

pub write_array-write_list-requires : goal.write_array-write_list-requires
write_array-write_list-requires t c =
    (search rules, (list_has (shape c.args.element.now) c.args.value.now c.in-List.list c.as_slice.result.now c.in-List.is c.as_slice.ensures c.requires.has, c.requires.max))

pub write_array-returns : goal.write_array-returns
write_array-returns t c =
    subst (λ (p : List ℕ). Wrote c.args.field_max (Some p) c.write_list.result c.args.out.now c.write_list.new.out)
    (sym (list_piece (known_of c.args.found.now) (shape c.args.element.now) c.args.value.now c.in-List.list c.as_slice.result.now c.in-List.is c.as_slice.ensures)) c.write_list.ensures

pub write_list-returns-in_err-begin_field : goal.write_list-returns-in_err-begin_field
write_list-returns-in_err-begin_field t c =
    let known = known_of c.args.found.now in
    let s = shape c.args.element.now in
    let vs = values_of c.args.items.now in
    let sizes = array_sizes known s vs c.requires.has in
    let p = err_from_is_err_and c.from_residual.result c.from_residual.ensures.1 in
    rw (p.1, p.2) (wrote_no_piece c.args.field_max c.items_size.result (array_bytes (oids_of known s).oid (map (canonical_cell known s) vs)) c.in_err-begin_field.field-0.0 c.args.out.now c.begin_field.new.out c.requires.max
    (c.items_size.ensures ∙ ap counted sizes.whole) c.in_err-begin_field.ensures)

pub write_list-overflow_cast-items : goal.write_list-overflow_cast-items
write_list-overflow_cast-items t c =
    let s = shape c.args.element.now in
    let vs = values_of c.args.items.now in
    record { fits = omega (arith, c.items_size.ensures, c.in_ok-begin_field.ensures.fits, c.requires.max, frames_many (canonical_size s) vs, length-map c.args.items.now value_of) }

pub write_list-place_array-flags-requires-clause-count :
    goal.write_list-place_array-flags-requires-clause-count
write_list-place_array-flags-requires-clause-count t c =
    let s = shape c.args.element.now in
    let vs = values_of c.args.items.now in
    omega (arith, c.items_size.ensures, c.in_ok-begin_field.ensures.fits, c.requires.max, frames_many (canonical_size s) vs, length-map c.args.items.now value_of)

pub write_list-place_array-flags-requires-clause-room :
    goal.write_list-place_array-flags-requires-clause-room
write_list-place_array-flags-requires-clause-room t c =
    omega (arith, c.items_size.ensures, c.in_ok-begin_field.ensures.fits, c.requires.max, c.in_ok-begin_field.ensures.room)

pub write_list-write_items-null-requires : goal.write_list-write_items-null-requires
write_list-write_items-null-requires t c =
    let known = known_of c.args.found.now in
    let s = shape c.args.element.now in
    let vs = values_of c.args.items.now in
    let sizes = array_sizes known s vs c.requires.has in
    let b = c.in_ok-begin_field.ensures in
    (search rules, (c.requires.has, (omega (arith, c.items_size.ensures, sizes.elements, b.fits, b.room, c.requires.max, c.place_array-flags.ensures.spare), omega (arith, c.items_size.ensures, sizes.elements, b.fits, c.requires.max))))

pub write_list-say_nulls-requires : goal.write_list-say_nulls-requires
write_list-say_nulls-requires t c =
    let known = known_of c.args.found.now in
    let s = shape c.args.element.now in
    let vs = values_of c.args.items.now in
    omega (
      arith,
      ap length c.write_items-null.ensures.bytes,
      length-append c.place_array-flags.new.out.bytes (item_bytes known s vs),
      ap length c.place_array-flags.ensures.bytes,
      length-append c.begin_field.new.out.bytes (array_head 0 c.oid_of.result (length c.args.items.now) 1),
      head_length 0 c.oid_of.result (length c.args.items.now) 1,
      c.place_array-flags.ensures.place,
    )

pub write_list-returns : goal.write_list-returns
write_list-returns t c =
    let known = known_of c.args.found.now in
    let s = shape c.args.element.now in
    let vs = values_of c.args.items.now in
    let sizes = array_sizes known s vs c.requires.has in
    let b = c.in_ok-begin_field.ensures in
    let oid = (oids_of known s).oid in
    let cells = map (canonical_cell known s) vs in
    let count = length c.args.items.now in
    let head = c.place_array-flags.ensures.bytes ∙ ap (λ (n : ℕ). c.begin_field.new.out.bytes ++ array_head 0 n count 1) c.oid_of.ensures in
    let many = sym (length-map vs (canonical_cell known s) ∙ length-map c.args.items.now value_of) in
    let more = array_behind c.begin_field.new.out.bytes c.place_array-flags.new.out.bytes c.write_items-null.new.out.bytes c.say_nulls.new.out.bytes oid count c.place_array-flags.result cells c.write_items-null.result
    head c.write_items-null.ensures.bytes c.place_array-flags.ensures.place c.write_items-null.ensures.null many c.say_nulls.ensures.bytes in
    wrote_piece c.args.field_max c.items_size.result (array_bytes oid cells) c.args.out.now c.begin_field.new.out c.say_nulls.new.out (omega (arith, c.items_size.ensures, sizes.whole, b.fits, c.requires.max)) b more
    (omega (arith, sizes.whole, sizes.elements, c.place_array-flags.ensures.spare, c.write_items-null.ensures.spare, c.say_nulls.ensures.spare))

pub write_items-loop-item-init : goal.write_items-loop-item-init
write_items-loop-item-init t c =
    items_first (known_of c.args.found.now) (shape c.args.element.now) (values_of c.args.items.now) c.args.out.now c.requires.has c.requires.room c.requires.small

pub write_items-write-requires : goal.write_items-write-requires
write_items-write-requires t c =
    let known = known_of c.args.found.now in
    let s = shape c.args.element.now in
    let items = c.args.items.now in
    let i = c.loop-item.item-index in
    let v = value_of c.item-item.result in
    let is = items_more items i c.item-item.result c.loop-item-test.true c.item-item.is in
    let next = next_item known s (values_of items) (values_of (drop i items)) (values_of (drop (i + 1) items)) v c.args.out.now c.loop-item.out c.loop-item.null is c.loop-item.invariant in
    (search rules, (next.has, omega arith))

pub write_items-unreachable-requires : goal.write_items-unreachable-requires
write_items-unreachable-requires t c =
    let known = known_of c.args.found.now in
    let s = shape c.args.element.now in
    let items = c.args.items.now in
    let i = c.loop-item.item-index in
    let v = value_of c.item-item.result in
    let is = items_more items i c.item-item.result c.loop-item-test.true c.item-item.is in
    let next = next_item known s (values_of items) (values_of (drop i items)) (values_of (drop (i + 1) items)) v c.args.out.now c.loop-item.out c.loop-item.null is c.loop-item.invariant in
    was_written (canonical_cell known s v) c.write.result c.in-Err.field-0 c.loop-item.out c.write.new.out c.write.ensures next.small next.room c.in-Err.is

pub write_items-loop-item-preserved : goal.write_items-loop-item-preserved
write_items-loop-item-preserved t c =
    let known = known_of c.args.found.now in
    let s = shape c.args.element.now in
    let items = c.args.items.now in
    let i = c.loop-item.item-index in
    let v = value_of c.item-item.result in
    let is = items_more items i c.item-item.result c.loop-item-test.true c.item-item.is in
    one_item known s (values_of items) (values_of (drop i items)) (values_of (drop (i + 1) items)) v c.args.out.now c.loop-item.out c.write.new.out c.loop-item.null c.either-null.result is c.loop-item.invariant c.in-Ok.ensures
    (c.either-null.ensures ∙ ap (λ b. c.loop-item.null || b) (c.is_null.ensures (canonical_piece known s v)))

pub write_items-returns-clause-bytes : goal.write_items-returns-clause-bytes
write_items-returns-clause-bytes t c =
    let vs = values_of c.args.items.now in
    (items_done (known_of c.args.found.now) (shape c.args.element.now) vs _ c.args.out.now c.loop-item.out c.loop-item.null (no_items c.args.items.now c.loop-item.item-index (omega (arith, c.loop-item-test.false))) c.loop-item.invariant).bytes

pub write_items-returns-clause-spare : goal.write_items-returns-clause-spare
write_items-returns-clause-spare t c =
    let vs = values_of c.args.items.now in
    (items_done (known_of c.args.found.now) (shape c.args.element.now) vs _ c.args.out.now c.loop-item.out c.loop-item.null (no_items c.args.items.now c.loop-item.item-index (omega (arith, c.loop-item-test.false))) c.loop-item.invariant).spare

pub write_items-returns-clause-null : goal.write_items-returns-clause-null
write_items-returns-clause-null t c =
    let vs = values_of c.args.items.now in
    (items_done (known_of c.args.found.now) (shape c.args.element.now) vs _ c.args.out.now c.loop-item.out c.loop-item.null (no_items c.args.items.now c.loop-item.item-index (omega (arith, c.loop-item-test.false))) c.loop-item.invariant).nulls

pub write_piece-returns-in-Array : goal.write_piece-returns-in-Array
write_piece-returns-in-Array t c =
    let known = known_of c.args.found.now in
    let v = value_of c.args.value.now in
    subst (λ (u : PgType). Wrote c.args.field_max (Some (canonical_piece known (shape u) v)) c.write_array.result c.args.out.now c.write_array.new.out) (sym c.in-Array.is)
    (subst (λ (u : PgType). Wrote c.args.field_max (Some (canonical_piece known (array (shape u)) v)) c.write_array.result c.args.out.now c.write_array.new.out) c.deref.ensures c.write_array.ensures)

-- ---- ranges

pub write_bounds-returns-in_err-begin_field : goal.write_bounds-returns-in_err-begin_field
write_bounds-returns-in_err-begin_field t c =
    let known = known_of c.args.found.now in
    let s = shape c.args.part.now in
    let v = value_of_range c.args.bounds.now in
    let r = range_is known s (bound_of c.args.bounds.now.lower) (bound_of c.args.bounds.now.upper) c.requires.has in
    let p = err_from_is_err_and c.from_residual.result c.from_residual.ensures.1 in
    rw (p.1, p.2) (wrote_no_piece c.args.field_max c.bounds_size.result (canonical_piece known (range s) v) c.in_err-begin_field.field-0.0 c.args.out.now c.begin_field.new.out c.requires.max
    (c.bounds_size.ensures ∙ ap counted r.counted) c.in_err-begin_field.ensures)

pub write_bounds-place_range-requires : goal.write_bounds-place_range-requires
write_bounds-place_range-requires t c =
    let known = known_of c.args.found.now in
    let s = shape c.args.part.now in
    let r = range_is known s (bound_of c.args.bounds.now.lower) (bound_of c.args.bounds.now.upper) c.requires.has in
    let b = c.in_ok-begin_field.ensures in
    omega (arith, c.bounds_size.ensures, r.counted, bounds_length known s (bound_of c.args.bounds.now.lower) (bound_of c.args.bounds.now.upper) r, b.fits, b.room, c.requires.max)

pub write_bounds-write_bound-requires : goal.write_bounds-write_bound-requires
write_bounds-write_bound-requires t c =
    let known = known_of c.args.found.now in
    let s = shape c.args.part.now in
    let r = range_is known s (bound_of c.args.bounds.now.lower) (bound_of c.args.bounds.now.upper) c.requires.has in
    let long = bounds_length known s (bound_of c.args.bounds.now.lower) (bound_of c.args.bounds.now.upper) r in
    let b = c.in_ok-begin_field.ensures in
    (search rules, (r.has_lower, (omega (arith, c.bounds_size.ensures, r.counted, long, b.fits, b.room, c.requires.max, c.place_range.ensures.spare), omega (arith, c.bounds_size.ensures, r.counted, long, b.fits, c.requires.max))))

pub write_bounds-write_bound-requires-2 : goal.write_bounds-write_bound-requires-2
write_bounds-write_bound-requires-2 t c =
    let known = known_of c.args.found.now in
    let s = shape c.args.part.now in
    let r = range_is known s (bound_of c.args.bounds.now.lower) (bound_of c.args.bounds.now.upper) c.requires.has in
    let long = bounds_length known s (bound_of c.args.bounds.now.lower) (bound_of c.args.bounds.now.upper) r in
    let b = c.in_ok-begin_field.ensures in
    (search rules, (r.has_upper, (omega (arith, c.bounds_size.ensures, r.counted, long, b.fits, b.room, c.requires.max, c.place_range.ensures.spare, c.write_bound.ensures.spare), omega (arith, c.bounds_size.ensures, r.counted, long, b.fits, c.requires.max))))

pub write_bounds-returns : goal.write_bounds-returns
write_bounds-returns t c =
    let known = known_of c.args.found.now in
    let s = shape c.args.part.now in
    let l = bound_of c.args.bounds.now.lower in
    let u = bound_of c.args.bounds.now.upper in
    let r = range_is known s l u c.requires.has in
    let long = bounds_length known s l u r in
    let b = c.in_ok-begin_field.ensures in
    let more = bounds_behind known s l u (bound_of_kind c.kind_of.result) (bound_of_kind c.kind_of-2.result) c.begin_field.new.out.bytes c.place_range.new.out.bytes c.write_bound.new.out.bytes c.write_bound-2.new.out.bytes r
    c.kind_of.ensures c.kind_of-2.ensures c.place_range.ensures.bytes c.write_bound.ensures.bytes c.write_bound-2.ensures.bytes in
    wrote_piece c.args.field_max c.bounds_size.result (canonical_piece known (range s) (value_of_range c.args.bounds.now)) c.args.out.now c.begin_field.new.out c.write_bound-2.new.out (omega (arith, c.bounds_size.ensures, r.counted, b.fits, c.requires.max)) b more
    (omega (arith, long, c.place_range.ensures.spare, c.write_bound.ensures.spare, c.write_bound-2.ensures.spare))

pub write_whole-unreachable-requires : goal.write_whole-unreachable-requires
write_whole-unreachable-requires t c =
    let p = canonical_piece (known_of c.args.found.now) (shape c.args.t.now) (value_of c.args.value.now) in
    was_written (Some p) c.write_piece.result c.in-Err.field-0 c.args.out.now c.write_piece.new.out c.write_piece.ensures (omega (arith, c.requires.small, frame_length (Some p))) c.requires.room c.in-Err.is

pub write_piece-returns-in-Range : goal.write_piece-returns-in-Range
write_piece-returns-in-Range t c =
    let known = known_of c.args.found.now in
    let v = value_of c.args.value.now in
    subst (λ (u : PgType). Wrote c.args.field_max (Some (canonical_piece known (shape u) v)) c.write_range.result c.args.out.now c.write_range.new.out) (sym c.in-Range.is)
    (subst (λ (u : PgType). Wrote c.args.field_max (Some (canonical_piece known (range (shape u)) v)) c.write_range.result c.args.out.now c.write_range.new.out) c.deref-in-Range.ensures c.write_range.ensures)

pub write_piece-returns-in-Multirange : goal.write_piece-returns-in-Multirange
write_piece-returns-in-Multirange t c =
    let known = known_of c.args.found.now in
    let v = value_of c.args.value.now in
    subst (λ (u : PgType). Wrote c.args.field_max (Some (canonical_piece known (shape u) v)) c.write_multirange.result c.args.out.now c.write_multirange.new.out) (sym c.in-Multirange.is)
    (subst (λ (u : PgType). Wrote c.args.field_max (Some (canonical_piece known (multirange (shape u)) v)) c.write_multirange.result c.args.out.now c.write_multirange.new.out) c.deref-in-Multirange.ensures c.write_multirange.ensures)

-- ---- multiranges

pub write_multirange-write_ranges-requires : goal.write_multirange-write_ranges-requires
write_multirange-write_ranges-requires t c =
    (search rules, (ranges_has (shape c.args.part.now) c.args.value.now c.in-Ranges.list c.as_slice.result.now c.in-Ranges.is c.as_slice.ensures c.requires.has, c.requires.max))

pub write_multirange-returns : goal.write_multirange-returns
write_multirange-returns t c =
    subst (λ (p : List ℕ). Wrote c.args.field_max (Some p) c.write_ranges.result c.args.out.now c.write_ranges.new.out)
    (sym (ranges_piece (known_of c.args.found.now) (shape c.args.part.now) c.args.value.now c.in-Ranges.list c.as_slice.result.now c.in-Ranges.is c.as_slice.ensures)) c.write_ranges.ensures

pub write_ranges-returns-in_err-begin_field : goal.write_ranges-returns-in_err-begin_field
write_ranges-returns-in_err-begin_field t c =
    let known = known_of c.args.found.now in
    let s = shape c.args.part.now in
    let vs = map value_of_range c.args.ranges.now in
    let sizes = multirange_sizes known s vs c.requires.has in
    let p = err_from_is_err_and c.from_residual.result c.from_residual.ensures.1 in
    rw (p.1, p.2) (wrote_no_piece c.args.field_max c.ranges_size.result (multirange_bytes (map (canonical_cell known (range s)) vs)) c.in_err-begin_field.field-0.0 c.args.out.now c.begin_field.new.out c.requires.max
    (c.ranges_size.ensures ∙ ap counted sizes.whole) c.in_err-begin_field.ensures)

pub write_ranges-overflow_cast-ranges : goal.write_ranges-overflow_cast-ranges
write_ranges-overflow_cast-ranges t c =
    let s = range (shape c.args.part.now) in
    let vs = map value_of_range c.args.ranges.now in
    record { fits = omega (arith, c.ranges_size.ensures, c.in_ok-begin_field.ensures.fits, c.requires.max, frames_many (canonical_size s) vs, length-map c.args.ranges.now value_of_range) }

pub write_ranges-push_reserved-requires : goal.write_ranges-push_reserved-requires
write_ranges-push_reserved-requires t c =
    omega (arith, c.ranges_size.ensures, c.in_ok-begin_field.ensures.fits, c.requires.max, c.in_ok-begin_field.ensures.room)

pub write_ranges-write_each_range-requires : goal.write_ranges-write_each_range-requires
write_ranges-write_each_range-requires t c =
    let known = known_of c.args.found.now in
    let s = shape c.args.part.now in
    let vs = map value_of_range c.args.ranges.now in
    let sizes = multirange_sizes known s vs c.requires.has in
    let b = c.in_ok-begin_field.ensures in
    (search rules, (c.requires.has, (omega (arith, c.ranges_size.ensures, sizes.ranges, b.fits, b.room, c.requires.max, c.push_reserved.ensures.spare), omega (arith, c.ranges_size.ensures, sizes.ranges, b.fits, c.requires.max))))

pub write_ranges-returns : goal.write_ranges-returns
write_ranges-returns t c =
    let known = known_of c.args.found.now in
    let s = shape c.args.part.now in
    let vs = map value_of_range c.args.ranges.now in
    let sizes = multirange_sizes known s vs c.requires.has in
    let b = c.in_ok-begin_field.ensures in
    let cells = map (canonical_cell known (range s)) vs in
    let many = sym (length-map vs (canonical_cell known (range s)) ∙ length-map c.args.ranges.now value_of_range) in
    let head = c.push_reserved.ensures.bytes ∙ ap (λ l. c.begin_field.new.out.bytes ++ l) c.to_be_bytes.ensures in
    let more = multirange_behind c.begin_field.new.out.bytes c.push_reserved.new.self.bytes c.write_each_range.new.out.bytes (length c.args.ranges.now) cells head many c.write_each_range.ensures.bytes in
    wrote_piece c.args.field_max c.ranges_size.result (multirange_bytes cells) c.args.out.now c.begin_field.new.out c.write_each_range.new.out (omega (arith, c.ranges_size.ensures, sizes.whole, b.fits, c.requires.max)) b more
    (omega (arith, sizes.whole, sizes.ranges, c.push_reserved.ensures.spare, c.write_each_range.ensures.spare))

pub write_each_range-loop-bounds-init : goal.write_each_range-loop-bounds-init
write_each_range-loop-bounds-init t c =
    items_first (known_of c.args.found.now) (range (shape c.args.part.now)) (map value_of_range c.args.ranges.now) c.args.out.now c.requires.has c.requires.room c.requires.small

pub write_each_range-write_bounds-requires : goal.write_each_range-write_bounds-requires
write_each_range-write_bounds-requires t c =
    let known = known_of c.args.found.now in
    let s = range (shape c.args.part.now) in
    let items = c.args.ranges.now in
    let i = c.loop-bounds.bounds-index in
    let v = value_of_range c.bounds-item.result in
    let is = ranges_more items i c.bounds-item.result c.loop-bounds-test.true c.bounds-item.is in
    let next = next_item known s (map value_of_range items) (map value_of_range (drop i items)) (map value_of_range (drop (i + 1) items)) v c.args.out.now c.loop-bounds.out false is c.loop-bounds.invariant in
    (search rules, (next.has, omega arith))

pub write_each_range-unreachable-requires : goal.write_each_range-unreachable-requires
write_each_range-unreachable-requires t c =
    let known = known_of c.args.found.now in
    let s = range (shape c.args.part.now) in
    let items = c.args.ranges.now in
    let i = c.loop-bounds.bounds-index in
    let v = value_of_range c.bounds-item.result in
    let is = ranges_more items i c.bounds-item.result c.loop-bounds-test.true c.bounds-item.is in
    let next = next_item known s (map value_of_range items) (map value_of_range (drop i items)) (map value_of_range (drop (i + 1) items)) v c.args.out.now c.loop-bounds.out false is c.loop-bounds.invariant in
    was_written (canonical_cell known s v) c.write_bounds.result c.in-Err.field-0 c.loop-bounds.out c.write_bounds.new.out c.write_bounds.ensures next.small next.room c.in-Err.is

pub write_each_range-loop-bounds-preserved : goal.write_each_range-loop-bounds-preserved
write_each_range-loop-bounds-preserved t c =
    let known = known_of c.args.found.now in
    let s = range (shape c.args.part.now) in
    let items = c.args.ranges.now in
    let i = c.loop-bounds.bounds-index in
    let v = value_of_range c.bounds-item.result in
    let is = ranges_more items i c.bounds-item.result c.loop-bounds-test.true c.bounds-item.is in
    one_item known s (map value_of_range items) (map value_of_range (drop i items)) (map value_of_range (drop (i + 1) items)) v c.args.out.now c.loop-bounds.out c.write_bounds.new.out false false is c.loop-bounds.invariant c.in-Ok.ensures refl

pub write_each_range-returns-clause-bytes : goal.write_each_range-returns-clause-bytes
write_each_range-returns-clause-bytes t c =
    let vs = map value_of_range c.args.ranges.now in
    (items_done (known_of c.args.found.now) (range (shape c.args.part.now)) vs _ c.args.out.now c.loop-bounds.out false (no_ranges c.args.ranges.now c.loop-bounds.bounds-index (omega (arith, c.loop-bounds-test.false))) c.loop-bounds.invariant).bytes

pub write_each_range-returns-clause-spare : goal.write_each_range-returns-clause-spare
write_each_range-returns-clause-spare t c =
    let vs = map value_of_range c.args.ranges.now in
    (items_done (known_of c.args.found.now) (range (shape c.args.part.now)) vs _ c.args.out.now c.loop-bounds.out false (no_ranges c.args.ranges.now c.loop-bounds.bounds-index (omega (arith, c.loop-bounds-test.false))) c.loop-bounds.invariant).spare
