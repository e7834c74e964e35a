use Rattle.std.proofs.Common.{rules, ◌∙◌, ◌+◌, sym, ap, arith}
use Rattle.pgw_meta.specs.Shape.{array, range, multirange}
use Rattle.pgw_meta.specs.Types.{shape}
use Rattle.pgw_meta.specs.declared.types.PgType.{PgType}
use Rattle.pgw_cell.specs.Arrays.{frames_size}
use Rattle.pgw_cell.specs.Pieces.{piece_size}
use Rattle.pgw_cell.specs.Cells.{canonical_size}
use Rattle.pgw_cell.specs.Data.{value_of}
use Rattle.pgw_cell.specs.Written.{counted}
use Rattle.pgw_cell.proofs.Writing.{list_items, list_has}
use Rattle.pgw_cell.specs.Data.{bound_of}
use Rattle.pgw_cell.proofs.Multiranges.{no_oids}
use Rattle.pgw_cell.proofs.WriteRanges.{range_is, list_ranges, list_has as ranges_has}
use Rattle.pgw_cell.proofs.value_sizes.+value_sizes.Goals as goal

pub array_size-items_size-requires : goal.array_size-items_size-requires
array_size-items_size-requires t c =
    (search rules, list_has (shape c.args.element.now) c.args.value.now c.in-List.list c.as_slice.result.now c.in-List.is c.as_slice.ensures c.requires)

pub array_size-returns : goal.array_size-returns
array_size-returns t c =
    c.items_size.ensures ∙ ap (λ vs. counted (20 + frames_size (canonical_size (shape c.args.element.now)) vs)) (sym (list_items c.args.value.now c.in-List.list c.as_slice.result.now c.in-List.is c.as_slice.ensures))

pub value_size-returns-in-Array : goal.value_size-returns-in-Array
value_size-returns-in-Array t c =
    c.array_size.ensures ∙ ap (λ (u : PgType). counted (piece_size (array (shape u)) (value_of c.args.value.now))) c.deref.ensures
    ∙ ap (λ (u : PgType). counted (piece_size (shape u) (value_of c.args.value.now))) (sym c.in-Array.is)

pub bounds_size-value_bound_size-requires : goal.bounds_size-value_bound_size-requires
bounds_size-value_bound_size-requires t c =
    (search rules, (range_is no_oids (shape c.args.part.now) (bound_of c.args.bounds.now.lower) (bound_of c.args.bounds.now.upper) c.requires).has_lower)

pub bounds_size-returns : goal.bounds_size-returns
bounds_size-returns t c =
    let r = range_is no_oids (shape c.args.part.now) (bound_of c.args.bounds.now.lower) (bound_of c.args.bounds.now.upper) c.requires in
    omega (arith, c.min.ensures, c.value_bound_size.ensures.value, c.value_bound_size-2.ensures.value, c.value_bound_size.ensures.few, c.value_bound_size-2.ensures.few, r.size)

pub multirange_size-ranges_size-requires : goal.multirange_size-ranges_size-requires
multirange_size-ranges_size-requires t c =
    (search rules, ranges_has (shape c.args.part.now) c.args.value.now c.in-Ranges.list c.as_slice.result.now c.in-Ranges.is c.as_slice.ensures c.requires)

pub multirange_size-returns : goal.multirange_size-returns
multirange_size-returns t c =
    c.ranges_size.ensures ∙ ap (λ vs. counted (4 + frames_size (canonical_size (range (shape c.args.part.now))) vs)) (sym (list_ranges c.args.value.now c.in-Ranges.list c.as_slice.result.now c.in-Ranges.is c.as_slice.ensures))

pub value_size-returns-in-Range : goal.value_size-returns-in-Range
value_size-returns-in-Range t c =
    c.range_size.ensures ∙ ap (λ (u : PgType). counted (piece_size (range (shape u)) (value_of c.args.value.now))) c.deref-in-Range.ensures
    ∙ ap (λ (u : PgType). counted (piece_size (shape u) (value_of c.args.value.now))) (sym c.in-Range.is)

pub value_size-returns-in-Multirange : goal.value_size-returns-in-Multirange
value_size-returns-in-Multirange t c =
    c.multirange_size.ensures ∙ ap (λ (u : PgType). counted (piece_size (multirange (shape u)) (value_of c.args.value.now))) c.deref-in-Multirange.ensures
    ∙ ap (λ (u : PgType). counted (piece_size (shape u) (value_of c.args.value.now))) (sym c.in-Multirange.is)
