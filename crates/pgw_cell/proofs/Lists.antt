-- The value of a list is the array of the values in it, and that of a list of ranges the multirange.
use Rattle.std.proofs.Common.{◌≡◌, map, refl, sym, ap, ◌∙◌}
use mathlib.Core.Former.{Count}
use Rattle.pgw_cell.specs.Value.{value_then, list, list_of, multirange, multirange_of, range, values}
use Rattle.pgw_cell.specs.Data.{value_of, bound_of, row_values, row_ranges, list_ranges, data_of, values_of, value_of_range, range_values}
use Rattle.pgw_cell.specs.declared.datum.RangeList.{RangeList, out-RangeList, RangeList', Row_of-RangeDatum, end_of-RangeDatum, more_of-RangeDatum, items-the_row-RangeDatum, items_shown-the_row-RangeDatum-1}
use Rattle.pgw_cell.specs.declared.datum.DatumList.{DatumList}
use Rattle.pgw_cell.specs.declared.datum.Datum.{Datum, List as list_datum, Ranges, List', Row_of-Datum, end_of-Datum, more_of-Datum, items-the_row-Datum, items_hidden-the_row-Datum-0}

row_of : Datum → (n : Count) × Row_of-Datum n
row_of (List' _ row) = (_, row)
row_of _ = (_, end_of-Datum)

row_is : (n : Count) (row : Row_of-Datum n) → row_values row ≡ values (values_of (items-the_row-Datum n row))
row_is n end_of-Datum = refl
row_is n (more_of-Datum d rest) = ap (value_then (value_of d)) (row_is _ rest)

pub value_of_list : (l : DatumList) → value_of (list_datum l) ≡ list_of (values_of (data_of l))
unfolding row_of
value_of_list l =
    let row = row_of (list_datum l) in
    ap list (row_is row.0 row.1 ∙ ap (λ ds. values (values_of ds)) (items_hidden-the_row-Datum-0 (data_of l)))

range_row_is : (n : Count) (row : Row_of-RangeDatum n) → row_ranges row ≡ values (map value_of_range (items-the_row-RangeDatum n row))
range_row_is n end_of-RangeDatum = refl
range_row_is n (more_of-RangeDatum l u rest) = ap (value_then (range (bound_of l) (bound_of u))) (range_row_is _ rest)

ranges_are : (l : RangeList) → list_ranges l ≡ values (range_values l)
unfolding out-RangeList Rattle.pgw_cell.specs.declared.datum.BoundDatum.TheBlock.shown-the_row-RangeDatum-1 denote.Hole.Carrier.out denote.Hole.Carrier.shown
ranges_are (RangeList' n row) = range_row_is _ row ∙ ap (λ ds. values (map value_of_range ds)) (sym (items_shown-the_row-RangeDatum-1 n row))

pub value_of_ranges : (l : RangeList) → value_of (Ranges l) ≡ multirange_of (range_values l)
value_of_ranges l = ap multirange (ranges_are l)
