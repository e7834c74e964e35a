-- What the definitions say of single cells of ranges and multiranges, of bytes that were written down by hand: what they
-- are read as, what they are written as, and how many bytes that has.
use Rattle.std.proofs.Common.{◌≡◌, ℕ, pos, List, [], ◌∷◌, None, Some, Ok, Err, refl, arith, lit<}
use Rattle.std.specs.declared.ops.Bound.TheVariants.{Excluded, Unbounded}
use Rattle.pgw_wire.specs.declared.kind.Break.TheVariants.{Null, Size}
use Rattle.pgw_meta.specs.Known.{Known}
use Rattle.pgw_meta.specs.Shape.{Shape, scalar, nullable, array, range, multirange, int4, numeric}
use Rattle.pgw_numeric.specs.Numeric.{not_a_number}
use Rattle.pgw_nested.specs.Array.{array_head}
use Rattle.pgw_nested.specs.Flags.{has}
use Rattle.pgw_nested.specs.Reading.{cell_at, read_cells}
use Rattle.pgw_nested.specs.RangeReading.{lower_at, upper_at, read_range_by}
use Rattle.pgw_cell.specs.Value.{Value, null, number, numeric as numeric_value, list_of, range_of, multirange_of}
use Rattle.pgw_cell.specs.Cells.{HasType, Fits, canonical_cell, canonical_size, read_value}

-- No named type is known.
abbrev unknown : Known
unknown key = None

-- four bytes
abbrev word : ℕ → List ℕ → List ℕ
word n rest = 0 ∷ 0 ∷ 0 ∷ n ∷ rest

abbrev numbers : Shape
numbers = range (scalar int4)

abbrev lists : Shape
lists = multirange (scalar int4)

-- twice 0, excluded, which an empty range is
abbrev twice_zero : Value
twice_zero = range_of (Excluded (number (pos 0)), Excluded (number (pos 0)))

abbrev zeros : List ℕ
zeros = 0 ∷ word 4 (word 0 (word 4 (word 0 [])))

-- ---- ranges

-- An empty range is read so, whatever its other flags are and whatever stands behind them, and written with two bounds.
pub empty_read : read_value numbers (Some (1 ∷ [])) ≡ Ok twice_zero
unfolding has read_range_by
empty_read = refl

pub empty_with_more : read_value numbers (Some (31 ∷ 9 ∷ [])) ≡ Ok twice_zero
unfolding has read_range_by
empty_with_more = refl

pub empty_written : canonical_cell unknown numbers twice_zero ≡ Some zeros
empty_written = refl

pub empty_size : canonical_size numbers twice_zero ≡ 17
empty_size = refl

pub empty_too_long : Fits 16 numbers twice_zero → ⊥
empty_too_long h = omega (arith, h)

-- The bounds of an empty range of numerics are no numbers.
abbrev twice_nan : Value
twice_nan = range_of (Excluded (numeric_value not_a_number), Excluded (numeric_value not_a_number))

abbrev nan : List ℕ → List ℕ
nan rest = 0 ∷ 0 ∷ 0 ∷ 0 ∷ 192 ∷ 0 ∷ 0 ∷ 0 ∷ rest

pub empty_numeric_read : read_value (range (scalar numeric)) (Some (1 ∷ [])) ≡ Ok twice_nan
unfolding has read_range_by
empty_numeric_read = refl

pub empty_numeric_written : canonical_cell unknown (range (scalar numeric)) twice_nan ≡ Some (0 ∷ word 8 (nan (word 8 (nan []))))
empty_numeric_written = refl

pub empty_numeric_size : canonical_size (range (scalar numeric)) twice_nan ≡ 25
empty_numeric_size = refl

-- From 1 to 5, both excluded: the upper bound states 99 bytes, and is written with the length that it has.
abbrev one_to_five : Value
one_to_five = range_of (Excluded (number (pos 1)), Excluded (number (pos 5)))

pub upper_is_the_rest : read_value numbers (Some (0 ∷ word 4 (word 1 (word 99 (word 5 []))))) ≡ Ok one_to_five
unfolding has cell_at lower_at upper_at read_range_by
upper_is_the_rest = refl

pub upper_written : canonical_cell unknown numbers one_to_five ≡ Some (0 ∷ word 4 (word 1 (word 4 (word 5 []))))
upper_written = refl

-- No bounds, and the three highest bits of the flags.
pub all_values : read_value numbers (Some (248 ∷ [])) ≡ Ok (range_of (Unbounded, Unbounded))
unfolding has lower_at upper_at read_range_by
all_values = refl

pub all_values_written : canonical_cell unknown numbers (range_of (Unbounded, Unbounded)) ≡ Some (24 ∷ [])
all_values_written = refl

-- A lower bound of -1; a value of two bytes as the lower bound, and as the upper; null.
pub negative_lower : read_value numbers (Some (0 ∷ 255 ∷ 255 ∷ 255 ∷ 255 ∷ [])) ≡ Err Size
unfolding has cell_at lower_at read_range_by
negative_lower = refl

pub short_lower : read_value numbers (Some (16 ∷ word 2 (0 ∷ 1 ∷ []))) ≡ Err Size
unfolding has cell_at lower_at upper_at read_range_by
short_lower = refl

pub short_upper : read_value numbers (Some (8 ∷ word 2 (0 ∷ 1 ∷ []))) ≡ Err Size
unfolding has lower_at upper_at read_range_by
short_upper = refl

pub null_of_a_range : read_value numbers None ≡ Err Null
null_of_a_range = refl

pub null_or_range : read_value (nullable numbers) None ≡ Ok null
null_or_range = refl

-- ---- multiranges

-- One empty range grows, and a count of no ranges stays; behind them any bytes may stand.
pub one_empty : read_value lists (Some (word 1 (word 1 (1 ∷ 9 ∷ [])))) ≡ Ok (multirange_of (twice_zero ∷ []))
unfolding has cell_at read_cells read_range_by
one_empty = refl

pub one_empty_written : canonical_cell unknown lists (multirange_of (twice_zero ∷ [])) ≡ Some (word 1 (word 17 zeros))
one_empty_written = refl

pub one_empty_size : canonical_size lists (multirange_of (twice_zero ∷ [])) ≡ 25
one_empty_size = refl

pub no_range : read_value lists (Some (word 0 (9 ∷ []))) ≡ Ok (multirange_of [])
unfolding read_cells
no_range = refl

pub no_range_written : canonical_cell unknown lists (multirange_of []) ≡ Some (word 0 [])
no_range_written = refl

-- A count of 4294967295 that nothing follows, and a range of -1 bytes.
pub too_many_stated : read_value lists (Some (255 ∷ 255 ∷ 255 ∷ 255 ∷ [])) ≡ Err Size
unfolding cell_at read_cells
too_many_stated = refl

pub null_for_a_range : read_value lists (Some (word 1 (255 ∷ 255 ∷ 255 ∷ 255 ∷ []))) ≡ Err Size
unfolding cell_at read_cells
null_for_a_range = refl

-- ---- arrays of ranges, under the oid 3904 of `int4range`

pub array_of_ranges_written : canonical_cell unknown (array (nullable numbers)) (list_of (twice_zero ∷ null ∷ []))
    ≡ Some (word 1 (word 1 (0 ∷ 0 ∷ 15 ∷ 64 ∷ word 2 (word 1 (word 17 (0 ∷ word 4 (word 0 (word 4 (word 0 (255 ∷ 255 ∷ 255 ∷ 255 ∷ []))))))))))
unfolding array_head
array_of_ranges_written = refl

-- ---- values of the types

pub has_bounds : HasType numbers twice_zero
has_bounds = ((Excluded (number (pos 0)), Excluded (number (pos 0))), refl, (pos 0, refl, record { sfits = lit< tt }), (pos 0, refl, record { sfits = lit< tt }))

pub no_number : HasType numbers (number (pos 42)) → ⊥
no_number h = let e = h.1 in absurd (cc)
