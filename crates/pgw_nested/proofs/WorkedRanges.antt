-- What the definitions of ranges and multiranges say of single pieces. The parts are `int4`, and the `numeric` that is no
-- number.
use Rattle.std.proofs.Common.{◌≡◌, ℕ, ℤ, pos, negsuc, List, [], ◌∷◌, None, Some, Result, Ok, Err, refl, lit<}
use Rattle.std.specs.Int.{w32}
use Rattle.std.specs.declared.ops.Bound.TheVariants.{Included, Excluded, Unbounded}
use Rattle.pgw_wire.specs.Cell.{Cell}
use Rattle.pgw_wire.specs.declared.kind.Break.{Break}
use Rattle.pgw_wire.specs.declared.kind.Break.TheVariants as kind
use Rattle.pgw_wire.specs.declared.sql_error.SqlError.{SqlError}
use Rattle.pgw_wire.specs.declared.sql_error.SqlError.TheVariants as error
use Rattle.pgw_scalar.specs.Whole.{IsSigned}
use Rattle.pgw_meta.specs.Reading.{ReadsPiece}
use Rattle.pgw_nested.specs.Reading.{cell_at, read_cells}
use Rattle.pgw_nested.specs.Flags.{has}
use Rattle.pgw_nested.specs.Range.{Bounds, AreRangeParts, IsRange, no_bounds, two_bounds, no_lower, lower_piece, no_upper, upper_piece, range_bytes}
use Rattle.pgw_nested.specs.Multirange.{multirange_bytes}
use Rattle.pgw_nested.specs.RangeReading.{lower_at, upper_at, read_range_by, read_range, read_multirange_by}

-- four bytes
abbrev word : ℕ → List ℕ → List ℕ
word n rest = 0 ∷ 0 ∷ 0 ∷ n ∷ rest

-- the cell of an int4 below 256
abbrev int4 : ℕ → Cell
int4 n = Some (word n [])

-- a cell as an int4, and what a piece is as a range of them
abbrev Int4 : Cell → ℤ → Type 0
Int4 = ReadsPiece (IsSigned w32)

abbrev Int4Range : List ℕ → Bounds ℤ → Type 0
Int4Range = IsRange Int4 (pos 0)

-- An empty range is twice 0, excluded, whatever stands behind the flags.
pub empty_is_zero : Int4Range (1 ∷ []) (Excluded (pos 0), Excluded (pos 0))
unfolding has
empty_is_zero = record { parts = None; are = no_bounds 1 [] refl refl refl; spelled = refl }

pub empty_with_more : Int4Range (31 ∷ word 9 []) (Excluded (pos 0), Excluded (pos 0))
unfolding has
empty_with_more = record { parts = None; are = no_bounds 31 _ refl refl refl; spelled = refl }

-- From 1, excluded, to 5, excluded. The upper bound has four bytes, and states 99.
abbrev states_99 : List ℕ
states_99 = 0 ∷ word 4 (word 1 (word 99 (word 5 [])))

pub upper_is_the_rest : Int4Range states_99 (Excluded (pos 1), Excluded (pos 5))
unfolding has
upper_is_the_rest = record {
  parts = Some (Excluded (word 1 []), Excluded (word 5 []));
  are = two_bounds 0 _ _ _ _ refl refl (lower_piece (word 1 []) refl (lit< tt) refl refl) (upper_piece (word 99 []) (word 5 []) refl refl refl refl) refl;
  spelled = (record { fits = record { sfits = lit< tt }; bytes = refl }, record { fits = record { sfits = lit< tt }; bytes = refl });
}

-- Both are infinite, and what stands behind the flags is any; and so where the three highest bits are set.
pub all_values : AreRangeParts (24 ∷ 7 ∷ []) (Some (Unbounded, Unbounded))
unfolding has
all_values = two_bounds 24 _ _ _ _ refl refl (no_lower refl refl refl) (no_upper refl refl) refl

pub high_bits : AreRangeParts (248 ∷ []) (Some (Unbounded, Unbounded))
unfolding has
high_bits = two_bounds 248 _ _ _ _ refl refl (no_lower refl refl refl) (no_upper refl refl) refl

-- what a piece is read as: the cells of its bounds, where an empty range has those of 0, or an error
abbrev cells_in : List ℕ → Result (Bounds Cell) SqlError
cells_in bytes = read_range_by (λ (e : SqlError). e) (λ (c : Cell). Ok c) (int4 0) bytes

pub reads_states_99 : cells_in states_99 ≡ Ok (Excluded (int4 1), Excluded (int4 5))
unfolding has cell_at lower_at upper_at read_range_by
reads_states_99 = refl

-- each flag: 2 and 4 include, 8 and 16 are infinite
pub lower_included : cells_in (2 ∷ word 4 (word 1 (word 4 (word 5 [])))) ≡ Ok (Included (int4 1), Excluded (int4 5))
unfolding has cell_at lower_at upper_at read_range_by
lower_included = refl

pub upper_included : cells_in (4 ∷ word 4 (word 1 (word 4 (word 5 [])))) ≡ Ok (Excluded (int4 1), Included (int4 5))
unfolding has cell_at lower_at upper_at read_range_by
upper_included = refl

pub lower_infinite : cells_in (12 ∷ word 4 (word 5 [])) ≡ Ok (Unbounded, Included (int4 5))
unfolding has cell_at lower_at upper_at read_range_by
lower_infinite = refl

pub upper_infinite : cells_in (18 ∷ word 4 (word 1 (9 ∷ []))) ≡ Ok (Included (int4 1), Unbounded)
unfolding has cell_at lower_at upper_at read_range_by
upper_infinite = refl

-- no flags; a lower bound that states 6 bytes and has 4; one of -1, which is no null; and no length of the upper bound
pub no_byte : cells_in [] ≡ Err error.ShortBuffer
unfolding read_range_by
no_byte = refl

pub lower_past_the_end : cells_in (0 ∷ word 6 (word 42 [])) ≡ Err (error.RangeElement (pos 6) 4)
unfolding has cell_at lower_at upper_at read_range_by
lower_past_the_end = refl

pub lower_negative : cells_in (0 ∷ 255 ∷ 255 ∷ 255 ∷ 255 ∷ []) ≡ Err (error.NegativeSize (negsuc 0))
unfolding has cell_at lower_at upper_at read_range_by
lower_negative = refl

pub upper_too_short : cells_in (8 ∷ 0 ∷ 0 ∷ 0 ∷ []) ≡ Err error.ShortBuffer
unfolding has cell_at lower_at upper_at read_range_by
upper_too_short = refl

-- The upper bound's length may be -1, and it may have no byte.
pub upper_of_minus_one : cells_in (8 ∷ 255 ∷ 255 ∷ 255 ∷ 255 ∷ []) ≡ Ok (Unbounded, Excluded (Some []))
unfolding has cell_at lower_at upper_at read_range_by
upper_of_minus_one = refl

-- The negative length breaks in size. The break of a lower bound is that of the range, and stands in front of what is
-- wrong with the upper; that of the upper stands behind a lower bound that has a value.
abbrev no_int4 : Cell → Result Cell Break
no_int4 c = Err kind.Utf8

pub breaks_in_size : read_range (λ (c : Cell). Ok c) (int4 0) (0 ∷ 255 ∷ 255 ∷ 255 ∷ 255 ∷ []) ≡ Err kind.Size
unfolding has cell_at lower_at upper_at read_range_by
breaks_in_size = refl

pub lower_breaks : read_range no_int4 (int4 0) (0 ∷ word 0 []) ≡ Err kind.Utf8
unfolding has cell_at lower_at upper_at read_range_by
lower_breaks = refl

pub upper_breaks : read_range no_int4 (int4 0) (8 ∷ word 0 []) ≡ Err kind.Utf8
unfolding has cell_at lower_at upper_at read_range_by
upper_breaks = refl

-- what ranges are written as: the two of 0 that stand for an empty one, those of numeric, which are no numbers, the lower
-- bound included, and no bound
abbrev twice_zero : List ℕ
twice_zero = 0 ∷ word 4 (word 0 (word 4 (word 0 [])))

pub empty_written : range_bytes (Excluded (int4 0), Excluded (int4 0)) ≡ twice_zero
empty_written = refl

abbrev nan : List ℕ → List ℕ
nan rest = 0 ∷ 0 ∷ 0 ∷ 0 ∷ 192 ∷ 0 ∷ 0 ∷ 0 ∷ rest

pub empty_numeric_written : range_bytes (Excluded (Some (nan [])), Excluded (Some (nan []))) ≡ 0 ∷ word 8 (nan (word 8 (nan [])))
empty_numeric_written = refl

pub states_99_written : range_bytes (Excluded (int4 1), Excluded (int4 5)) ≡ 0 ∷ word 4 (word 1 (word 4 (word 5 [])))
states_99_written = refl

pub one_to_five_written : range_bytes (Included (int4 1), Excluded (int4 5)) ≡ 2 ∷ word 4 (word 1 (word 4 (word 5 [])))
one_to_five_written = refl

pub all_values_written : range_bytes (Unbounded, Unbounded) ≡ 24 ∷ []
all_values_written = refl

pub up_to_five_written : range_bytes (Unbounded, Included (int4 5)) ≡ 12 ∷ word 4 (word 5 [])
up_to_five_written = refl

-- ---- multiranges

-- what a piece is read as: the cells of its ranges, or an error
abbrev ranges_in : List ℕ → Result (List Cell) SqlError
ranges_in bytes = read_multirange_by (λ (e : SqlError). e) (λ (c : Cell). Ok c) bytes

-- one empty range, and a byte that is ignored; what is written with the two of 0 that stand for it; and no range
pub one_empty : ranges_in (word 1 (word 1 (1 ∷ 9 ∷ []))) ≡ Ok (Some (1 ∷ []) ∷ [])
unfolding cell_at read_cells
one_empty = refl

pub one_empty_written : multirange_bytes (Some twice_zero ∷ []) ≡ word 1 (word 17 twice_zero)
one_empty_written = refl

pub no_range : ranges_in (word 0 (9 ∷ [])) ≡ Ok []
unfolding read_cells
no_range = refl

pub no_range_written : multirange_bytes [] ≡ word 0 []
no_range_written = refl

-- a range that states 6 bytes and has 4; one of -1, which is no null; no range where one has to come; and no count
pub range_past_the_end : ranges_in (word 1 (word 6 (word 42 []))) ≡ Err (error.ElementBytes (pos 6) 4)
unfolding cell_at read_cells
range_past_the_end = refl

pub range_negative : ranges_in (word 1 (255 ∷ 255 ∷ 255 ∷ 255 ∷ [])) ≡ Err (error.NegativeSize (negsuc 0))
unfolding cell_at read_cells
range_negative = refl

pub one_too_few : ranges_in (word 1 []) ≡ Err error.ShortBuffer
unfolding cell_at read_cells
one_too_few = refl

pub no_count_there : ranges_in (0 ∷ 0 ∷ 1 ∷ []) ≡ Err error.ShortBuffer
no_count_there = refl

-- a count of 4294967295 without a range
pub too_many_stated : ranges_in (255 ∷ 255 ∷ 255 ∷ 255 ∷ []) ≡ Err error.ShortBuffer
unfolding cell_at read_cells
too_many_stated = refl
