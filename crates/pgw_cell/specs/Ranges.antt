-- The values of range types and of multirange types, over what is said of the values that bounds have. Which pieces are
-- ranges and multiranges, and how other pieces break, the definitions of pgw_nested say.
use Rattle.std.specs.Prelude.{◌≡◌, ⊤, ℕ, ◌+◌, false, List, map, Option, None, Some, Result, Err}
use Rattle.std.specs.List.{AllByRecursion}
use Rattle.std.specs.declared.ops.Bound.{Bound}
use Rattle.std.specs.declared.ops.Bound.TheVariants.{Unbounded, Included, Excluded}
use Rattle.pgw_wire.specs.Cell.{Cell}
use Rattle.pgw_wire.specs.declared.kind.Break.{Break}
use Rattle.pgw_wire.specs.declared.kind.Break.TheVariants.{Size}
use Rattle.pgw_meta.specs.Shape.{Scalar, int4, int8, date, timestamp, timestamptz, numeric, Shape, scalar}
use Rattle.pgw_numeric.specs.Numeric.{not_a_number}
use Rattle.pgw_nested.specs.Range.{Bounds, IsRange, BreaksRange, range_bytes}
use Rattle.pgw_nested.specs.Multirange.{IsMultirange, BreaksMultirange, multirange_bytes}
use Rattle.pgw_nested.specs.RangeReading.{read_range, read_multirange}
use Rattle.pgw_cell.specs.Value.{Value, natural, numeric as numeric_value, range_of, bounds_in, multirange_of, ranges_in}
use Rattle.pgw_cell.specs.Spellings.{Spelling, SpellsAs, read_as, spelling, no_spelling}
use Rattle.pgw_cell.specs.Nulls.{HasCell, SpellsCell, BreaksCell, cell_by, size_by, read_by}
use Rattle.pgw_cell.specs.Arrays.{frames_size}

-- The value of the bound, where it has one, is one of the part.
abbrev pub HasBound : (Value → Type 0) → Bound Value → Type 0
HasBound Has Unbounded = ⊤
HasBound Has (Included v) = Has v
HasBound Has (Excluded v) = Has v

-- the cell that the value of a bound is written as
abbrev pub bound_cell : (Value → List ℕ) → Bound Value → Bound Cell
bound_cell canonical Unbounded = Unbounded
bound_cell canonical (Included v) = Included (Some (canonical v))
bound_cell canonical (Excluded v) = Excluded (Some (canonical v))

abbrev pub bound_cells : (Value → List ℕ) → Bounds Value → Bounds Cell
bound_cells canonical bounds = (bound_cell canonical bounds.0, bound_cell canonical bounds.1)

-- how many bytes its frame has
abbrev pub bound_size : (Value → ℕ) → Bound Value → ℕ
bound_size size Unbounded = 0
bound_size size (Included v) = 4 + size v
bound_size size (Excluded v) = 4 + size v

-- how many bytes the one piece has that a range is written as
abbrev pub range_size : (Value → ℕ) → Bounds Value → ℕ
range_size size bounds = 1 + bound_size size bounds.0 + bound_size size bounds.1

-- how ranges are spelled between bounds of a part, where both bounds of an empty one exclude this value
abbrev pub ranges : Spelling → Value → Spelling
ranges part default = record {
  Has = λ v. (bounds : Bounds Value) × (v ≡ range_of bounds) × HasBound part.Has bounds.0 × HasBound part.Has bounds.1;
  Spells = SpellsAs range_of (IsRange (SpellsCell false part.Spells) default);
  Breaks = BreaksRange (SpellsCell false part.Spells) (BreaksCell false part.Breaks);
  canonical = λ v. range_bytes (bound_cells part.canonical (bounds_in v));
  size = λ v. range_size part.size (bounds_in v);
  read = λ p. read_as range_of (read_range (read_by false part.read) default p);
}

-- how lists of such ranges are spelled
abbrev pub multiranges : Spelling → Spelling
multiranges part = record {
  Has = λ v. (vs : List Value) × (v ≡ multirange_of vs) × AllByRecursion (HasCell false part.Has) vs;
  Spells = SpellsAs multirange_of (IsMultirange (SpellsCell false part.Spells));
  Breaks = BreaksMultirange (SpellsCell false part.Spells) (BreaksCell false part.Breaks);
  canonical = λ v. multirange_bytes (map (cell_by part.canonical) (ranges_in v));
  size = λ v. 4 + frames_size (size_by part.size) (ranges_in v);
  read = λ p. read_as multirange_of (read_multirange (read_by false part.read) p);
}

-- the value that both bounds of an empty range exclude, of each type that PostgreSQL has ranges over
abbrev pub scalar_default : Scalar → Option Value
scalar_default int4 = Some (natural 0)
scalar_default int8 = Some (natural 0)
scalar_default numeric = Some (numeric_value not_a_number)
scalar_default date = Some (natural 0)
scalar_default timestamp = Some (natural 0)
scalar_default timestamptz = Some (natural 0)
scalar_default _ = None

abbrev pub default_of : Shape → Option Value
default_of (scalar s) = scalar_default s
default_of _ = None

-- how the values of a type are spelled that bounds have, which is a scalar type
abbrev pub part_spelling : Shape → Spelling
part_spelling (scalar s) = spelling s
part_spelling _ = no_spelling

abbrev pub ranges_over : Spelling → Option Value → Spelling
ranges_over part None = no_spelling
ranges_over part (Some default) = ranges part default

-- how ranges over a type are spelled
abbrev pub range_spelling : Shape → Spelling
range_spelling t = ranges_over (part_spelling t) (default_of t)

-- how multiranges over a type are spelled
abbrev pub multirange_spelling : Shape → Spelling
multirange_spelling t = multiranges (range_spelling t)

-- What the bounds of a piece are read as: one function beside the others, for the proofs.
abbrev pub bounds_over : Spelling → Option Value → List ℕ → Result (Bounds Value) Break
bounds_over part None p = Err Size
bounds_over part (Some default) p = read_range (read_by false part.read) default p

abbrev pub read_bounds : Shape → List ℕ → Result (Bounds Value) Break
read_bounds t p = bounds_over (part_spelling t) (default_of t) p
