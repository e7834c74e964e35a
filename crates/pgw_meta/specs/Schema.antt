-- Which types the columns of a schema may have, and the first fault of columns that may not be one.
use Rattle.std.specs.Prelude.{ℕ, suc, ◌+◌, ◌≤◌, ◌==◌, max, Bool, true, false, nat_lt, List, [], ◌∷◌, ◌++◌, length, Option, Some, None, IsTrue, IsFalse, ⊤, if◌then◌else◌}
use Rattle.std.specs.Option.{option_or}
use Rattle.std.specs.List.{AllByRecursion}
use Rattle.pgw_meta.specs.Shape.{Scalar, int4, int8, date, timestamp, timestamptz, numeric, text, Shape, scalar, nullable, array, range, multirange, composite, named, Shapes, no_shapes, shape_then, count_shapes}
use Rattle.pgw_meta.specs.declared.schema.SchemaError.{SchemaError}
use Rattle.pgw_meta.specs.declared.schema.SchemaError.TheVariants.{NoColumns, TooManyColumns, NestedNullable, NestedArray, BadRange, EmptyRecord, WideRecord, BadNamed, TooDeep, NoMemory}

abbrev pub is_nullable : Shape → Bool
is_nullable (nullable t) = true
is_nullable _ = false

abbrev pub is_array : Shape → Bool
is_array (array t) = true
is_array _ = false

-- the type that is left where a `nullable` around it is taken off
abbrev pub without_null : Shape → Shape
without_null (nullable t) = t
without_null t = t

abbrev pub is_text : Scalar → Bool
is_text text = true
is_text _ = false

-- PostgreSQL has ranges over it.
abbrev pub is_bound : Scalar → Bool
is_bound int4 = true
is_bound int8 = true
is_bound numeric = true
is_bound date = true
is_bound timestamp = true
is_bound timestamptz = true
is_bound _ = false

abbrev pub has_ranges : Shape → Bool
has_ranges (scalar s) = is_bound s
has_ranges _ = false

-- A named type may have its values.
abbrev pub may_be_named : Shape → Bool
may_be_named (scalar s) = is_text s
may_be_named (composite ts) = true
may_be_named _ = false

-- how many types stand one in the other, from this one to the innermost
abbrev mutual
  pub depth_of : Shape → ℕ
  depth_of (scalar s) = 1
  depth_of (nullable t) = suc (depth_of t)
  depth_of (array t) = suc (depth_of t)
  depth_of (range t) = suc (depth_of t)
  depth_of (multirange t) = suc (depth_of t)
  depth_of (composite ts) = suc (greatest_depth ts)
  depth_of (named k t) = suc (depth_of t)

  pub greatest_depth : Shapes → ℕ
  greatest_depth no_shapes = 0
  greatest_depth (shape_then t ts) = max (depth_of t) (greatest_depth ts)

-- It and each type in it has a part, or parts, that it may have.
abbrev mutual
  pub IsWellFormed : Shape → Type 0
  IsWellFormed (scalar s) = ⊤
  IsWellFormed (nullable t) = IsFalse (is_nullable t) × IsWellFormed t
  IsWellFormed (array t) = IsFalse (is_array (without_null t)) × IsWellFormed t
  IsWellFormed (range t) = IsTrue (has_ranges t) × IsWellFormed t
  IsWellFormed (multirange t) = IsTrue (has_ranges t) × IsWellFormed t
  IsWellFormed (composite ts) = (1 ≤ count_shapes ts) × (count_shapes ts ≤ 32767) × AreWellFormed ts
  IsWellFormed (named k t) = IsTrue (may_be_named t) × IsWellFormed t

  pub AreWellFormed : Shapes → Type 0
  AreWellFormed no_shapes = ⊤
  AreWellFormed (shape_then t ts) = IsWellFormed t × AreWellFormed ts

pub record IsValidColumn (t : Shape) : Type 0 where
  pub shallow : depth_of t ≤ 32
  pub formed : IsWellFormed t

-- These may be the types of the columns of a stream.
pub record IsValidSchema (columns : List Shape) : Type 0 where
  pub some : 1 ≤ length columns
  pub few : length columns ≤ 32767
  pub each : AllByRecursion IsValidColumn columns

-- a type in a column, and the depth that it stands at, which is 1 for the type of the column itself
pub record Placed : Type 0 where
  pub depth : ℕ
  pub tree : Shape

-- a type at a depth, and all that stand in it, each before its parts
abbrev mutual
  pub walk : ℕ → Shape → List Placed
  walk d (scalar s) = record { depth = d; tree = scalar s } ∷ []
  walk d (nullable t) = record { depth = d; tree = nullable t } ∷ walk (d + 1) t
  walk d (array t) = record { depth = d; tree = array t } ∷ walk (d + 1) t
  walk d (range t) = record { depth = d; tree = range t } ∷ walk (d + 1) t
  walk d (multirange t) = record { depth = d; tree = multirange t } ∷ walk (d + 1) t
  walk d (composite ts) = record { depth = d; tree = composite ts } ∷ walk_parts (d + 1) ts
  walk d (named k t) = record { depth = d; tree = named k t } ∷ walk (d + 1) t

  pub walk_parts : ℕ → Shapes → List Placed
  walk_parts d no_shapes = []
  walk_parts d (shape_then t ts) = walk d t ++ walk_parts d ts

-- what is wrong with a record of so many components
abbrev pub width_fault : ℕ → ℕ → Option SchemaError
width_fault column n =
    if n == 0 then Some (EmptyRecord column) else if nat_lt 32767 n then Some (WideRecord column) else None

-- what is wrong with the part of a type in this column, or with how many components it has
abbrev pub part_fault : ℕ → Shape → Option SchemaError
part_fault column (scalar s) = None
part_fault column (nullable t) = if is_nullable t then Some (NestedNullable column) else None
part_fault column (array t) = if is_array (without_null t) then Some (NestedArray column) else None
part_fault column (range t) = if has_ranges t then None else Some (BadRange column)
part_fault column (multirange t) = if has_ranges t then None else Some (BadRange column)
part_fault column (composite ts) = width_fault column (count_shapes ts)
part_fault column (named k t) = if may_be_named t then None else Some (BadNamed column)

-- the fault of one type, that it stands too deep before all others
abbrev pub fault_at : ℕ → Placed → Option SchemaError
fault_at column p = if nat_lt 32 p.depth then Some (TooDeep column) else part_fault column p.tree

abbrev pub first_fault : ℕ → List Placed → Option SchemaError
first_fault column [] = None
first_fault column (p ∷ ps) = option_or (fault_at column p) (first_fault column ps)

-- the first fault of columns that are counted from this number
abbrev pub columns_fault : ℕ → List Shape → Option SchemaError
columns_fault column [] = None
columns_fault column (t ∷ ts) = option_or (first_fault column (walk 1 t)) (columns_fault (column + 1) ts)

-- The first fault of the columns of a schema: that there is none, that there are too many, or that of the first type
-- that has one.
abbrev pub schema_fault : List Shape → Option SchemaError
schema_fault columns =
    if length columns == 0 then Some NoColumns
    else if nat_lt 32767 (length columns) then Some TooManyColumns
    else columns_fault 0 columns

abbrev pub fault_number : SchemaError → ℕ
fault_number NoColumns = 1
fault_number TooManyColumns = 2
fault_number (NestedNullable column) = 3
fault_number (NestedArray column) = 4
fault_number (BadRange column) = 5
fault_number (EmptyRecord column) = 6
fault_number (WideRecord column) = 7
fault_number (BadNamed column) = 8
fault_number (TooDeep column) = 9
fault_number NoMemory = 10
