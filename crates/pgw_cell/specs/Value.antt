-- The values of columns as plain data, without how a program keeps them.
use Rattle.std.specs.Prelude.{ℕ, ℤ, pos, Bool, List, [], ◌∷◌}
use Rattle.std.specs.declared.ops.Bound.{Bound}
use Rattle.std.specs.declared.ops.Bound.TheVariants.{Unbounded, Included, Excluded}
use Rattle.pgw_scalar.specs.Networks.{Network}
use Rattle.pgw_time.specs.Interval.{Interval}
use Rattle.pgw_numeric.specs.Numeric.{Numeric}
use Rattle.pgw_nested.specs.Range.{Bounds}

mutual
  -- a string is the bytes of its UTF-8
  pub data Value : Type 0 where
    null : Value
    truth : Bool → Value
    number : ℤ → Value
    bytes : List ℕ → Value
    string : List ℕ → Value
    network : Network → Value
    interval : Interval → Value
    numeric : Numeric → Value
    list : Values → Value
    range : BoundValue → BoundValue → Value
    multirange : Values → Value

  -- a bound of a range
  pub data BoundValue : Type 0 where
    unbounded : BoundValue
    included : Value → BoundValue
    excluded : Value → BoundValue

  -- the elements of an array, or the ranges of a multirange
  pub data Values : Type 0 where
    no_values : Values
    value_then : Value → Values → Values

-- a number without a sign
abbrev pub natural : ℕ → Value
natural n = number (pos n)

abbrev pub values : List Value → Values
values [] = no_values
values (v ∷ vs) = value_then v (values vs)

-- the array of these elements
abbrev pub list_of : List Value → Value
list_of vs = list (values vs)

abbrev pub listed : Values → List Value
listed no_values = []
listed (value_then v vs) = v ∷ listed vs

-- the elements of an array, and none of any other value
abbrev pub elements : Value → List Value
elements (list vs) = listed vs
elements _ = []

-- the multirange of these ranges
abbrev pub multirange_of : List Value → Value
multirange_of vs = multirange (values vs)

-- the ranges of a multirange, and none of any other value
abbrev pub ranges_in : Value → List Value
ranges_in (multirange vs) = listed vs
ranges_in _ = []

-- a bound of a range, and back
abbrev pub bound_value : Bound Value → BoundValue
bound_value Unbounded = unbounded
bound_value (Included v) = included v
bound_value (Excluded v) = excluded v

abbrev pub bound_in : BoundValue → Bound Value
bound_in unbounded = Unbounded
bound_in (included v) = Included v
bound_in (excluded v) = Excluded v

-- the range between these bounds
abbrev pub range_of : Bounds Value → Value
range_of bounds = range (bound_value bounds.0) (bound_value bounds.1)

-- the bounds of a range, and none of any other value
abbrev pub bounds_in : Value → Bounds Value
bounds_in (range lower upper) = (bound_in lower, bound_in upper)
bounds_in _ = (Unbounded, Unbounded)
