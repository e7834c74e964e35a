-- What the fields of ranges and multiranges are read as, as one function each from left to right beside the
-- definitions, for the proofs.
use Rattle.std.specs.Prelude.{if◌then◌else◌, nat_lt, ℕ, Bool, false, unwrap_or}
use Rattle.std.specs.Prelude.{List, [], ◌∷◌, length, drop, Option, None, Some, Result, Ok, Err}
use Rattle.std.specs.declared.ops.Bound.{Bound}
use Rattle.std.specs.declared.ops.Bound.TheVariants.{Included, Excluded, Unbounded}
use Rattle.pgw_wire.specs.Cell.{Cell}
use Rattle.pgw_wire.specs.declared.kind.Break.{Break}
use Rattle.pgw_wire.specs.declared.sql_error.SqlError.{SqlError}
use Rattle.pgw_wire.specs.declared.sql_error.SqlError.TheVariants.{ShortBuffer}
use Rattle.pgw_nested.specs.Array.{kind_named}
use Rattle.pgw_nested.specs.Reading.{◌>>=◌, named, word_at, cell_at, read_cells}
use Rattle.pgw_nested.specs.Flags.{has, empty, lower_included, upper_included, lower_infinite, upper_infinite}
use Rattle.pgw_nested.specs.Range.{Bounds, bound_at, no_value, as_range}

abbrev pub lower_of : Bool → Result (Cell × List ℕ) SqlError → Result (Bound (List ℕ) × List ℕ) SqlError
lower_of included (Ok cell) = Ok (bound_at included (unwrap_or cell.0 []), cell.1)
lower_of included (Err error) = Err (as_range error)

-- the lower bound's piece, and the rest
unfoldable pub lower_at : ℕ → List ℕ → Result (Bound (List ℕ) × List ℕ) SqlError
lower_at flags bytes =
    if has flags lower_infinite then Ok (Unbounded, bytes)
    else lower_of (has flags lower_included) (cell_at false bytes)

-- the upper bound's piece
unfoldable pub upper_at : ℕ → List ℕ → Result (Bound (List ℕ)) SqlError
upper_at flags bytes =
    if has flags upper_infinite then Ok Unbounded
    else if nat_lt (length bytes) 4 then Err ShortBuffer
    else Ok (bound_at (has flags upper_included) (drop 4 bytes))

abbrev pub read_bound : {A E : Type 0} → (Cell → Result A E) → Bound (List ℕ) → Result (Bound A) E
read_bound read Unbounded = Ok Unbounded
read_bound read (Included piece) = read (Some piece) >>= λ v. Ok (Included v)
read_bound read (Excluded piece) = read (Some piece) >>= λ v. Ok (Excluded v)

-- the bounds behind the flags
abbrev pub bounds_behind : {A E : Type 0} → (SqlError → E) → (Cell → Result A E) → ℕ → List ℕ → Result (Bounds A) E
bounds_behind name read flags rest =
    named name (lower_at flags rest) >>= λ l. read_bound read l.0 >>= λ lower.
    named name (upper_at flags l.1) >>= λ u. read_bound read u >>= λ upper. Ok (lower, upper)

unfoldable pub read_range_by : {A E : Type 0} → (SqlError → E) → (Cell → Result A E) → A → List ℕ
    → Result (Bounds A) E
read_range_by name read default [] = Err (name ShortBuffer)
read_range_by name read default (flags ∷ rest) =
    if has flags empty then Ok (no_value default) else bounds_behind name read flags rest

-- the bounds of a range, or the kind in which it breaks
abbrev pub read_range : {A : Type 0} → (Cell → Result A Break) → A → List ℕ → Result (Bounds A) Break
read_range read default bytes = read_range_by kind_named read default bytes

abbrev pub read_counted : {A E : Type 0} → (SqlError → E) → (Cell → Result A E) → Option (ℕ × List ℕ)
    → Result (List A) E
read_counted name read None = Err (name ShortBuffer)
read_counted name read (Some w) = read_cells name read false w.0 w.1 >>= λ x. Ok x.0

abbrev pub read_multirange_by : {A E : Type 0} → (SqlError → E) → (Cell → Result A E) → List ℕ → Result (List A) E
read_multirange_by name read bytes = read_counted name read (word_at bytes)

-- the ranges of a multirange, or the kind in which it breaks
abbrev pub read_multirange : {A : Type 0} → (Cell → Result A Break) → List ℕ → Result (List A) Break
read_multirange read bytes = read_multirange_by kind_named read bytes
