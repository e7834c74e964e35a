-- The flags of a range, the first byte of its field. What its other bits are does not count.
use Rattle.std.specs.Prelude.{◌==◌, ℕ, Bool, bit_and}

-- The range has no value.
abbrev pub empty : ℕ
empty = 1

-- The lower bound is a value of the range, and so is the upper.
abbrev pub lower_included : ℕ
lower_included = 2

abbrev pub upper_included : ℕ
upper_included = 4

-- There is no lower bound, and no upper.
abbrev pub lower_infinite : ℕ
lower_infinite = 8

abbrev pub upper_infinite : ℕ
upper_infinite = 16

-- whether the bit is set in the flags
unfoldable pub has : ℕ → ℕ → Bool
has flags bit = bit_and flags bit == bit
