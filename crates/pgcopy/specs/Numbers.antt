-- The numbers that words write.
use Rattle.std.specs.Prelude.{ℕ, ◌&&◌, List, length, Bool, nat_lt, nat_le, Option, Some, None, if◌then◌else◌}
use Rattle.std.specs.Str.{all_ascii_digits}
use Rattle.std.specs.Str.Parse.{digits_value}

-- one or more decimal digits, of a number of at most `most`
abbrev pub is_number : ℕ → List ℕ → Bool
is_number most digits = nat_lt 0 (length digits) && all_ascii_digits digits && nat_le (digits_value 10 digits) most

-- the number that such digits write
abbrev pub read_number : ℕ → List ℕ → Option ℕ
read_number most digits = if is_number most digits then Some (digits_value 10 digits) else None
