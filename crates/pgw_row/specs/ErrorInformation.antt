-- The position of an error in a statement, by its text.
use Rattle.std.specs.Prelude.{◌≡◌, ℕ, ℤ, List, Option, None, Some, FitsSigned}
use Rattle.std.specs.Int.{w32}
use Rattle.std.specs.Str.Parse.{IsNumeral, without_leading_sign, signed_digits_value}

-- A text says this position: decimal digits, at least one, behind a sign or none, of a number of 32 bits with a sign.
abbrev pub SaysPosition : Option (List ℕ) → ℤ → Type 0
SaysPosition None n = ⊥
SaysPosition (Some text) n =
    IsNumeral 10 (without_leading_sign text) × (n ≡ signed_digits_value 10 text) × FitsSigned w32 n
