-- With which error a piece is refused that is of no numeric.
use Rattle.std.specs.Prelude.{◌≡◌, ℕ, List}
use Rattle.pgw_wire.specs.declared.kind.Break.TheVariants.{Size, Sign}
use Rattle.pgw_wire.specs.declared.sql_error.SqlError.{SqlError}
use Rattle.pgw_wire.specs.declared.sql_error.SqlError.TheVariants.{ShortBuffer, InvalidSign}
use Rattle.pgw_numeric.specs.Numeric.{BreaksNumeric, word_at}

-- a piece that has too few bytes, whatever its sign; and one whose sign is none, with the sign
abbrev pub RefusesNumeric : List ℕ → SqlError → Type 0
RefusesNumeric piece ShortBuffer = BreaksNumeric Size piece
RefusesNumeric piece (InvalidSign sign) = BreaksNumeric Sign piece × (sign.0 ≡ word_at 4 piece)
RefusesNumeric piece _ = ⊥
