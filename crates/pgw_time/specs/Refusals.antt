-- With which error a piece is refused that is of no interval.
use Rattle.std.specs.Prelude.{◌≡◌, ◌<◌, if◌then◌else◌, nat_lt, ℕ, List, length}
use Rattle.pgw_wire.specs.declared.sql_error.SqlError.{SqlError}
use Rattle.pgw_wire.specs.declared.sql_error.SqlError.TheVariants.{ShortValue}

-- The numbers of an interval end at 8, 12 and 16. Of a piece that has fewer than 16 bytes, the first of these that is more
-- than it has.
abbrev pub number_end : ℕ → ℕ
number_end have = if nat_lt have 8 then 8 else if nat_lt have 12 then 12 else 16

-- a piece of fewer than 16 bytes, with how many it has
abbrev pub RefusesInterval : List ℕ → SqlError → Type 0
RefusesInterval piece e = (length piece < 16) × (e ≡ ShortValue (length piece) (number_end (length piece)))
