-- What the definitions of fields say of single pieces: of which value a piece is, and of which it is none. Dates, times
-- and timestamps are whole numbers, days or microseconds from the midnight on that begins 2000-01-01.
use Rattle.std.proofs.Common.{◌≡◌, ℤ, pos, negsuc, [], ◌∷◌, length, get_or, Ok, Err, refl, ap, arith, lit<}
use Rattle.std.specs.Int.{w32, w64}
use Rattle.pgw_wire.specs.declared.kind.Break.TheVariants.{Size}
use Rattle.pgw_wire.specs.declared.sql_error.SqlError.TheVariants as error
use Rattle.pgw_scalar.specs.Whole.{IsSigned, signed_bytes}
use Rattle.pgw_scalar.specs.Refusals.{RefusesSize}
use Rattle.pgw_time.specs.Interval.{Interval, IsInterval, BreaksInterval, interval_bytes, read_interval}
use Rattle.pgw_time.specs.Refusals.{RefusesInterval, number_end}

-- date: 1970-01-01, which is 10957 days before 2000-01-01, and no day after it
pub day_1970 : IsSigned w32 (255 ∷ 255 ∷ 213 ∷ 51 ∷ []) (negsuc 10956)
day_1970 = record { fits = record { sfits = lit< tt }; bytes = refl }

pub not_unsigned : IsSigned w32 (255 ∷ 255 ∷ 213 ∷ 51 ∷ []) (pos 4294956339) → ⊥
not_unsigned h = omega (arith, h.fits.sfits)

pub day_1970_written : signed_bytes w32 (negsuc 10956) ≡ 255 ∷ 255 ∷ 213 ∷ 51 ∷ []
day_1970_written = refl

pub five_bytes_refused : RefusesSize 4 (255 ∷ 255 ∷ 213 ∷ 51 ∷ 0 ∷ []) (error.WrongSize 4 5)
five_bytes_refused = (λ e. omega (arith, e), refl)

-- time: the last microsecond of a day
pub last_microsecond : IsSigned w64 (0 ∷ 0 ∷ 0 ∷ 20 ∷ 29 ∷ 215 ∷ 95 ∷ 255 ∷ []) (pos 86399999999)
last_microsecond = record { fits = record { sfits = lit< tt }; bytes = refl }

-- timestamp and timestamptz: the midnight that begins 1970-01-01. One byte more, and it is none.
pub epoch : IsSigned w64 (255 ∷ 252 ∷ 162 ∷ 254 ∷ 196 ∷ 200 ∷ 32 ∷ 0 ∷ []) (negsuc 946684799999999)
epoch = record { fits = record { sfits = lit< tt }; bytes = refl }

pub nine_are_no_timestamp : (n : ℤ) → IsSigned w64 (255 ∷ 252 ∷ 162 ∷ 254 ∷ 196 ∷ 200 ∷ 32 ∷ 0 ∷ 0 ∷ []) n → ⊥
nine_are_no_timestamp n h = omega (arith, ap length h.bytes)

pub epoch_written : signed_bytes w64 (negsuc 946684799999999) ≡ 255 ∷ 252 ∷ 162 ∷ 254 ∷ 196 ∷ 200 ∷ 32 ∷ 0 ∷ []
epoch_written = refl

-- interval: 2 months and 60.123456 seconds, with and without bytes behind; and all bits of the microseconds, with the
-- greatest number of days and the least of months
pub two_months : IsInterval (0 ∷ 0 ∷ 0 ∷ 0 ∷ 3 ∷ 149 ∷ 105 ∷ 64 ∷ 0 ∷ 0 ∷ 0 ∷ 0 ∷ 0 ∷ 0 ∷ 0 ∷ 2 ∷ []) (record { microseconds = pos 60123456; days = pos 0; months = pos 2 })
two_months = record { rest = []; fits = record { microseconds = record { sfits = lit< tt }; days = record { sfits = lit< tt }; months = record { sfits = lit< tt } }; is = refl }

pub with_bytes_behind : IsInterval (0 ∷ 0 ∷ 0 ∷ 0 ∷ 3 ∷ 149 ∷ 105 ∷ 64 ∷ 0 ∷ 0 ∷ 0 ∷ 0 ∷ 0 ∷ 0 ∷ 0 ∷ 2 ∷ 170 ∷ 187 ∷ []) (record { microseconds = pos 60123456; days = pos 0; months = pos 2 })
with_bytes_behind = record { rest = 170 ∷ 187 ∷ []; fits = record { microseconds = record { sfits = lit< tt }; days = record { sfits = lit< tt }; months = record { sfits = lit< tt } }; is = refl }

pub two_months_written : interval_bytes (record { microseconds = pos 60123456; days = pos 0; months = pos 2 }) ≡ 0 ∷ 0 ∷ 0 ∷ 0 ∷ 3 ∷ 149 ∷ 105 ∷ 64 ∷ 0 ∷ 0 ∷ 0 ∷ 0 ∷ 0 ∷ 0 ∷ 0 ∷ 2 ∷ []
two_months_written = refl

pub two_months_read : read_interval (0 ∷ 0 ∷ 0 ∷ 0 ∷ 3 ∷ 149 ∷ 105 ∷ 64 ∷ 0 ∷ 0 ∷ 0 ∷ 0 ∷ 0 ∷ 0 ∷ 0 ∷ 2 ∷ 170 ∷ 187 ∷ []) ≡ Ok (record { microseconds = pos 60123456; days = pos 0; months = pos 2 })
two_months_read = refl

pub ends_of_days_and_months : IsInterval (255 ∷ 255 ∷ 255 ∷ 255 ∷ 255 ∷ 255 ∷ 255 ∷ 255 ∷ 127 ∷ 255 ∷ 255 ∷ 255 ∷ 128 ∷ 0 ∷ 0 ∷ 0 ∷ []) (record { microseconds = negsuc 0; days = pos 2147483647; months = negsuc 2147483647 })
ends_of_days_and_months = record { rest = []; fits = record { microseconds = record { sfits = lit< tt }; days = record { sfits = lit< tt }; months = record { sfits = lit< tt } }; is = refl }

-- The microseconds stand in front, and the days in front of the months.
pub not_days_in_front : (n : ℤ) → IsInterval (0 ∷ 0 ∷ 0 ∷ 0 ∷ 3 ∷ 149 ∷ 105 ∷ 64 ∷ 0 ∷ 0 ∷ 0 ∷ 0 ∷ 0 ∷ 0 ∷ 0 ∷ 2 ∷ []) (record { microseconds = n; days = pos 0; months = pos 60123456 }) → ⊥
not_days_in_front n h = omega (arith, ap (λ l. get_or l 15 0) h.is)

pub not_months_in_front : (n : ℤ) → IsInterval (0 ∷ 0 ∷ 0 ∷ 0 ∷ 3 ∷ 149 ∷ 105 ∷ 64 ∷ 0 ∷ 0 ∷ 0 ∷ 0 ∷ 0 ∷ 0 ∷ 0 ∷ 2 ∷ []) (record { microseconds = n; days = pos 2; months = pos 0 }) → ⊥
not_months_in_front n h = omega (arith, ap (λ l. get_or l 15 0) h.is)

pub fifteen_are_none : (x : Interval) → IsInterval (0 ∷ 0 ∷ 0 ∷ 0 ∷ 3 ∷ 149 ∷ 105 ∷ 64 ∷ 0 ∷ 0 ∷ 0 ∷ 0 ∷ 0 ∷ 0 ∷ 0 ∷ []) x → ⊥
fifteen_are_none x h = omega (arith, ap length h.is)

pub fifteen_break : BreaksInterval Size (0 ∷ 0 ∷ 0 ∷ 0 ∷ 3 ∷ 149 ∷ 105 ∷ 64 ∷ 0 ∷ 0 ∷ 0 ∷ 0 ∷ 0 ∷ 0 ∷ 0 ∷ [])
fifteen_break = (refl, lit< tt)

pub fifteen_read : read_interval (0 ∷ 0 ∷ 0 ∷ 0 ∷ 3 ∷ 149 ∷ 105 ∷ 64 ∷ 0 ∷ 0 ∷ 0 ∷ 0 ∷ 0 ∷ 0 ∷ 0 ∷ []) ≡ Err Size
fifteen_read = refl

pub sixteen_do_not_break : BreaksInterval Size (0 ∷ 0 ∷ 0 ∷ 0 ∷ 3 ∷ 149 ∷ 105 ∷ 64 ∷ 0 ∷ 0 ∷ 0 ∷ 0 ∷ 0 ∷ 0 ∷ 0 ∷ 2 ∷ []) → ⊥
sixteen_do_not_break h = omega (arith, h.1)

-- A piece is refused with the place where the number ends in which it ends.
pub four_refused : RefusesInterval (0 ∷ 0 ∷ 0 ∷ 0 ∷ []) (error.ShortValue 4 8)
four_refused = (lit< tt, refl)

pub nine_refused : RefusesInterval (0 ∷ 0 ∷ 0 ∷ 0 ∷ 0 ∷ 0 ∷ 0 ∷ 0 ∷ 0 ∷ []) (error.ShortValue 9 12)
nine_refused = (lit< tt, refl)

pub thirteen_refused : RefusesInterval (0 ∷ 0 ∷ 0 ∷ 0 ∷ 0 ∷ 0 ∷ 0 ∷ 0 ∷ 0 ∷ 0 ∷ 0 ∷ 0 ∷ 0 ∷ []) (error.ShortValue 13 16)
thirteen_refused = (lit< tt, refl)

pub where_numbers_end : (number_end 0 ≡ 8) × (number_end 7 ≡ 8) × (number_end 8 ≡ 12) × (number_end 11 ≡ 12) × (number_end 12 ≡ 16) × (number_end 15 ≡ 16)
where_numbers_end = (refl, refl, refl, refl, refl, refl)
