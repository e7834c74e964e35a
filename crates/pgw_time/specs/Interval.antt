-- The field of an interval: the microseconds, the days and the months, each in two's complement and the most
-- significant byte first. What stands behind these 16 bytes is ignored.
use Rattle.std.specs.Prelude.{◌≡◌, ◌<◌, ◌++◌, if◌then◌else◌, nat_lt, ℕ, ℤ, FitsSigned}
use Rattle.std.specs.Prelude.{List, length, take, drop, Result, Ok, Err}
use Rattle.std.specs.Int.{w32, w64, from_be_bytes, cast_signed}
use Rattle.pgw_wire.specs.declared.kind.Break.{Break}
use Rattle.pgw_wire.specs.declared.kind.Break.TheVariants.{Size}
use Rattle.pgw_scalar.specs.Whole.{signed_bytes}
use Rattle.pgw_time.specs.declared.interval.PgInterval.{PgInterval}

-- the three numbers of an interval
pub record Interval : Type 0 where
  pub microseconds : ℤ
  pub days : ℤ
  pub months : ℤ

-- Each number fits its bits.
pub record FitsInterval (x : Interval) : Type 0 where
  pub microseconds : FitsSigned w64 x.microseconds
  pub days : FitsSigned w32 x.days
  pub months : FitsSigned w32 x.months

-- the 16 bytes that an interval is written as
abbrev pub interval_bytes : Interval → List ℕ
interval_bytes x = signed_bytes w64 x.microseconds ++ signed_bytes w32 x.days ++ signed_bytes w32 x.months

-- The piece begins with the bytes of this interval.
pub record IsInterval (piece : List ℕ) (x : Interval) : Type 0 where
  pub rest : List ℕ
  pub fits : FitsInterval x
  pub is : piece ≡ interval_bytes x ++ rest

-- A piece of fewer bytes is of no interval.
abbrev pub BreaksInterval : Break → List ℕ → Type 0
BreaksInterval kind piece = (kind ≡ Size) × (length piece < 16)

-- what the first 16 bytes of a piece say
abbrev pub first_interval : List ℕ → Interval
first_interval piece = record {
  microseconds = cast_signed w64 (from_be_bytes w64 (take 8 piece));
  days = cast_signed w32 (from_be_bytes w32 (take 4 (drop 8 piece)));
  months = cast_signed w32 (from_be_bytes w32 (take 4 (drop 12 piece)));
}

-- What a piece is read as, as one function, for the proofs.
abbrev pub read_interval : List ℕ → Result Interval Break
read_interval piece = if nat_lt (length piece) 16 then Err Size else Ok (first_interval piece)

-- the numbers of a value of the program
abbrev pub interval_of : PgInterval → Interval
interval_of v = record { microseconds = v.microseconds; days = v.days; months = v.months }
