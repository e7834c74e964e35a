-- The three numbers and what stands behind them are the piece.
use Rattle.std.proofs.Common.{◌++◌, w32, w64, sym, ap, ◌∙◌, subst}
use Rattle.std.proofs.lemmas.Int.{to_z-of_z}
use Rattle.pgw_scalar.specs.Whole.{signed_bytes}
use Rattle.pgw_time.specs.Interval.{IsInterval, interval_of}
use Rattle.pgw_time.specs.declared.interval.PgInterval.{PgInterval}
use Rattle.pgw_time.proofs.interval.PgIntervalFromSqlInterval.from_sql.Goals as goal

pub returns-in-Some-take_i32-2 : goal.returns-in-Some-take_i32-2
returns-in-Some-take_i32-2 c =
    let microseconds = c.in-Some.microseconds in
    let days = c.in-Some-take_i32.days in
    let months = c.in-Some-take_i32-2.months in
    let first = c.in-Some.ensures in
    let second = c.in-Some-take_i32.ensures in
    let third = c.in-Some-take_i32-2.ensures in
    let piece = c.args.value.raw_value.now in
    let is : IsInterval piece (record { microseconds = microseconds; days = days; months = months }) = record {
      rest = c.in-Some-take_i32-2.field-0-1.now;
      fits = record { microseconds = first.range; days = second.range; months = third.range };
      is = sym c.as_bytes-bytes.ensures ∙ (first.number ∙ ap (λ l. signed_bytes w64 microseconds ++ l) (second.number ∙ ap (λ l. signed_bytes w32 days ++ l) third.number));
    } in
    subst (λ (v : PgInterval). IsInterval piece (interval_of v)) (sym c.new.ensures)
    (rw (to_z-of_z w64 microseconds first.range, to_z-of_z w32 days second.range, to_z-of_z w32 months third.range) is)
