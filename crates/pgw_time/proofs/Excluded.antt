-- No piece that is of an interval is refused by its codec. Of the other types, whose fields are whole numbers, the proofs
-- stand beside their definition.
use Rattle.std.proofs.Common.{ℕ, List, length, ap, arith}
use Rattle.pgw_wire.specs.declared.sql_error.SqlError.{SqlError}
use Rattle.pgw_time.specs.Interval.{Interval, IsInterval}
use Rattle.pgw_time.specs.Refusals.{RefusesInterval}

pub no_interval : (piece : List ℕ) (x : Interval) (e : SqlError) → IsInterval piece x → RefusesInterval piece e → ⊥
no_interval piece x e is refused = omega (arith, ap length is.is, refused.0)
