-- No piece that is of a numeric is refused by the codec.
use Rattle.std.proofs.Common.{ℕ, List}
use Rattle.pgw_wire.specs.declared.kind.Break.TheVariants.{Size, Sign}
use Rattle.pgw_wire.specs.declared.sql_error.SqlError.{SqlError}
use Rattle.pgw_wire.specs.declared.sql_error.SqlError.TheVariants.{ShortBuffer, InvalidSign}
use Rattle.pgw_scalar.proofs.Readers.{never_both}
use Rattle.pgw_numeric.specs.Numeric.{Numeric, IsNumeric, read_numeric}
use Rattle.pgw_numeric.specs.Refusals.{RefusesNumeric}
use Rattle.pgw_numeric.proofs.Exact.{numeric_exact}

pub no_numeric : (piece : List ℕ) (v : Numeric) (e : SqlError) → IsNumeric piece v → RefusesNumeric piece e → ⊥
no_numeric piece v ShortBuffer is refused = never_both (read_numeric piece) v Size (numeric_exact.reads.again piece v is) (numeric_exact.refuses.refused Size piece refused)
no_numeric piece v (InvalidSign sign) is refused = never_both (read_numeric piece) v Sign (numeric_exact.reads.again piece v is) (numeric_exact.refuses.refused Sign piece refused.0)
no_numeric piece v _ is refused = absurd refused
