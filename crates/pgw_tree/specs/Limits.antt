-- How much is copied at most.
use Rattle.std.specs.Prelude.{ℕ, refl}
use Rattle.std.specs.Coded.{Coded, code_by, coded×, coded_ℕ}

-- how many rows are copied at most, and of how many bytes a canonical cell is at most
pub record Limits : Type 0 where
  pub rows_max : ℕ
  pub field_max : ℕ

abbrev pub limits_code : Coded Limits
limits_code =
    code_by (ℕ × ℕ) (coded× coded_ℕ coded_ℕ) (λ l. (l.rows_max, l.field_max))
    (λ p. record { rows_max = p.0; field_max = p.1 }) (λ _. refl)

abbrev pub default_limits : Limits
default_limits = record { rows_max = 18446744073709551615; field_max = 2147483647 }
