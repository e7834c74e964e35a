-- The error with which a range or a multirange is refused is of the kind in which it breaks, if this is so of its parts.
use Rattle.std.proofs.Common.{ℕ, List, Some, ap}
use Rattle.pgw_wire.specs.Cell.{Cell}
use Rattle.pgw_wire.specs.declared.kind.Break.{Break}
use Rattle.pgw_wire.specs.declared.sql_error.SqlError.{SqlError}
use Rattle.pgw_nested.specs.Array.{kind_named}
use Rattle.pgw_nested.specs.Range.{FailsLower, no_lower_piece, lower_fails, FailsUpper, no_upper_piece, upper_fails, no_flags, fails_at_lower, fails_at_upper, RefusesRange, BreaksRange}
use Rattle.pgw_nested.specs.Multirange.{no_count, fails_at_range, RefusesMultirange, BreaksMultirange}
use Rattle.pgw_nested.proofs.Breaking.{behind_breaks}

module _ {A : Type 0} (Spell : Cell → A → Type 0) (Refuse : Cell → SqlError → Type 0) (Broken : Break → Cell → Type 0) (kind : (c : Cell) (e : SqlError) → Refuse c e → Broken (kind_named e) c) where
  lower_breaks : (flags : ℕ) (bytes : List ℕ) (e : SqlError) → FailsLower (λ error. error) Refuse flags bytes e → FailsLower kind_named (λ c k. Broken k c) flags bytes (kind_named e)
  lower_breaks flags bytes e (no_lower_piece error infinite h is) = no_lower_piece error infinite h (ap kind_named is)
  lower_breaks flags bytes e (lower_fails p behind infinite few is f) = lower_fails p behind infinite few is (kind (Some p) e f)

  upper_breaks : (flags : ℕ) (bytes : List ℕ) (e : SqlError) → FailsUpper (λ error. error) Refuse flags bytes e → FailsUpper kind_named (λ c k. Broken k c) flags bytes (kind_named e)
  upper_breaks flags bytes e (no_upper_piece infinite few is) = no_upper_piece infinite few (ap kind_named is)
  upper_breaks flags bytes e (upper_fails word p infinite four is f) = upper_fails word p infinite four is (kind (Some p) e f)

  pub range_kind : (bytes : List ℕ) (e : SqlError) → RefusesRange Spell Refuse bytes e → BreaksRange Spell Broken (kind_named e) bytes
  range_kind bytes e (no_flags none is) = no_flags none (ap kind_named is)
  range_kind bytes e (fails_at_lower flags rest is some f) = fails_at_lower flags rest is some (lower_breaks flags rest e f)
  range_kind bytes e (fails_at_upper flags rest behind lower value is some l s f) = fails_at_upper flags rest behind lower value is some l s (upper_breaks flags behind e f)

  pub multirange_kind : (bytes : List ℕ) (e : SqlError) → RefusesMultirange Spell Refuse bytes e → BreaksMultirange Spell Broken (kind_named e) bytes
  multirange_kind bytes e (no_count few is) = no_count few (ap kind_named is)
  multirange_kind bytes e (fails_at_range ranges begins f) = fails_at_range ranges begins (behind_breaks Spell Refuse Broken kind ranges e f)
