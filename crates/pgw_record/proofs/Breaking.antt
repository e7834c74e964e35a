-- The error with which a record is refused is of the kind in which it breaks, if this is so of its members.
use Rattle.std.proofs.Common.{ℕ, List, ap}
use Rattle.pgw_wire.specs.Cell.{Cell}
use Rattle.pgw_wire.specs.declared.kind.Break.{Break}
use Rattle.pgw_wire.specs.declared.sql_error.SqlError.{SqlError}
use Rattle.pgw_nested.specs.Array.{kind_named}
use Rattle.pgw_record.specs.Record.{no_component, cell_fails, fails_behind, fails_in_front, fails_at_member, RefusesMember, RefusesNone, RefusesRecord, BreaksMember, BreaksNone, BreaksRecord}

pub none_kind : (bytes : List ℕ) (e : SqlError) → RefusesNone bytes e → BreaksNone bytes (kind_named e)
none_kind bytes e h = (h.0, ap kind_named h.1)

module _ (RefuseOthers : List ℕ → SqlError → Type 0) (BreakOthers : List ℕ → Break → Type 0) (others : (bytes : List ℕ) (e : SqlError) → RefuseOthers bytes e → BreakOthers bytes (kind_named e)) where
  pub member_kind : {A : Type 0} (Spell : Cell → A → Type 0) (Refuse : Cell → SqlError → Type 0) (Broken : Break → Cell → Type 0) (kind : (c : Cell) (e : SqlError) → Refuse c e → Broken (kind_named e) c)
      → (bytes : List ℕ) (e : SqlError) → RefusesMember Spell Refuse RefuseOthers bytes e → BreaksMember Spell Broken BreakOthers bytes (kind_named e)
  member_kind Spell Refuse Broken kind bytes e (no_component error h is) = no_component error h (ap kind_named is)
  member_kind Spell Refuse Broken kind bytes e (cell_fails c behind is component h) = cell_fails c behind is component (kind c.cell e h)
  member_kind Spell Refuse Broken kind bytes e (fails_behind c behind v is component s h) = fails_behind c behind v is component s (others behind e h)

  pub record_kind : (count : ℕ) (bytes : List ℕ) (e : SqlError) → RefusesRecord count RefuseOthers bytes e → BreaksRecord count BreakOthers bytes (kind_named e)
  record_kind count bytes e (fails_in_front error h is) = fails_in_front error h (ap kind_named is)
  record_kind count bytes e (fails_at_member rest is h) = fails_at_member rest is (others rest e h)
