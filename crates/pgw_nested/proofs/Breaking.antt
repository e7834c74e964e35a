-- The error with which an array is refused is of the kind in which it breaks, if this is so of its elements.
use Rattle.std.proofs.Common.{ℕ, Bool, List, ap}
use Rattle.pgw_wire.specs.Cell.{Cell}
use Rattle.pgw_wire.specs.declared.kind.Break.{Break}
use Rattle.pgw_wire.specs.declared.sql_error.SqlError.{SqlError}
use Rattle.pgw_nested.specs.Array.{Elements, FailsBehind, NextFails, no_frame, cell_fails, fails_in_front, fails_behind, RefusesArray, kind_named, BreaksArray}

module _ {A : Type 0} (Spell : Cell → A → Type 0) (Refuse : Cell → SqlError → Type 0) (Broken : Break → Cell → Type 0) (kind : (c : Cell) (e : SqlError) → Refuse c e → Broken (kind_named e) c) where
  next_breaks : (nulls : Bool) (bytes : List ℕ) (e : SqlError) → NextFails (λ error. error) Refuse nulls bytes e → NextFails kind_named (λ c k. Broken k c) nulls bytes (kind_named e)
  next_breaks nulls bytes e (no_frame error h is) = no_frame error h (ap kind_named is)
  next_breaks nulls bytes e (cell_fails c behind is framed h) = cell_fails c behind is framed (kind c e h)

  pub behind_breaks : (elements : Elements) (e : SqlError) → FailsBehind (λ error. error) Spell Refuse elements e → FailsBehind kind_named Spell (λ c k. Broken k c) elements (kind_named e)
  behind_breaks elements e f = record {
    cells = f.cells;
    values = f.values;
    behind = f.behind;
    fewer = f.fewer;
    framed = f.framed;
    is = f.is;
    spelled = f.spelled;
    next = next_breaks elements.nulls f.behind e f.next;
  }

  pub array_kind : (bytes : List ℕ) (e : SqlError) → RefusesArray Spell Refuse bytes e → BreaksArray Spell Broken (kind_named e) bytes
  array_kind bytes e (fails_in_front error h is) = fails_in_front error h (ap kind_named is)
  array_kind bytes e (fails_behind elements begins f) = fails_behind elements begins (behind_breaks elements e f)
