-- Where a reader stands: the count of a row whose fields are still to be read, and whether it reads no more.
use Rattle.std.specs.Prelude.{ℕ, List, Option, None, Some, Bool, false, true, is_none, refl}
use Rattle.std.specs.Coded.{Coded, code_by, coded×, coded_option, coded_ℕ, coded_bool}
use Rattle.pgw_wire.specs.Cell.{Cell}
use Rattle.pgw_copy.specs.declared.row.RawRow.{RawRow}
use Rattle.pgw_copy.specs.declared.reader.State.{State}
use Rattle.pgw_copy.specs.declared.reader.State.TheVariants.{Ready, Pending, Over}

abbrev pub pending_in : State → Option ℕ
pending_in Ready = None
pending_in (Pending count) = Some count
pending_in Over = None

abbrev pub is_over_in : State → Bool
is_over_in Ready = false
is_over_in (Pending count) = false
is_over_in Over = true

-- what contracts see of a reader
pub record ReaderState : Type 0 where
  pub pending : Option ℕ
  pub over : Bool

abbrev pub reader_state_code : Coded ReaderState
reader_state_code =
    code_by (Option ℕ × Bool) (coded× (coded_option coded_ℕ) coded_bool) (λ r. (r.pending, r.over))
    (λ p. record { pending = p.0; over = p.1 }) (λ _. refl)

-- nothing is pending, and it reads on
abbrev pub ready : ReaderState
ready = record { pending = None; over = false }

-- nothing is pending, and it reads no more
abbrev pub ended : ReaderState
ended = record { pending = None; over = true }

-- Behind the count of a row that is pending, and behind the end it reads no more.
abbrev pub behind_count : Option ℕ → ReaderState
behind_count count = record { pending = count; over = is_none count }

-- the cells of a row that is lent
abbrev pub cells_of : RawRow → List Cell
cells_of r = r.row.now.cells

-- and its bytes as they were taken: its count and its fields
abbrev pub bytes_of : RawRow → List ℕ
bytes_of r = r.row.now.bytes
