-- What each answer of a copy says of the bytes that were taken, and of those that were written. What is written of
-- rows is an argument, `form`: their bytes, from the header through the last of them.
use Rattle.std.specs.Prelude.{◌≡◌, ◌⊎◌, ℕ, ℤ, ◌<◌, ◌≤◌, List, [], ◌∷◌, ◌++◌, length, Some}
use Rattle.pgw_wire.specs.Cell.{Cell}
use Rattle.pgw_wire.specs.Outside.{WroteFront}
use Rattle.pgw_wire.specs.declared.kind.Break.{Break}
use Rattle.pgw_copy.specs.Format.{IsHeader, IsCutHeader, IsCount, IsRow, IsCutRow, trailer}
use Rattle.pgw_copy.specs.Reader.{IsBadHeader, HasHighFlags, IsBadCount, IsWholeRow}
use Rattle.pgw_tree.specs.declared.fault.CopyFault.{CopyFault}
use Rattle.pgw_tree.specs.declared.fault.CopyFault.TheVariants.{BadHeader, BadFlags, Truncated, BadFieldCount, UnexpectedEndOfRow, BadValue, TooLong, RowLimit, ReadFault, WriteFault, NoMemory}
use Rattle.pgw_meta.specs.Shape.{Shape}
use Rattle.pgw_meta.specs.declared.found_oids.Found.{Found}
use Rattle.pgw_cell.specs.Value.{Value}
use Rattle.pgw_tree.specs.Columns.{BreaksAt, IsLongAt}
use Rattle.pgw_tree.specs.Stream.{IsFront, IsWithin, IsStream, IsStreamOf}
use Rattle.pgw_tree.specs.Limits.{Limits}
use Rattle.pgw_tree.specs.Lookups.{IsLookupFault}

abbrev pub Form : Type 0
Form = List (List Value) → List ℕ

-- So many rows were copied: the bytes taken are a stream of them within the limits, and the form of any rows that these
-- bytes spell was written, with the end behind it.
pub record IsCopied (limits : Limits) (columns : List Shape) (form : Form) (n : ℕ) (Written : List ℕ → Type 0)
    (taken : List ℕ) : Type 0 where
  pub stream : IsStreamOf limits columns n taken
  pub canonical : (rows : List (List Value)) → IsStream columns taken rows → Written (form rows ++ trailer)

-- behind so many rows, a row of these cells, which is one of those that may be copied
pub record IsRowAt (limits : Limits) (before : ℕ) (cells : List Cell) (bytes : List ℕ) : Type 0 where
  pub allowed : before < limits.rows_max
  pub is : IsRow cells bytes

-- a row behind so many others that is cut short, where a row that has its count is one of those that may be copied
abbrev pub IsCutRowAt : Limits → ℕ → List ℕ → Type 0
IsCutRowAt limits before bytes = IsCutRow bytes × (2 ≤ length bytes → before < limits.rows_max)

-- What a fault says of the bytes that were taken for a header.
pub data HeaderCause (fault : CopyFault) (bytes : List ℕ) : Type 0 where
  bad_header : fault ≡ BadHeader → IsBadHeader bytes → HeaderCause fault bytes
  bad_flags : (flags : ℕ) → fault ≡ BadFlags flags → HasHighFlags flags bytes → HeaderCause fault bytes
  truncated_header : fault ≡ Truncated → IsCutHeader bytes → HeaderCause fault bytes
  read_fault_in_header : fault ≡ ReadFault → IsCutHeader bytes → HeaderCause fault bytes
  no_memory_at_first : fault ≡ NoMemory → bytes ≡ [] → HeaderCause fault bytes

-- What a fault says of the bytes behind so many rows, by which it counts the row that it is about.
pub data RowCause (limits : Limits) (columns : List Shape) (before : ℕ) (fault : CopyFault)
    (bytes : List ℕ) : Type 0 where
  truncated : fault ≡ Truncated → IsCutRowAt limits before bytes → RowCause limits columns before fault bytes
  bad_field_count : (count : ℤ) → fault ≡ BadFieldCount count → IsBadCount count bytes
      → RowCause limits columns before fault bytes
  -- the row is whole, and has fewer cells than there are columns
  unexpected_end_of_row : (cells : List Cell) → fault ≡ UnexpectedEndOfRow before → IsRowAt limits before cells bytes
      → length cells < length columns → RowCause limits columns before fault bytes
  -- the first of its columns that is at fault breaks in this kind
  bad_value : (cells : List Cell) (column : ℕ) (kind : Break) → fault ≡ BadValue before column kind
      → IsRowAt limits before cells bytes → BreaksAt limits.field_max columns cells column kind
      → RowCause limits columns before fault bytes
  -- or its value is too long
  too_long : (cells : List Cell) (column : ℕ) → fault ≡ TooLong before column → IsRowAt limits before cells bytes
      → IsLongAt limits.field_max columns cells column → RowCause limits columns before fault bytes
  -- the count of a row behind as many as are allowed
  row_limit : (count : ℕ) → fault ≡ RowLimit → IsCount (Some count) bytes → before ≡ limits.rows_max
      → RowCause limits columns before fault bytes
  read_fault : fault ≡ ReadFault → IsCutRowAt limits before bytes → RowCause limits columns before fault bytes
  no_memory : fault ≡ NoMemory → before < limits.rows_max → IsCutRow bytes ⊎ IsWholeRow bytes
      → RowCause limits columns before fault bytes

-- Behind a header and rows within the limits, whose form was written, the bytes have the fault's cause.
pub record Stopped (limits : Limits) (columns : List Shape) (form : Form) (fault : CopyFault)
    (Written : List ℕ → Type 0) (taken : List ℕ) : Type 0 where
  pub front : List ℕ
  pub behind : List ℕ
  pub rows : List (List Value)
  pub begins : IsFront columns front rows
  pub within : IsWithin limits columns rows
  pub is : taken ≡ front ++ behind
  pub cause : RowCause limits columns (length rows) fault behind
  pub written : Written (form rows)

-- This much was written, and then a front of what comes next, not all of it.
abbrev pub WroteBehind : (List ℕ → Type 0) → List ℕ → List ℕ → Type 0
WroteBehind Written before next = WroteFront (λ front. Written (before ++ front)) next

-- The sink failed: in the header, behind which nothing was read; in the last of the rows that were read; or in the
-- end, of which all was written where it failed to settle that.
pub data Unwritten (limits : Limits) (columns : List Shape) (form : Form) (Written : List ℕ → Type 0)
    (taken : List ℕ) : Type 0 where
  in_header : IsHeader taken → WroteFront Written (form []) → Unwritten limits columns form Written taken
  in_row : (rows : List (List Value)) (last : List Value) (next : List ℕ) → IsFront columns taken (rows ++ (last ∷ []))
      → IsWithin limits columns (rows ++ (last ∷ [])) → form (rows ++ (last ∷ [])) ≡ form rows ++ next
      → WroteBehind Written (form rows) next → Unwritten limits columns form Written taken
  in_end : (rows : List (List Value)) (front : List ℕ) → IsFront columns front rows → IsWithin limits columns rows
      → taken ≡ front ++ trailer → WroteBehind Written (form rows) trailer ⊎ Written (form rows ++ trailer)
      → Unwritten limits columns form Written taken

-- what a fault says that comes behind the header
abbrev pub rows_say : Limits → List Shape → Form → CopyFault → (List ℕ → Type 0) → List ℕ → Type 0
rows_say limits columns form fault Written taken =
    Stopped limits columns form fault Written taken
    ⊎ ((fault ≡ WriteFault) × Unwritten limits columns form Written taken)

-- What a fault says of all bytes that were taken, and of those that were written. A fault of the header comes before
-- anything is written. Behind it the form of the rows before was written; where the sink failed itself, the end of
-- what was written last may be missing.
abbrev pub fault_says : Limits → List Shape → Form → CopyFault → (List ℕ → Type 0) → List ℕ → Type 0
fault_says limits columns form fault Written taken =
    (HeaderCause fault taken × Written []) ⊎ rows_say limits columns form fault Written taken

-- What a fault of a copy says that looks up first what its columns need: one of the lookup comes before anything is
-- taken or written, and each other is of the stream. Behind its header the form of rows goes by entries that were found.
abbrev pub copy_says : Limits → List Shape → (List Found → Type 0) → (List Found → Form) → CopyFault
    → (List ℕ → Type 0) → List ℕ → Type 0
copy_says limits columns Finds form fault Written taken =
    (IsLookupFault fault × (taken ≡ []) × Written []) ⊎ (HeaderCause fault taken × Written [])
    ⊎ ((found : List Found) × Finds found × rows_say limits columns (form found) fault Written taken)
