-- What a call that reads a part of a stream takes, and what each of its errors says of the bytes that were taken.
use Rattle.std.specs.Prelude.{◌≡◌, ◌⊎◌, ℕ, ℤ, ◌<◌, ◌≤◌, ◌-◌, ◌^◌, List, ◌++◌, length, Option, None, Some, Result}
use Rattle.std.specs.Int.{to_be_bytes, cast_signed, w16, w32}
use Rattle.pgw_wire.specs.Cell.{Cell}
use Rattle.pgw_wire.specs.Outside.{SourceState, Takes}
use Rattle.pgw_copy.specs.Format.{magic, IsCutHeader, AreFields, IsField, IsRow, IsCutRow, trailer}
use Rattle.pgw_copy.specs.declared.fault.CopyReadError.{CopyReadError}
use Rattle.pgw_copy.specs.declared.fault.CopyReadError.TheVariants.{BadHeader, BadFlags, Truncated, BadFieldCount, ReadFault, NoMemory}

-- What a call that reads takes, where `Truncated` comes only at the end of the source, and `ReadFault` only where it
-- failed.
abbrev pub Reads : {X Origin : Type 0} → SourceState Origin → SourceState Origin → Result X CopyReadError
    → (X → List ℕ → Type 0) → (CopyReadError → List ℕ → Type 0) → Type 0
Reads before now result P Fault = Takes Truncated ReadFault before now result P Fault

-- Where a call stops at the end or at a fault of the source, what was taken has Cut. It answers no other error.
pub data CutError (Cut : List ℕ → Type 0) (e : CopyReadError) (bytes : List ℕ) : Type 0 where
  truncated : e ≡ Truncated → Cut bytes → CutError Cut e bytes
  read_fault : e ≡ ReadFault → Cut bytes → CutError Cut e bytes

-- The same of a call that keeps what it takes: where memory is refused, what was taken has Cut too, or it is all that
-- the call takes, which has Whole.
pub data KeptError (Cut Whole : List ℕ → Type 0) (e : CopyReadError) (bytes : List ℕ) : Type 0 where
  cut_short : CutError Cut e bytes → KeptError Cut Whole e bytes
  no_memory : e ≡ NoMemory → Cut bytes ⊎ Whole bytes → KeptError Cut Whole e bytes

abbrev pub IsShort : ℕ → List ℕ → Type 0
IsShort size bytes = length bytes < size

abbrev pub HasSize : ℕ → List ℕ → Type 0
HasSize size bytes = length bytes ≡ size

-- what every stream begins with, flags whose high half is 0, and a negative length of the extension
pub record HasNegativeExtension (bytes : List ℕ) : Type 0 where
  pub flags : ℕ
  pub extension : ℕ
  pub low : flags < 2 ^ 16
  pub negative : 2 ^ 31 ≤ extension
  pub fits : extension < 2 ^ 32
  pub is : bytes ≡ magic ++ to_be_bytes w32 flags ++ to_be_bytes w32 extension

-- 19 bytes that begin with other bytes than a stream, or have, behind good flags, a negative length of the extension
abbrev pub IsBadHeader : List ℕ → Type 0
IsBadHeader bytes = (length bytes ≡ 19) × (((rest : List ℕ) → bytes ≡ magic ++ rest → ⊥) ⊎ HasNegativeExtension bytes)

-- 19 bytes that begin as a stream does, with these flags, of which the high half is not 0
pub record HasHighFlags (flags : ℕ) (bytes : List ℕ) : Type 0 where
  pub rest : List ℕ
  pub high : 2 ^ 16 ≤ flags
  pub fits : flags < 2 ^ 32
  pub four : length rest ≡ 4
  pub is : bytes ≡ magic ++ to_be_bytes w32 flags ++ rest

-- what an error says of the 19 bytes that could begin a header
pub data FixedError (e : CopyReadError) (bytes : List ℕ) : Type 0 where
  bad_header : e ≡ BadHeader → IsBadHeader bytes → FixedError e bytes
  bad_flags : (flags : ℕ) → e ≡ BadFlags flags → HasHighFlags flags bytes → FixedError e bytes

-- and of all bytes that were taken for a header
pub data HeaderError (e : CopyReadError) (bytes : List ℕ) : Type 0 where
  refused_header : FixedError e bytes → HeaderError e bytes
  cut_header : CutError IsCutHeader e bytes → HeaderError e bytes

-- The two bytes of a count below -1: of a number without sign from 2 ^ 15 on, but for the largest, which with its
-- sign is the count.
pub record IsBadCount (count : ℤ) (bytes : List ℕ) : Type 0 where
  pub unsigned : ℕ
  pub negative : 2 ^ 15 ≤ unsigned
  pub below : unsigned < 2 ^ 16 - 1
  pub signed : count ≡ cast_signed w16 unsigned
  pub is : bytes ≡ to_be_bytes w16 unsigned

pub data CountError (e : CopyReadError) (bytes : List ℕ) : Type 0 where
  bad_count : (count : ℤ) → e ≡ BadFieldCount count → IsBadCount count bytes → CountError e bytes
  cut_count : CutError (IsShort 2) e bytes → CountError e bytes

abbrev pub IsWholeField : List ℕ → Type 0
IsWholeField bytes = (cell : Cell) × IsField cell bytes

-- the bytes are this many fields
abbrev pub AreWholeFields : ℕ → List ℕ → Type 0
AreWholeFields count bytes = (cells : List Cell) × (length cells ≡ count) × AreFields cells bytes

abbrev pub IsWholeRow : List ℕ → Type 0
IsWholeRow bytes = (cells : List Cell) × IsRow cells bytes

-- bytes that end before a field is whole
abbrev pub IsCutField : List ℕ → Type 0
IsCutField bytes = (cell : Cell) (field behind : List ℕ) → IsField cell field → bytes ≡ field ++ behind → ⊥

-- bytes that end before this many fields are whole
abbrev pub AreCutFields : ℕ → List ℕ → Type 0
AreCutFields count bytes =
    (cells : List Cell) (fields behind : List ℕ) → length cells ≡ count → AreFields cells fields
    → bytes ≡ fields ++ behind → ⊥

-- what the bytes of a row, or of the end of a stream, hold
abbrev pub IsRowOrEnd : Option (List Cell) → List ℕ → Type 0
IsRowOrEnd None bytes = bytes ≡ trailer
IsRowOrEnd (Some cells) bytes = IsRow cells bytes

pub data RowError (e : CopyReadError) (bytes : List ℕ) : Type 0 where
  bad_row_count : (count : ℤ) → e ≡ BadFieldCount count → IsBadCount count bytes → RowError e bytes
  cut_row : KeptError IsCutRow IsWholeRow e bytes → RowError e bytes
