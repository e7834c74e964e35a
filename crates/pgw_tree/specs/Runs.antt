-- What the crate's own functions make of rows that stand whole in bytes, which a source shows before they are taken.
use Rattle.std.specs.Prelude.{◌≡◌, ℕ, ◌+◌, ◌<◌, ◌≤◌, ◌++◌, ◌∷◌, List, length, take, Option, Some, None, Bool, true, false, ◌⊎◌, []}
use Rattle.std.specs.List.{AllByRecursion, flat_map}
use Rattle.pgw_copy.specs.Format.{trailer}
use Rattle.pgw_meta.specs.Shape.{Shape}
use Rattle.pgw_cell.specs.Value.{Value}
use Rattle.pgw_tree.specs.Canonical.{FitsRow, canonical_row}
use Rattle.pgw_tree.specs.Stream.{AreRows}
use Rattle.pgw_tree.specs.Limits.{Limits}
use Rattle.pgw_tree.specs.Plain.{ArePlainRows}
use Rattle.pgw_tree.specs.Causes.{WroteBehind, RowCause}
use Rattle.pgw_tree.specs.declared.fault.CopyFault.{CopyFault}
use Rattle.pgw_tree.specs.declared.fault.CopyFault.TheVariants.{ReadFault, WriteFault}
use Rattle.pgw_tree.specs.Copying.{IsValuesRow}
use Rattle.pgw_tree.specs.declared.shown.CopiedFront.{CopiedFront}
use Rattle.pgw_tree.specs.declared.shown.CopiedFront.TheVariants.{Whole, Broken}
use Rattle.pgw_meta.specs.Known.{Known}

-- So many rows, one behind the other, and their canonical form, whose fields fit.
pub record AreRespelled (known : Known) (most : ℕ) (columns : List Shape) (many : ℕ) (canonical bytes : List ℕ) : Type 0 where
  pub rows : List (List Value)
  pub as_many : length rows ≡ many
  pub each : AreRows columns bytes rows
  pub plain : ArePlainRows known most columns canonical rows

-- Of these rows the bytes are the first ones, through the one in whose canonical form the byte behind so many is.
pub record EndsInRow (known : Known) (most : ℕ) (columns : List Shape) (rows : List (List Value)) (sent : ℕ)
    (bytes : List ℕ) : Type 0 where
  pub before : List (List Value)
  pub last : List Value
  pub after : List (List Value)
  pub front : List ℕ
  pub row : List ℕ
  pub rows_are : rows ≡ before ++ (last ∷ after)
  pub each : AreRows columns front before
  pub is_last : IsValuesRow most columns row last
  pub is : bytes ≡ front ++ row
  pub begun : length (flat_map (canonical_row known columns) before) ≤ sent
  pub ends : sent < length (flat_map (canonical_row known columns) before) + length (canonical_row known columns last)

-- In front of the rest stands a row whose first cells spell values that fit, and their canonical row was appended.
pub record RespellsRow (known : Known) (most : ℕ) (columns : List Shape) (bytes rest old new : List ℕ) : Type 0 where
  pub row : List ℕ
  pub values : List Value
  pub is_row : IsValuesRow most columns row values
  pub is : bytes ≡ row ++ rest
  pub appended : new ≡ old ++ canonical_row known columns values

-- Behind so many rows some more were copied, so that there are that many now: they stand one behind the other, their
-- values are within the limits, and their canonical form was written.
pub record IsRun (known : Known) (limits : Limits) (columns : List Shape) (before after : ℕ) (Written : List ℕ → Type 0)
    (bytes : List ℕ) : Type 0 where
  pub rows : List (List Value)
  pub each : AreRows columns bytes rows
  pub fit : AllByRecursion (FitsRow limits.field_max columns) rows
  pub counted : after ≡ before + length rows
  pub few : after ≤ limits.rows_max
  pub written : Written (flat_map (canonical_row known columns) rows)

-- The sink failed in the last of these rows, of which it has a front of the canonical form.
pub record IsBrokenRun (known : Known) (limits : Limits) (columns : List Shape) (before : ℕ) (Written : List ℕ → Type 0)
    (bytes : List ℕ) : Type 0 where
  pub rows : List (List Value)
  pub last : List Value
  pub front : List ℕ
  pub row : List ℕ
  pub each : AreRows columns front rows
  pub fit : AllByRecursion (FitsRow limits.field_max columns) rows
  pub is_last : IsValuesRow limits.field_max columns row last
  pub is : bytes ≡ front ++ row
  pub few : before + length rows < limits.rows_max
  pub part : WroteBehind Written (flat_map (canonical_row known columns) rows) (canonical_row known columns last)

-- Of a call that takes a row or the end, behind so many rows: a row that was copied, or the end, at which nothing was
-- written.
abbrev pub IsNextRow : Known → Limits → List Shape → ℕ → (List ℕ → Type 0) → Bool → List ℕ → Type 0
IsNextRow known limits columns before Written true bytes = IsRun known limits columns before (before + 1) Written bytes
IsNextRow known limits columns before Written false bytes = (bytes ≡ trailer) × Written []

-- what a fault of copying rows says: its cause, at which nothing was written; or that the sink failed in a row
abbrev pub rows_fault : Known → Limits → List Shape → ℕ → (List ℕ → Type 0) → CopyFault → List ℕ → Type 0
rows_fault known limits columns before Written fault bytes =
    (RowCause limits columns before fault bytes × Written [])
    ⊎ ((fault ≡ WriteFault) × IsBrokenRun known limits columns before Written bytes)

-- what a fault of copying the rows that a source shows says: it failed, and nothing was taken or written; or the sink failed
-- in a row
abbrev pub shown_fault : Known → Limits → List Shape → ℕ → (List ℕ → Type 0) → CopyFault → List ℕ → Type 0
shown_fault known limits columns before Written fault bytes =
    ((fault ≡ ReadFault) × (bytes ≡ []) × Written [])
    ⊎ ((fault ≡ WriteFault) × IsBrokenRun known limits columns before Written bytes)

abbrev pub length_of : CopiedFront → ℕ
length_of (Whole rows len) = len
length_of (Broken len) = len

-- how many rows there are, unless the sink failed
abbrev pub rows_of : CopiedFront → Option ℕ
rows_of (Whole rows len) = Some rows
rows_of (Broken len) = None

-- what the copy of rows at the front of bytes did, which stands behind so many
abbrev pub copied_says : Known → Limits → List Shape → ℕ → (List ℕ → Type 0) → Type 0 → List ℕ → CopiedFront → Type 0
copied_says known limits columns before Written failed bytes (Whole rows len) =
    (len ≤ length bytes) × IsRun known limits columns before rows Written (take len bytes)
copied_says known limits columns before Written failed bytes (Broken len) =
    (len ≤ length bytes) × IsBrokenRun known limits columns before Written (take len bytes) × failed
