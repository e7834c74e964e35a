-- What a value is that is built from a row, and with which error a row is refused.
use Rattle.std.specs.Prelude.{ℕ, ◌≡◌, ◌≢◌, ◌≤◌, ◌<◌, ◌+◌, ◌⊎◌, ⊤, List, length, slice_get, Option, None, Some}
use Rattle.pgw_wire.specs.Cell.{Cell}
use Rattle.pgw_wire.specs.Refusal.{number_of}
use Rattle.pgw_wire.specs.declared.sql_error.SqlError.{SqlError}
use Rattle.pgw_wire.specs.declared.sql_error.SqlError.TheVariants.{UnexpectedNull, UnexpectedEndOfRow, MissingColumn, Field, NoMemory}
use Rattle.pgw_row.specs.Rows.{RowParts, cells_in, finds_in}

-- What the refusal of a field becomes, as one of the row: the field's place and the number of the error. A null and
-- want of memory stay what they are.
abbrev pub in_column : ℕ → SqlError → SqlError
in_column place UnexpectedNull = UnexpectedNull
in_column place NoMemory = NoMemory
in_column place e = Field (record { column = place; number = number_of e })

-- The field at a place is read as the value.
abbrev pub ReadsAt : {A : Type 0} → (Cell → A → Type 0) → ℕ → List Cell → A → Type 0
ReadsAt reads place cells v = (cell : Cell) × (slice_get cells place ≡ Some cell) × reads cell v

-- The field at a place is refused, and the row so with this error.
abbrev pub RefusesAt : (Cell → SqlError → Type 0) → ℕ → List Cell → SqlError → Type 0
RefusesAt refuses place cells e =
    (cell : Cell) × (why : SqlError)
    × (slice_get cells place ≡ Some cell) × refuses cell why × (e ≡ in_column place why)

-- The field at a place is read as the first member, and those behind it as the others.
abbrev pub ReadsMembers : {A B : Type 0} → (Cell → A → Type 0) → (ℕ → List Cell → B → Type 0)
    → ℕ → List Cell → A × B → Type 0
ReadsMembers reads others place cells v = ReadsAt reads place cells v.0 × others (place + 1) cells v.1

-- behind the last member
abbrev pub ReadsNone : ℕ → List Cell → Unit {0} → Type 0
ReadsNone place cells v = ⊤

-- The first member that is refused is this one or, where it is read, one behind it.
abbrev pub RefusesMembers : {A : Type 0} → (Cell → A → Type 0) → (Cell → SqlError → Type 0)
    → (ℕ → List Cell → SqlError → Type 0) → ℕ → List Cell → SqlError → Type 0
RefusesMembers {A} reads refuses others place cells e =
    RefusesAt refuses place cells e ⊎ ((v : A) × ReadsAt reads place cells v × others (place + 1) cells e)

abbrev pub RefusesNone : ℕ → List Cell → SqlError → Type 0
RefusesNone place cells e = ⊥

-- A row has too few fields for so many members, or it has enough, and one of them is refused.
abbrev pub RefusesTuple : ℕ → (ℕ → List Cell → SqlError → Type 0) → List Cell → SqlError → Type 0
RefusesTuple members refuses cells e =
    ((length cells < members) × (e ≡ UnexpectedEndOfRow)) ⊎ ((members ≤ length cells) × refuses 0 cells e)

-- What is built from something that is read first.
abbrev pub ReadsThrough : {C A B : Type 0} → (C → B → Type 0) → (B → A → Type 0) → C → A → Type 0
ReadsThrough {C} {A} {B} reads builds given v = (between : B) × reads given between × builds between v

-- That is refused, or it is read, and what is built from it is refused.
abbrev pub RefusesThrough : {C B : Type 0} → (C → B → Type 0) → (C → SqlError → Type 0) → (B → SqlError → Type 0)
    → C → SqlError → Type 0
RefusesThrough {C} {B} reads refuses fails given e =
    refuses given e ⊎ ((between : B) × reads given between × fails between e)

-- A value that may be missing: None where the row is refused for a null.
abbrev pub ReadsOptional : {C A : Type 0} → (C → A → Type 0) → (C → SqlError → Type 0) → C → Option A → Type 0
ReadsOptional reads refuses given None = refuses given UnexpectedNull
ReadsOptional reads refuses given (Some v) = reads given v

-- It is refused for another reason.
abbrev pub RefusesOptional : {C : Type 0} → (C → SqlError → Type 0) → C → SqlError → Type 0
RefusesOptional refuses given e = refuses given e × (e ≢ UnexpectedNull)

-- what a value that is read by names knows of a row: the cell that each name finds, and all cells
pub record NamedCells : Type 0 where
  pub finds : List ℕ → Option Cell
  pub cells : List Cell

abbrev pub named_cells : RowParts → NamedCells
named_cells row = record { finds = finds_in row; cells = cells_in row }

-- The cell that a name finds is read as the value.
abbrev pub ReadsNamed : {A : Type 0} → (Cell → A → Type 0) → List ℕ → NamedCells → A → Type 0
ReadsNamed reads name row v = (cell : Cell) × (row.finds name ≡ Some cell) × reads cell v

-- A name finds no cell, or one that is refused.
abbrev pub RefusesNamed : (Cell → SqlError → Type 0) → List ℕ → NamedCells → SqlError → Type 0
RefusesNamed refuses name row e =
    ((row.finds name ≡ None) × (e ≡ MissingColumn)) ⊎ ((cell : Cell) × (row.finds name ≡ Some cell) × refuses cell e)
