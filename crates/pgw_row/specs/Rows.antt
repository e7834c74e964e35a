-- What a row is: its fields in order, and the places of a larger row that it is a window on.
use Rattle.std.specs.Prelude.{ℕ, ◌+◌, ◌-◌, ◌&&◌, Bool, false, nat_le, nat_lt, min, List, length, take, drop, map, position, slice_get, bytes_eq, Option, None, Some, option_map, option_and_then, if◌then◌else◌}
use Rattle.std.specs.declared.num.NonZeroU32.{NonZeroU32}
use Rattle.pgw_wire.specs.Cell.{Cell, cell_of}
use Rattle.pgw_meta.specs.Keys.{text_of}
use Rattle.pgw_row.specs.declared.field.PgField.{PgField}

-- the name of a field's column, where it has one, its cell, and the oid of its type
pub record FieldParts : Type 0 where
  pub name : Option (List ℕ)
  pub cell : Cell
  pub oid : NonZeroU32

-- without where the name and the piece lie in memory
abbrev pub field_of : PgField → FieldParts
field_of f = record { name = text_of f.name; cell = cell_of f.cell; oid = f.oid }

-- the fields of the whole row, and the places of it that are in the window: those at least `from` and below `to`
pub record RowParts : Type 0 where
  pub whole : List FieldParts
  pub from : ℕ
  pub to : ℕ

-- a row that is no window
abbrev pub whole_row : List FieldParts → RowParts
whole_row fields = record { whole = fields; from = 0; to = length fields }

-- A window on a row: the places of it that are at least `from` and below `to`, counted as it counts its own.
abbrev pub window_on : RowParts → ℕ → ℕ → RowParts
window_on row from to = record row { from = row.from + from; to = min row.to (row.from + to) }

-- the row's own fields, in order
abbrev pub fields_in : RowParts → List FieldParts
fields_in row = drop row.from (take row.to row.whole)

abbrev pub cells_in : RowParts → List Cell
cells_in row = map (λ f. f.cell) (fields_in row)

abbrev pub name_is : List ℕ → Option (List ℕ) → Bool
name_is name None = false
name_is name (Some own) = bytes_eq own name

-- Its column has this name.
abbrev pub is_named : List ℕ → FieldParts → Bool
is_named name field = name_is name field.name

-- The place in the window of a place of the whole row. None where that is outside.
abbrev pub place_within : RowParts → ℕ → Option ℕ
place_within row place = if nat_le row.from place && nat_lt place row.to then Some (place - row.from) else None

-- The place of the field that a name finds: the first one of the whole row with that name, where it is in the window.
abbrev pub place_named : RowParts → List ℕ → Option ℕ
place_named row name = option_and_then (place_within row) (position (is_named name) row.whole)

-- the field that a name finds
abbrev pub field_named : RowParts → List ℕ → Option FieldParts
field_named row name = option_and_then (slice_get (fields_in row)) (place_named row name)

-- the cell that a name finds
abbrev pub finds_in : RowParts → List ℕ → Option Cell
finds_in row name = option_map (λ f. f.cell) (field_named row name)

-- The place, in the row that it is a window on, of a place of the row. Its first field stands at `first` there.
abbrev pub inner_place : ℕ → RowParts → ℕ → Option ℕ
inner_place first row place = if nat_lt place (length (fields_in row)) then Some (first + place) else None

abbrev pub inner_place_named : ℕ → RowParts → List ℕ → Option ℕ
inner_place_named first row name = option_map (λ place. first + place) (place_named row name)
