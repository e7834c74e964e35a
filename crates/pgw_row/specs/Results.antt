-- What a query answered: its columns, the cells of its rows, and the text that tells how many rows the command changed.
use Rattle.std.specs.Prelude.{◌≡◌, ◌≢◌, ℕ, ◌<◌, ◌^◌, List, [], ◌∷◌, length, map, slice_get, Option, option_map, All, string_bytes}
use Rattle.std.specs.List.{AllWithin, HoldsAt}
use Rattle.std.specs.Option.{option_and_then, option_flatten}
use Rattle.std.specs.Str.Parse.{IsNumeral, without_leading_plus, digits_value}
use Rattle.std.specs.declared.num.NonZeroU32.{NonZeroU32}
use Rattle.std.specs.declared.alloc.Global.{Global}
use Rattle.std.specs.declared.vec.Vec.{Vec}
use Rattle.pgw_wire.specs.Cell.{Cell}
use Rattle.pgw_row.specs.declared.result.ResultColumn.{ResultColumn}

-- the name of a column, where it has one, and the oid of its type
pub record Column : Type 0 where
  pub name : Option (List ℕ)
  pub oid : NonZeroU32

pub record Answered : Type 0 where
  pub columns : List Column
  pub rows : List (List Cell)
  pub command_count : List ℕ

-- without where the texts and the cells lie in memory
abbrev pub column_of : ResultColumn → Column
column_of c = record { name = option_map string_bytes c.name; oid = c.oid }

abbrev pub row_of : Vec (Option (Vec ℕ Global)) Global → List Cell
row_of row = map (λ cell. option_map (λ piece. piece.items) cell) row.items

-- what these parts tell
abbrev pub answered_of : List ResultColumn → List (Vec (Option (Vec ℕ Global)) Global) → List ℕ → Answered
answered_of columns rows count =
    record { columns = map column_of columns; rows = map row_of rows; command_count = count }

-- each row has as many cells as there are columns
abbrev pub AreWhole : ℕ → List (List Cell) → Type 0
AreWhole columns rows = All (λ row. length row ≡ columns) rows

-- there is a row at this place, which has not, and each before it has
abbrev pub IsFirstRagged : ℕ → List (List Cell) → ℕ → Type 0
IsFirstRagged columns rows place =
    (place < length rows) × HoldsAt (λ row. length row ≢ columns) rows place
    × AllWithin (λ row. length row ≡ columns) rows 0 place

-- the cell in a row and a column; outside of the rows and the columns there is none, as where the cell is null
abbrev pub cell_at : List (List Cell) → ℕ → ℕ → Cell
cell_at rows row column = option_flatten (option_and_then (λ cells. slice_get cells column) (slice_get rows row))

-- A text says how many rows a command changed: no text says 0, and else it is decimal digits, at least one, behind a
-- plus or none, of a number of 64 bits.
abbrev pub SaysCount : List ℕ → ℕ → Type 0
SaysCount [] n = n ≡ 0
SaysCount (byte ∷ bytes) n =
    let text = byte ∷ bytes in
    IsNumeral 10 (without_leading_plus text) × (n ≡ digits_value 10 (without_leading_plus text)) × (n < 2 ^ 64)
