-- Streams of rows of values, and those within limits.
use Rattle.std.specs.Prelude.{◌≡◌, ℕ, ◌≤◌, List, [], ◌∷◌, ◌++◌, length}
use Rattle.std.specs.List.{AllByRecursion}
use Rattle.pgw_wire.specs.Cell.{Cell}
use Rattle.pgw_meta.specs.Shape.{Shape}
use Rattle.pgw_cell.specs.Value.{Value}
use Rattle.pgw_tree.specs.Spells.{SpellsRow}
use Rattle.pgw_tree.specs.Canonical.{FitsRow}
use Rattle.pgw_tree.specs.Limits.{Limits}
use Rattle.pgw_copy.specs.Format.{IsHeader, IsRow, trailer}

-- rows, one behind the other, whose first cells spell these values
abbrev pub AreRows : List Shape → List ℕ → List (List Value) → Type 0
AreRows columns bytes [] = bytes ≡ []
AreRows columns bytes (values ∷ rows) =
    (cells : List Cell) × (row : List ℕ) × (rest : List ℕ) × IsRow cells row × SpellsRow columns cells values
    × AreRows columns rest rows × (bytes ≡ row ++ rest)

-- a stream without its end: a header, and rows that spell these values
pub record IsFront (columns : List Shape) (bytes : List ℕ) (rows : List (List Value)) : Type 0 where
  pub header : List ℕ
  pub body : List ℕ
  pub begins : IsHeader header
  pub each : AreRows columns body rows
  pub is : bytes ≡ header ++ body

pub record IsStream (columns : List Shape) (bytes : List ℕ) (rows : List (List Value)) : Type 0 where
  pub front : List ℕ
  pub begins : IsFront columns front rows
  pub is : bytes ≡ front ++ trailer

pub record IsWithin (limits : Limits) (columns : List Shape) (rows : List (List Value)) : Type 0 where
  pub few : length rows ≤ limits.rows_max
  pub fit : AllByRecursion (FitsRow limits.field_max columns) rows

-- a stream of some rows within the limits
abbrev pub IsValidStream : Limits → List Shape → List ℕ → Type 0
IsValidStream limits columns bytes =
    (rows : List (List Value)) × IsStream columns bytes rows × IsWithin limits columns rows

-- a stream of this many rows within the limits
abbrev pub IsStreamOf : Limits → List Shape → ℕ → List ℕ → Type 0
IsStreamOf limits columns n bytes =
    (rows : List (List Value)) × IsStream columns bytes rows × IsWithin limits columns rows × (length rows ≡ n)
