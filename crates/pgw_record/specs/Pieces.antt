-- What the reader of a record's components has still to give, and what a call of it gives.
use Rattle.std.specs.Prelude.{◌≡◌, ◌≢◌, ◌<◌, ◌⊎◌, ◌++◌, ℕ, suc, List, [], Option, None, Some, Result, Ok, Err}
use Rattle.std.specs.Int.{w32, to_be_bytes}
use Rattle.std.specs.Int.NonZero.{non_zero_u32_get}
use Rattle.pgw_wire.specs.Cell.{cell_of}
use Rattle.pgw_wire.specs.declared.sql_error.SqlError.{SqlError}
use Rattle.pgw_wire.specs.declared.sql_error.SqlError.TheVariants.{Surplus}
use Rattle.pgw_record.specs.Record.{Component, IsComponent, component_bytes, HasNoComponent}
use Rattle.pgw_record.specs.declared.record_pieces.RecordPiece.{RecordPiece}
use Rattle.pgw_record.specs.declared.record_pieces.RecordPieces.{RecordPieces}

-- how many components have still to come, and the bytes that they stand in
pub record Coming : Type 0 where
  pub left : ℕ
  pub rest : List ℕ

abbrev pub coming_of : RecordPieces → Coming
coming_of p = record { left = p.left; rest = p.rest.now }

-- without where the piece lies in memory
abbrev pub component_of : RecordPiece → Component
component_of p = record { oid = non_zero_u32_get p.oid; cell = cell_of p.cell }

-- The bytes begin with a count of so many components, all of which come.
pub record BeginsRecord (bytes : List ℕ) (count : ℕ) (coming : Coming) : Type 0 where
  pub is : bytes ≡ to_be_bytes w32 count ++ coming.rest
  pub left : coming.left ≡ count

-- The component is the next, and behind it come those that are then left.
pub record IsNext (c : Component) (before now : Coming) : Type 0 where
  pub left : before.left ≡ suc now.left
  pub component : IsComponent c
  pub is : before.rest ≡ component_bytes c ++ now.rest

-- No component comes where none is left and bytes are, or where one is and none stands there.
abbrev pub HasNoNext : Coming → SqlError → Type 0
HasNoNext before e =
    ((before.left ≡ 0) × (before.rest ≢ []) × (e ≡ Surplus)) ⊎ ((0 < before.left) × HasNoComponent before.rest e)

-- None comes where no component and no byte is left. That and an error leave what has to come.
abbrev pub GivesComponent : Coming → Result (Option RecordPiece) SqlError → Coming → Type 0
GivesComponent before (Ok None) now = (before.left ≡ 0) × (before.rest ≡ []) × (now ≡ before)
GivesComponent before (Ok (Some piece)) now = IsNext (component_of piece) before now
GivesComponent before (Err e) now = HasNoNext before e × (now ≡ before)
