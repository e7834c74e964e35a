-- The field of a type that allows null: a null, or the field of its part.
use Rattle.std.specs.Prelude.{◌≡◌, ⊤, [], Option, None, Some, Ok}
use Rattle.pgw_wire.specs.Cell.{Cell}
use Rattle.pgw_wire.specs.declared.is_null.IsNull.TheVariants.{Yes}
use Rattle.pgw_wire.specs.declared.sql_error.SqlError.{SqlError}
use Rattle.pgw_meta.specs.Writing.{Writes}

-- A null is read as none, and a piece as the value that it is of the part.
abbrev pub ReadsNullable : {A : Type 0} → (Cell → A → Type 0) → Cell → Option A → Type 0
ReadsNullable reads None None = ⊤
ReadsNullable reads None (Some v) = ⊥
ReadsNullable reads (Some piece) None = ⊥
ReadsNullable reads (Some piece) (Some v) = reads (Some piece) v

-- No null is refused, and a piece as one of the part is.
abbrev pub RefusesNullable : (Cell → SqlError → Type 0) → Cell → SqlError → Type 0
RefusesNullable refuses None e = ⊥
RefusesNullable refuses (Some piece) e = refuses (Some piece) e

-- None is written as a null, of which there are no bytes, and a value as one of the part.
abbrev pub WritesNullable : {A : Type 0} → Writes A → Writes (Option A)
WritesNullable writes known None answer bytes = (answer ≡ Ok Yes) × (bytes ≡ [])
WritesNullable writes known (Some v) answer bytes = writes known v answer bytes
