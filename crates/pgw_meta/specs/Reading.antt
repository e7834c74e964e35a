-- What reading a field answers.
use Rattle.std.specs.Prelude.{ℕ, ◌≡◌, Bool, IsTrue, List, Option, None, Some, Result, Ok, Err}
use Rattle.pgw_wire.specs.Cell.{Cell}
use Rattle.pgw_wire.specs.declared.sql_error.SqlError.{SqlError}
use Rattle.pgw_wire.specs.declared.sql_error.SqlError.TheVariants.{UnexpectedNull, NoMemory}
use Rattle.pgw_wire.specs.declared.value.PgValue.{PgValue}

-- the cell of a field, without where its piece lies in memory and without the type
abbrev pub cell_of_value : Option PgValue → Cell
cell_of_value None = None
cell_of_value (Some v) = Some v.raw_value.now

-- An error is want of memory, where that may come, or one that something is refused with.
abbrev pub IsRefused : (SqlError → Type 0) → Bool → SqlError → Type 0
IsRefused refuses memory NoMemory = IsTrue memory
IsRefused refuses memory e = refuses e

-- At Ok what was given is read as the value, and at an error it is refused with it, or memory may be wanted.
abbrev pub Answers : {C A : Type 0} → (C → A → Type 0) → (C → SqlError → Type 0) → Bool → C → Result A SqlError → Type 0
Answers reads refuses memory given (Ok v) = reads given v
Answers reads refuses memory given (Err e) = IsRefused (refuses given) memory e

-- Of a type that allows no null: a null is read as no value.
abbrev pub ReadsPiece : {A : Type 0} → (List ℕ → A → Type 0) → Cell → A → Type 0
ReadsPiece reads None v = ⊥
ReadsPiece reads (Some piece) v = reads piece v

-- A null is refused as one.
abbrev pub RefusesPiece : (List ℕ → SqlError → Type 0) → Cell → SqlError → Type 0
RefusesPiece refuses None e = e ≡ UnexpectedNull
RefusesPiece refuses (Some piece) e = refuses piece e

-- It is no want of memory.
abbrev pub IsRefusal : SqlError → Type 0
IsRefusal NoMemory = ⊥
IsRefusal e = Unit {0}
