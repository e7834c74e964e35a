-- What reading a field of a row answers.
use Rattle.std.specs.Prelude.{◌≡◌, Bool, Option, None, Some, Result, Err}
use Rattle.pgw_wire.specs.Cell.{Cell}
use Rattle.pgw_wire.specs.declared.sql_error.SqlError.{SqlError}
use Rattle.pgw_meta.specs.Reading.{Answers}

-- Where there is a field, its cell is read, and where there is none, this is the error.
abbrev pub AnswersOr : {A : Type 0} → SqlError → (Cell → A → Type 0) → (Cell → SqlError → Type 0) → Bool
    → Option Cell → Result A SqlError → Type 0
AnswersOr missing reads refuses memory None answer = answer ≡ Err missing
AnswersOr missing reads refuses memory (Some cell) answer = Answers reads refuses memory cell answer
