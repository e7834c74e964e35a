-- What reading by a name answers, as an answer of a reader of all fields.
use Rattle.std.proofs.Common.{◌≡◌, List, ℕ, Bool, Option, Some, None, Result, Ok, Err, subst, sym, inl, inr, refl}
use Rattle.pgw_wire.specs.Cell.{Cell}
use Rattle.pgw_wire.specs.declared.sql_error.SqlError.{SqlError}
use Rattle.pgw_wire.specs.declared.sql_error.SqlError.TheVariants.{MissingColumn}
use Rattle.pgw_meta.specs.Reading.{Answers}
use Rattle.pgw_meta.proofs.Reading.{refused_too}
use Rattle.pgw_row.specs.Building.{NamedCells, ReadsNamed, RefusesNamed}
use Rattle.pgw_row.specs.RowReading.{AnswersOr}

found : {A : Type 0} (reads : Cell → A → Type 0) (refuses : Cell → SqlError → Type 0) (memory : Bool)
    (name : List ℕ) (row : NamedCells) (cell : Option Cell) (r : Result A SqlError) → row.finds name ≡ cell
    → AnswersOr MissingColumn reads refuses memory cell r
    → Answers (ReadsNamed reads name) (RefusesNamed refuses name) memory row r
found reads refuses memory name row None r e h =
    subst (Answers (ReadsNamed reads name) (RefusesNamed refuses name) memory row) (sym h) (inl (e, refl))
found reads refuses memory name row (Some cell) (Ok v) e h = (cell, e, h)
found reads refuses memory name row (Some cell) (Err why) e h =
    refused_too (refuses cell) (RefusesNamed refuses name row) memory memory why (λ k. inr (cell, e, k)) (λ m. m) h

pub named : {A : Type 0} (reads : Cell → A → Type 0) (refuses : Cell → SqlError → Type 0) (memory : Bool)
    (name : List ℕ) (row : NamedCells) (r : Result A SqlError)
    → AnswersOr MissingColumn reads refuses memory (row.finds name) r
    → Answers (ReadsNamed reads name) (RefusesNamed refuses name) memory row r
named reads refuses memory name row r h = found reads refuses memory name row (row.finds name) r refl h
