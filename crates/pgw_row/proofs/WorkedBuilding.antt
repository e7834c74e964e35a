-- What the definitions say of values that are built from rows that are written out.
use Rattle.std.proofs.Common.{◌≡◌, ◌≢◌, ℕ, List, [], ◌∷◌, Some, None, refl, inl, inr, lit<, lit≤}
use Rattle.pgw_wire.specs.Cell.{Cell}
use Rattle.pgw_wire.specs.declared.sql_error.SqlError.{SqlError}
use Rattle.pgw_wire.specs.declared.sql_error.SqlError.TheVariants.{UnexpectedNull, UnexpectedEndOfRow, WrongSize, Field, NoMemory}
use Rattle.pgw_meta.specs.Reading.{ReadsPiece, RefusesPiece}
use Rattle.pgw_row.specs.Building.{in_column, ReadsMembers, ReadsNone, RefusesMembers, RefusesNone, RefusesTuple, ReadsOptional}

-- a type whose values are the numbers of single bytes, and which refuses all other pieces
abbrev Reads : Cell → ℕ → Type 0
Reads = ReadsPiece (λ piece v. piece ≡ v ∷ [])

abbrev Refuses : Cell → SqlError → Type 0
Refuses = RefusesPiece (λ piece e. ((v : ℕ) → piece ≢ v ∷ []) × (e ≡ WrongSize 1 2))

abbrev RefusesPair : List Cell → SqlError → Type 0
RefusesPair = RefusesTuple 2 (RefusesMembers Reads Refuses (RefusesMembers Reads Refuses RefusesNone))

-- The pair of the first two fields. The third is not looked at.
pub pair_of_three : ReadsMembers Reads (ReadsMembers Reads ReadsNone) 0
    (Some (1 ∷ []) ∷ Some (2 ∷ []) ∷ None ∷ []) (1, (2, tt))
pair_of_three = ((Some (1 ∷ []), refl, refl), ((Some (2 ∷ []), refl, refl), tt))

-- One field is too few, whatever it holds.
pub one_field : RefusesPair (None ∷ []) UnexpectedEndOfRow
one_field = inl (lit< tt, refl)

-- The second field is refused: a null stays one, and another refusal tells the field's place and the error's number.
pub null_second : RefusesPair (Some (1 ∷ []) ∷ None ∷ []) UnexpectedNull
null_second = inr (lit≤ tt, inr (1, (Some (1 ∷ []), refl, refl), inl (None, UnexpectedNull, refl, refl, refl)))

pub told_with_its_place : in_column 1 (WrongSize 1 2) ≡ Field (record { column = 1; number = 4 })
told_with_its_place = refl

pub null_stays : in_column 1 UnexpectedNull ≡ UnexpectedNull
null_stays = refl

pub memory_stays : in_column 1 NoMemory ≡ NoMemory
memory_stays = refl

-- A value that may be missing is None of a row with a null.
pub none_of_null : ReadsOptional {A = ℕ × (ℕ × Unit {0})}
    (ReadsMembers Reads (ReadsMembers Reads ReadsNone) 0) RefusesPair (Some (1 ∷ []) ∷ None ∷ []) None
none_of_null = null_second
