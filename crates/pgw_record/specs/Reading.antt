-- What the field of a record is read as, as one function from left to right beside the definitions, for the proofs.
use Rattle.std.specs.Prelude.{◌==◌, if◌then◌else◌, ℕ, true, List, [], ◌∷◌, Option, None, Some, Result, Ok, Err}
use Rattle.std.specs.Int.{w32, cast_signed}
use Rattle.pgw_wire.specs.Cell.{Cell}
use Rattle.pgw_wire.specs.declared.kind.Break.{Break}
use Rattle.pgw_wire.specs.declared.sql_error.SqlError.{SqlError}
use Rattle.pgw_wire.specs.declared.sql_error.SqlError.TheVariants.{ShortBuffer, TupleCount, ZeroOid, Surplus}
use Rattle.pgw_nested.specs.Array.{kind_named}
use Rattle.pgw_nested.specs.Reading.{◌>>=◌, named, word_at, cell_at}
use Rattle.pgw_record.specs.Record.{Component}

abbrev pub behind_oid : Option (ℕ × List ℕ) → Result (Component × List ℕ) SqlError
behind_oid None = Err ShortBuffer
behind_oid (Some w) =
    if w.0 == 0 then Err ZeroOid else cell_at true w.1 >>= λ x. Ok (record { oid = w.0; cell = x.0 }, x.1)

-- the component in front, and the rest
unfoldable pub component_at : List ℕ → Result (Component × List ℕ) SqlError
component_at bytes = behind_oid (word_at bytes)

-- the member in front, and then the others
abbrev pub read_member : {A B E : Type 0} → (SqlError → E) → (Cell → Result A E) → (List ℕ → Result B E) → List ℕ
    → Result (A × B) E
read_member name read read_others bytes =
    named name (component_at bytes) >>= λ c. read c.0.cell >>= λ v. read_others c.1 >>= λ vs. Ok (v, vs)

abbrev pub read_none : {E : Type 0} → (SqlError → E) → List ℕ → Result (Unit {0}) E
read_none name [] = Ok tt
read_none name (b ∷ bs) = Err (name Surplus)

abbrev pub behind_count : {A E : Type 0} → (SqlError → E) → ℕ → (List ℕ → Result A E) → Option (ℕ × List ℕ)
    → Result A E
behind_count name members read None = Err (name ShortBuffer)
behind_count name members read (Some w) =
    if w.0 == members then read w.1 else Err (name (TupleCount (cast_signed w32 members) (cast_signed w32 w.0)))

-- a value of so many members, which are read behind the count
abbrev pub read_record_by : {A E : Type 0} → (SqlError → E) → ℕ → (List ℕ → Result A E) → List ℕ → Result A E
read_record_by name members read bytes = behind_count name members read (word_at bytes)

-- the value of a record, or the kind in which it breaks
abbrev pub read_record : {A : Type 0} → ℕ → (List ℕ → Result A Break) → List ℕ → Result A Break
read_record members read bytes = read_record_by kind_named members read bytes
