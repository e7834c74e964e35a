-- The kinds of a database's errors, by their SQLSTATE: the error codes of PostgreSQL's manual, appendix A.
use Rattle.std.specs.Prelude.{ℕ, List, [], ◌∷◌, Bool, Option, if◌then◌else◌, codes}
use Rattle.std.specs.Str.{bytes_eq}
use Rattle.std.specs.Option.{option_map_or}
use Rattle.pgw_row.specs.declared.error_kind.DatabaseErrorKind.{DatabaseErrorKind}
use Rattle.pgw_row.specs.declared.error_kind.DatabaseErrorKind.TheVariants.{UniqueViolation, ForeignKeyViolation, SerializationFailure, ReadOnlyTransaction, NotNullViolation, CheckViolation, RestrictViolation, ExclusionViolation, ClosedConnection, Unknown}

abbrev pub kinds_by_state : List (List ℕ × DatabaseErrorKind)
kinds_by_state =
    (codes "23505", UniqueViolation) ∷ (codes "23503", ForeignKeyViolation) ∷ (codes "40001", SerializationFailure)
    ∷ (codes "25006", ReadOnlyTransaction) ∷ (codes "23502", NotNullViolation) ∷ (codes "23514", CheckViolation)
    ∷ (codes "23001", RestrictViolation) ∷ (codes "23P01", ExclusionViolation) ∷ (codes "08000", ClosedConnection)
    ∷ (codes "08006", ClosedConnection) ∷ (codes "08001", ClosedConnection) ∷ (codes "08004", ClosedConnection) ∷ []

-- the kind beside a SQLSTATE in a table; one that stands in no line is of no known kind
abbrev pub kind_in : List (List ℕ × DatabaseErrorKind) → List ℕ → DatabaseErrorKind
kind_in [] state = Unknown
kind_in (line ∷ lines) state = if bytes_eq state line.0 then line.1 else kind_in lines state

-- The kind of an error, by its SQLSTATE, which it may lack, and by whether the connection is bad, which counts more.
abbrev pub kind_of : Option (List ℕ) → Bool → DatabaseErrorKind
kind_of state bad = if bad then ClosedConnection else option_map_or (kind_in kinds_by_state) state Unknown
