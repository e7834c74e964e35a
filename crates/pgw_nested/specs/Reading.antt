-- What the field of an array is read as, as one function from left to right beside the definitions, for the proofs.
use Rattle.std.specs.Prelude.{◌&&◌, ◌==◌, if◌then◌else◌, nat_lt, ℕ, zero, suc, Bool}
use Rattle.std.specs.Prelude.{List, [], ◌∷◌, length, take, drop, Option, None, Some, Result, Ok, Err}
use Rattle.std.specs.Int.{w32, from_be_bytes, cast_signed}
use Rattle.pgw_wire.specs.Cell.{Cell}
use Rattle.pgw_wire.specs.declared.kind.Break.{Break}
use Rattle.pgw_wire.specs.declared.sql_error.SqlError.{SqlError}
use Rattle.pgw_wire.specs.declared.sql_error.SqlError.TheVariants.{ShortBuffer, NegativeSize, ElementBytes, Dimensions}
use Rattle.pgw_nested.specs.Array.{Elements, no_elements, elements_behind, kind_named}

infixl 10 ◌>>=◌
abbrev pub ◌>>=◌ : {E A B : Type 0} → Result A E → (A → Result B E) → Result B E
(Ok x) >>= f = f x
(Err e) >>= f = Err e

-- an error by its name
abbrev pub named : {A E : Type 0} → (SqlError → E) → Result A SqlError → Result A E
named name (Ok x) = Ok x
named name (Err error) = Err (name error)

-- the number in the first four bytes, and the rest
abbrev pub word_at : List ℕ → Option (ℕ × List ℕ)
word_at bytes = if nat_lt (length bytes) 4 then None else Some (from_be_bytes w32 (take 4 bytes), drop 4 bytes)

-- the number in the four bytes at a place
abbrev pub word_in : List ℕ → ℕ → ℕ
word_in bytes place = from_be_bytes w32 (take 4 (drop place bytes))

-- the piece of this length, and the rest
abbrev pub piece_at : ℕ → List ℕ → Result (Cell × List ℕ) SqlError
piece_at n rest =
    if nat_lt n 2147483648
    then (if nat_lt (length rest) n
    then Err (ElementBytes (cast_signed w32 n) (length rest))
    else Ok (Some (take n rest), drop n rest))
    else Err (NegativeSize (cast_signed w32 n))

abbrev pub behind_length : Bool → Option (ℕ × List ℕ) → Result (Cell × List ℕ) SqlError
behind_length nulls None = Err ShortBuffer
behind_length nulls (Some w) = if nulls && w.0 == 4294967295 then Ok (None, w.1) else piece_at w.0 w.1

-- the cell whose frame stands in front, and the rest
unfoldable pub cell_at : Bool → List ℕ → Result (Cell × List ℕ) SqlError
cell_at nulls bytes = behind_length nulls (word_at bytes)

-- the elements of an array that begins so
unfoldable pub elements_at : List ℕ → Result Elements SqlError
elements_at bytes =
    if nat_lt (length bytes) 12 then Err ShortBuffer
    else if word_in bytes 0 == 0 then Ok no_elements
    else if nat_lt (length bytes) 20 then Err ShortBuffer
    else if word_in bytes 0 == 1 then Ok (elements_behind (word_in bytes 4) (word_in bytes 12) (drop 20 bytes))
    else Err (Dimensions (cast_signed w32 (word_in bytes 0)))

-- as many cells, whose frames stand in front, each as an element, and the rest
unfoldable pub read_cells : {A E : Type 0} → (SqlError → E) → (Cell → Result A E) → Bool → ℕ → List ℕ
    → Result (List A × List ℕ) E
read_cells name read nulls zero bytes = Ok ([], bytes)
read_cells name read nulls (suc n) bytes =
    named name (cell_at nulls bytes) >>= λ cell. read cell.0 >>= λ v.
    read_cells name read nulls n cell.1 >>= λ vs. Ok (v ∷ vs.0, vs.1)

abbrev pub read_array_by : {A E : Type 0} → (SqlError → E) → (Cell → Result A E) → List ℕ → Result (List A) E
read_array_by name read bytes =
    named name (elements_at bytes) >>= λ e. read_cells name read e.nulls e.left e.rest >>= λ x. Ok x.0

-- the values of an array, or the kind in which it breaks
abbrev pub read_array : {A : Type 0} → (Cell → Result A Break) → List ℕ → Result (List A) Break
read_array read bytes = read_array_by kind_named read bytes
