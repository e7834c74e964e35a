-- What the definitions say of errors with which a cell is refused: each, in the order of their numbers, and some of a field.
use Rattle.std.proofs.Common.{◌≡◌, ℕ, pos, negsuc, List, [], ◌∷◌, Option, None, Some, refl}
use Rattle.pgw_wire.specs.Refusal.{number_of, kind_of}
use Rattle.pgw_wire.specs.declared.kind.Break.{Break}
use Rattle.pgw_wire.specs.declared.kind.Break.TheVariants as kind
use Rattle.pgw_wire.specs.declared.sql_error.NetworkFault.TheVariants.{TooShort}
use Rattle.pgw_wire.specs.declared.sql_error.SqlError.{SqlError}
use Rattle.pgw_wire.specs.declared.sql_error.SqlError.TheVariants.{UnexpectedNull, UnexpectedEndOfRow, ShortBuffer, WrongSize, EmptyResponse, ShortValue, ElementBytes, RangeElement, NegativeSize, Dimensions, BadUtf8, InvalidSign, Network, BadPrefix, MacLength, UuidLength, TupleCount, ZeroOid, Surplus, InvalidJson, JsonbVersion, JsonFloat, OutOfRange, MissingColumn, Field, Custom, NoMemory}

abbrev numbers : List SqlError → List ℕ
numbers [] = []
numbers (e ∷ es) = number_of e ∷ numbers es

abbrev kinds : List SqlError → List (Option Break)
kinds [] = []
kinds (e ∷ es) = kind_of e ∷ kinds es

abbrev of_a_field : ℕ → SqlError
of_a_field number = Field (record { column = 3; number = number })

-- those that say what is wrong with a cell, and then the others
abbrev of_cells : List SqlError
of_cells =
    UnexpectedNull ∷ ShortBuffer ∷ WrongSize 4 3 ∷ EmptyResponse ∷ ShortValue 4 8 ∷ ElementBytes (pos 6) 4
    ∷ RangeElement (pos 6) 4 ∷ NegativeSize (negsuc 1) ∷ Dimensions (pos 2) ∷ BadUtf8
    ∷ InvalidSign (record { 0 = 1 }) ∷ Network TooShort ∷ BadPrefix 33 ∷ MacLength 6 ∷ UuidLength 4
    ∷ TupleCount (pos 2) (pos 1) ∷ ZeroOid ∷ Surplus ∷ []

abbrev others : List SqlError
others =
    UnexpectedEndOfRow ∷ InvalidJson ∷ JsonbVersion 2 ∷ JsonFloat ∷ OutOfRange ∷ MissingColumn ∷ of_a_field 4 ∷ Custom 7
    ∷ NoMemory ∷ []

numbers_of_cells : numbers of_cells ≡ 1 ∷ 3 ∷ 4 ∷ 5 ∷ 6 ∷ 7 ∷ 8 ∷ 9 ∷ 10 ∷ 11 ∷ 12 ∷ 13 ∷ 14 ∷ 15 ∷ 16 ∷ 17 ∷ 18 ∷ 19 ∷ []
numbers_of_cells = refl

kinds_of_cells : kinds of_cells
    ≡ Some kind.Null ∷ Some kind.Size ∷ Some kind.Size ∷ Some kind.Size ∷ Some kind.Size ∷ Some kind.Size ∷ Some kind.Size
    ∷ Some kind.Size ∷ Some kind.Dimensions ∷ Some kind.Utf8 ∷ Some kind.Sign ∷ Some kind.Family ∷ Some kind.Prefix
    ∷ Some kind.Size ∷ Some kind.Size ∷ Some kind.Count ∷ Some kind.ZeroOid ∷ Some kind.Surplus ∷ []
kinds_of_cells = refl

numbers_of_others : numbers others ≡ 2 ∷ 20 ∷ 21 ∷ 22 ∷ 23 ∷ 24 ∷ 25 ∷ 26 ∷ 27 ∷ []
numbers_of_others = refl

kinds_of_others : kinds others ≡ None ∷ None ∷ None ∷ None ∷ None ∷ None ∷ Some kind.Size ∷ None ∷ None ∷ []
kinds_of_others = refl

-- a null, an error of a row, the number of a field's error, and two numbers that no error has
kinds_of_fields : kinds (of_a_field 1 ∷ of_a_field 2 ∷ of_a_field 25 ∷ of_a_field 0 ∷ of_a_field 28 ∷ [])
    ≡ Some kind.Null ∷ None ∷ None ∷ None ∷ None ∷ []
kinds_of_fields = refl
