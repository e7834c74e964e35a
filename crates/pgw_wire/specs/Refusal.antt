-- The numbers of the errors with which a cell or a row is refused, and in which kind a cell breaks that is refused so.
use Rattle.std.specs.Prelude.{ℕ, ◌==◌, ◌&&◌, ◌||◌, nat_le, Option, None, Some, if◌then◌else◌}
use Rattle.pgw_wire.specs.declared.kind.Break.{Break}
use Rattle.pgw_wire.specs.declared.kind.Break.TheVariants as kind
use Rattle.pgw_wire.specs.declared.sql_error.SqlError.{SqlError}
use Rattle.pgw_wire.specs.declared.sql_error.SqlError.TheVariants.{UnexpectedNull, UnexpectedEndOfRow, ShortBuffer, WrongSize, EmptyResponse, ShortValue, ElementBytes, RangeElement, NegativeSize, Dimensions, BadUtf8, InvalidSign, Network, BadPrefix, MacLength, UuidLength, TupleCount, ZeroOid, Surplus, InvalidJson, JsonbVersion, JsonFloat, OutOfRange, MissingColumn, Field, Custom, NoMemory}

abbrev pub number_of : SqlError → ℕ
number_of UnexpectedNull = 1
number_of UnexpectedEndOfRow = 2
number_of ShortBuffer = 3
number_of (WrongSize want have) = 4
number_of EmptyResponse = 5
number_of (ShortValue have want) = 6
number_of (ElementBytes want have) = 7
number_of (RangeElement want have) = 8
number_of (NegativeSize n) = 9
number_of (Dimensions n) = 10
number_of BadUtf8 = 11
number_of (InvalidSign sign) = 12
number_of (Network fault) = 13
number_of (BadPrefix n) = 14
number_of (MacLength want) = 15
number_of (UuidLength have) = 16
number_of (TupleCount want have) = 17
number_of ZeroOid = 18
number_of Surplus = 19
number_of InvalidJson = 20
number_of (JsonbVersion n) = 21
number_of JsonFloat = 22
number_of OutOfRange = 23
number_of MissingColumn = 24
number_of (Field error) = 25
number_of (Custom n) = 26
number_of NoMemory = 27

-- in which kind a cell breaks that is refused with the error of this number, where it breaks
abbrev pub kind_of_number : ℕ → Option Break
kind_of_number n =
    if n == 1 then Some kind.Null
    else if (nat_le 3 n && nat_le n 9) || n == 15 || n == 16 then Some kind.Size
    else if n == 10 then Some kind.Dimensions
    else if n == 11 then Some kind.Utf8
    else if n == 12 then Some kind.Sign
    else if n == 13 then Some kind.Family
    else if n == 14 then Some kind.Prefix
    else if n == 17 then Some kind.Count
    else if n == 18 then Some kind.ZeroOid
    else if n == 19 then Some kind.Surplus
    else None

-- The error of a field is of the kind of the error that refused it.
abbrev pub kind_of : SqlError → Option Break
kind_of (Field error) = kind_of_number error.number
kind_of e = kind_of_number (number_of e)
