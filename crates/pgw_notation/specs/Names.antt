-- Names of types and of schemas, and the names that the notation has for types.
use Rattle.std.specs.Prelude.{ℕ, ◌==◌, ◌&&◌, ◌||◌, List, [], ◌∷◌, ◌++◌, length, codes, Option, None, Some, Bool, IsTrue, nat_lt, nat_le, ⊤, if◌then◌else◌}
use Rattle.std.specs.Char.{is_ascii_alphanumeric}
use Rattle.std.specs.List.{list_all}
use Rattle.std.specs.Option.{option_or}
use Rattle.std.specs.Str.{bytes_eq}
use Rattle.pgw_meta.specs.Known.{Key}
use Rattle.pgw_meta.specs.Shape.{Scalar, bool, char, int2, int4, int8, oid, text, bytea, uuid, money, pg_lsn, macaddr, macaddr8, inet, cidr, date, time, timestamp, timestamptz, interval, numeric, Shape, scalar, range, multirange}

-- a letter of ASCII, a digit or `_`
abbrev pub is_name_byte : ℕ → Bool
is_name_byte byte = is_ascii_alphanumeric byte || byte == 95

-- A name has 1 to 63 of these.
abbrev pub is_name : List ℕ → Bool
is_name bytes = nat_lt 0 (length bytes) && nat_le (length bytes) 63 && list_all is_name_byte bytes

-- a schema's name that may be there
abbrev pub IsSchemaName : Option (List ℕ) → Type 0
IsSchemaName None = ⊤
IsSchemaName (Some schema) = IsTrue (is_name schema)

-- Both texts of a key are names.
pub record IsNamed (key : Key) : Type 0 where
  pub schema : IsSchemaName key.schema
  pub name : IsTrue (is_name key.name)

abbrev pub scalar_name : Scalar → List ℕ
scalar_name bool = codes "bool"
scalar_name char = codes "char"
scalar_name int2 = codes "int2"
scalar_name int4 = codes "int4"
scalar_name int8 = codes "int8"
scalar_name oid = codes "oid"
scalar_name text = codes "text"
scalar_name bytea = codes "bytea"
scalar_name uuid = codes "uuid"
scalar_name money = codes "money"
scalar_name pg_lsn = codes "pg_lsn"
scalar_name macaddr = codes "macaddr"
scalar_name macaddr8 = codes "macaddr8"
scalar_name inet = codes "inet"
scalar_name cidr = codes "cidr"
scalar_name date = codes "date"
scalar_name time = codes "time"
scalar_name timestamp = codes "timestamp"
scalar_name timestamptz = codes "timestamptz"
scalar_name interval = codes "interval"
scalar_name numeric = codes "numeric"

-- what the names of the ranges and multiranges over a type begin with
abbrev pub range_stem : Scalar → List ℕ
range_stem int4 = codes "int4"
range_stem int8 = codes "int8"
range_stem numeric = codes "num"
range_stem date = codes "date"
range_stem timestamp = codes "ts"
range_stem timestamptz = codes "tstz"
range_stem _ = []

-- the name of a type that is written by its name alone
abbrev pub type_name : Shape → List ℕ
type_name (scalar s) = scalar_name s
type_name (range (scalar s)) = range_stem s ++ codes "range"
type_name (multirange (scalar s)) = range_stem s ++ codes "multirange"
type_name _ = []

abbrev pub scalar_types : List Shape
scalar_types =
    scalar bool ∷ scalar char ∷ scalar int2 ∷ scalar int4 ∷ scalar int8 ∷ scalar oid ∷ scalar text ∷ scalar bytea
    ∷ scalar uuid ∷ scalar money ∷ scalar pg_lsn ∷ scalar macaddr ∷ scalar macaddr8 ∷ scalar inet ∷ scalar cidr
    ∷ scalar date ∷ scalar time ∷ scalar timestamp ∷ scalar timestamptz ∷ scalar interval ∷ scalar numeric ∷ []

abbrev pub range_types : List Shape
range_types =
    range (scalar int4) ∷ range (scalar int8) ∷ range (scalar numeric) ∷ range (scalar date)
    ∷ range (scalar timestamp) ∷ range (scalar timestamptz) ∷ multirange (scalar int4) ∷ multirange (scalar int8)
    ∷ multirange (scalar numeric) ∷ multirange (scalar date) ∷ multirange (scalar timestamp)
    ∷ multirange (scalar timestamptz) ∷ []

-- the first of some types that has a name
abbrev pub named_among : List ℕ → List Shape → Option Shape
named_among name [] = None
named_among name (t ∷ ts) = if bytes_eq name (type_name t) then Some t else named_among name ts

-- the type that is written by this name alone
abbrev pub type_named : List ℕ → Option Shape
type_named name = option_or (named_among name scalar_types) (named_among name range_types)
