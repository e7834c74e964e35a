-- Fields that are canonical as they stand, and which of them are told by a few words that are kept of a column.
use Rattle.std.specs.Prelude.{◌≡◌, ℕ, Bool, true, false, ◌≤◌, ◌⊎◌, List, [], ◌∷◌, ◌++◌, length, None, Some}
use Rattle.std.specs.Str.{IsUtf8}
use Rattle.std.specs.List.{AllByRecursion}
use Rattle.pgw_wire.specs.Cell.{Cell, frame}
use Rattle.pgw_meta.specs.Known.{Known}
use Rattle.pgw_meta.specs.Shape.{Scalar, bool, char, int2, int4, int8, oid, text, bytea, uuid, money, pg_lsn, macaddr, macaddr8, inet, cidr, date, time, timestamp, timestamptz, interval, numeric, Shape, scalar, nullable, array, named}
use Rattle.pgw_meta.specs.NamedOids.{oids_of}
use Rattle.pgw_meta.specs.Schema.{is_nullable}
use Rattle.pgw_nested.specs.Array.{AreArrayCells, is_null, any_null, array_bytes}
use Rattle.pgw_nested.specs.Frames.{frames}
use Rattle.pgw_scalar.specs.Networks.{Network, IsNetwork}
use Rattle.pgw_numeric.specs.Numeric.{Numeric as Number, IsNumeric, numeric_bytes}
use Rattle.pgw_cell.specs.Value.{Value}
use Rattle.pgw_cell.specs.Cells.{Spells, Fits, canonical_cell}
use Rattle.pgw_cell.specs.declared.plain.Rule.{Rule}
use Rattle.pgw_cell.specs.declared.plain.Rule.TheVariants.{One, Two, Four, Six, Eight, Sixteen, Truth, Text, Bytes, Inet, Cidr, Numeric, Array, Nothing}
use Rattle.pgw_cell.specs.declared.plain.PlainElement.{PlainElement}
use Rattle.pgw_cell.specs.declared.plain.PlainCell.{PlainCell}

-- the canonical field of a value of the type, which has at most so many bytes
pub record IsPlainField (known : Known) (most : ℕ) (t : Shape) (bytes : List ℕ) : Type 0 where
  pub value : Value
  pub spells : Spells t (canonical_cell known t value) value
  pub fits : Fits most t value
  pub is : bytes ≡ frame (canonical_cell known t value)

-- which pieces of a scalar type are canonical as they stand
abbrev pub scalar_rule : Scalar → Rule
scalar_rule bool = Truth
scalar_rule char = One
scalar_rule int2 = Two
scalar_rule int4 = Four
scalar_rule int8 = Eight
scalar_rule oid = Four
scalar_rule text = Text
scalar_rule bytea = Bytes
scalar_rule uuid = Sixteen
scalar_rule money = Eight
scalar_rule pg_lsn = Eight
scalar_rule macaddr = Six
scalar_rule macaddr8 = Eight
scalar_rule inet = Inet
scalar_rule cidr = Cidr
scalar_rule date = Four
scalar_rule time = Eight
scalar_rule timestamp = Eight
scalar_rule timestamptz = Eight
scalar_rule interval = Sixteen
scalar_rule numeric = Numeric

abbrev pub plain_rule : Shape → Rule
plain_rule (scalar s) = scalar_rule s
plain_rule (nullable t) = plain_rule t
plain_rule (array t) = Array
plain_rule (named k t) = plain_rule t
plain_rule _ = Nothing

-- of a type that is no array
abbrev pub no_element : PlainElement
no_element = record { rule = Nothing; nullable = false; oid = 0 }

-- what is kept of the elements of an array type, by what is known of the oids of named types
abbrev pub plain_element : Known → Shape → PlainElement
plain_element known (nullable t) = plain_element known t
plain_element known (array t) = record { rule = plain_rule t; nullable = is_nullable t; oid = (oids_of known t).oid }
plain_element known (named k t) = plain_element known t
plain_element known _ = no_element

-- what is kept of a column of the type
abbrev pub plain_cell : Known → Shape → PlainCell
plain_cell known t = record { rule = plain_rule t; nullable = is_nullable t; element = plain_element known t }

-- of a type without null whose values are written in four bytes, and spelled by any four
abbrev pub four_bytes : PlainCell
four_bytes = record { rule = Four; nullable = false; element = no_element }

-- The words that are kept are those of a column of this type, by what is known of the oids of named types.
abbrev pub IsPlainCellOf : Known → PlainCell → Shape → Type 0
IsPlainCellOf known cell t = cell ≡ plain_cell known t

-- The piece is the field of a network with this byte of the type.
abbrev pub IsSomeNetwork : ℕ → List ℕ → Type 0
IsSomeNetwork type_byte piece = (n : Network) × IsNetwork type_byte piece n

-- A piece that passes a rule: so many bytes, a truth of 0 or 1, UTF-8, any bytes, a network, a numeric and nothing behind it.
abbrev pub Passes : Rule → List ℕ → Type 0
Passes One piece = length piece ≡ 1
Passes Two piece = length piece ≡ 2
Passes Four piece = length piece ≡ 4
Passes Six piece = length piece ≡ 6
Passes Eight piece = length piece ≡ 8
Passes Sixteen piece = length piece ≡ 16
Passes Truth piece = (piece ≡ 0 ∷ []) ⊎ (piece ≡ 1 ∷ [])
Passes Text piece = IsUtf8 piece
Passes Bytes piece = Unit {0}
Passes Inet piece = IsSomeNetwork 0 piece
Passes Cidr piece = IsSomeNetwork 1 piece
Passes Numeric piece = (n : Number) × IsNumeric piece n × (numeric_bytes n ≡ piece)
Passes Array piece = ⊥
Passes Nothing piece = ⊥

-- A cell passes as an element: a null where nulls are values, and a piece that passes the rule and that a frame may hold.
abbrev pub PassesElement : PlainElement → Cell → Type 0
PassesElement element None = element.nullable ≡ true
PassesElement element (Some p) = Passes element.rule p × (length p ≤ 2147483647)

-- The bytes are the frame of a cell that passes, which is a null or is none, and the rest.
pub record IsPlainElement (element : PlainElement) (bytes : List ℕ) (null : Bool) (rest : List ℕ) : Type 0 where
  pub cell : Cell
  pub pass : PassesElement element cell
  pub is : bytes ≡ frame cell ++ rest
  pub nulls : null ≡ is_null cell

-- The bytes are the frames of so many cells that pass, of which one is a null or none is, and the rest.
pub record ArePlainElements (element : PlainElement) (count : ℕ) (bytes : List ℕ) (null : Bool) (rest : List ℕ)
    : Type 0 where
  pub cells : List Cell
  pub many : length cells ≡ count
  pub is : bytes ≡ frames cells ++ rest
  pub nulls : null ≡ any_null cells
  pub pass : AllByRecursion (PassesElement element) cells

-- what is kept of elements of the type, whatever oid it has
abbrev pub element_kept : Shape → PlainElement
element_kept t = record { rule = plain_rule t; nullable = is_nullable t; oid = 0 }

-- The piece is the field of an array of so many cells that pass, of which one is a null or none is, and these are their
-- frames.
pub record PassesElements (t : Shape) (piece : List ℕ) (count : ℕ) (null : Bool) (bytes : List ℕ) : Type 0 where
  pub cells : List Cell
  pub are : AreArrayCells piece cells
  pub pass : AllByRecursion (PassesElement (element_kept t)) cells
  pub many : length cells ≡ count
  pub nulls : null ≡ any_null cells
  pub is : bytes ≡ frames cells

-- The piece is what cells that pass are written as.
pub record PassesArray (element : PlainElement) (piece : List ℕ) : Type 0 where
  pub cells : List Cell
  pub pass : AllByRecursion (PassesElement element) cells
  pub is : piece ≡ array_bytes element.oid cells

-- Bytes are the field of a piece of at most so many bytes, which passes, and the rest.
pub record IsPassedBefore (most : ℕ) (Pass : List ℕ → Type 0) (bytes rest : List ℕ) : Type 0 where
  pub piece : List ℕ
  pub passes : Pass piece
  pub fits : length piece ≤ most
  pub is : bytes ≡ frame (Some piece) ++ rest
