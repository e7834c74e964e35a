-- The trees that the program's types are.
use Rattle.std.specs.Prelude.{List, [], ◌∷◌, map}
use Rattle.pgw_meta.specs.Keys.{owned_key}
use Rattle.pgw_meta.specs.Shape.{Shape, scalar, bool, char, int2, int4, int8, oid, text, bytea, uuid, money, pg_lsn, macaddr, macaddr8, inet, cidr, date, time, timestamp, timestamptz, interval, numeric, nullable, array, range, multirange, composite, named, Shapes, no_shapes, shape_then}
use Rattle.pgw_meta.specs.declared.types.TypeList.{TypeList}
use Rattle.pgw_meta.specs.declared.types.PgType.{PgType, Row_of-PgType, end_of-PgType, more_of-PgType}
use Rattle.pgw_meta.specs.declared.types.PgType.TheVariants.{Bool, Char, Int2, Int4, Int8, Oid, Text, Bytea, Uuid, Money, Lsn, Mac, Mac8, Inet, Cidr, Date, Time, Timestamp, Timestamptz, Interval, Numeric, Nullable', Array', Range', Multirange', Record', Named'}

abbrev pub types_of : TypeList → List PgType
types_of l = l.types

abbrev mutual
  pub shape : PgType → Shape
  shape Bool = scalar bool
  shape Char = scalar char
  shape Int2 = scalar int2
  shape Int4 = scalar int4
  shape Int8 = scalar int8
  shape Oid = scalar oid
  shape Text = scalar text
  shape Bytea = scalar bytea
  shape Uuid = scalar uuid
  shape Money = scalar money
  shape Lsn = scalar pg_lsn
  shape Mac = scalar macaddr
  shape Mac8 = scalar macaddr8
  shape Inet = scalar inet
  shape Cidr = scalar cidr
  shape Date = scalar date
  shape Time = scalar time
  shape Timestamp = scalar timestamp
  shape Timestamptz = scalar timestamptz
  shape Interval = scalar interval
  shape Numeric = scalar numeric
  shape (Nullable' p t) = nullable (shape t)
  shape (Array' p t) = array (shape t)
  shape (Range' p t) = range (shape t)
  shape (Multirange' p t) = multirange (shape t)
  shape (Record' n ts) = composite (row_shapes ts)
  shape (Named' k p t) = named (owned_key k) (shape t)

  pub row_shapes : {m : _} → Row_of-PgType m → Shapes
  row_shapes end_of-PgType = no_shapes
  row_shapes (more_of-PgType t ts) = shape_then (shape t) (row_shapes ts)

-- of a record's components
abbrev pub shapes : List PgType → Shapes
shapes [] = no_shapes
shapes (t ∷ ts) = shape_then (shape t) (shapes ts)

-- of columns
abbrev pub column_shapes : List PgType → List Shape
column_shapes ts = map shape ts
