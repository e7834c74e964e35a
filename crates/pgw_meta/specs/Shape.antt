-- Types of PostgreSQL's, as trees.
use Rattle.std.specs.Prelude.{ℕ, suc}
use Rattle.pgw_meta.specs.Known.{Key}

-- the types that stand on no other
pub data Scalar : Type 0 where
  bool : Scalar
  char : Scalar
  int2 : Scalar
  int4 : Scalar
  int8 : Scalar
  oid : Scalar
  text : Scalar
  bytea : Scalar
  uuid : Scalar
  money : Scalar
  pg_lsn : Scalar
  macaddr : Scalar
  macaddr8 : Scalar
  inet : Scalar
  cidr : Scalar
  date : Scalar
  time : Scalar
  timestamp : Scalar
  timestamptz : Scalar
  interval : Scalar
  numeric : Scalar

mutual
  pub data Shape : Type 0 where
    scalar : Scalar → Shape
    nullable : Shape → Shape
    array : Shape → Shape
    range : Shape → Shape
    multirange : Shape → Shape
    composite : Shapes → Shape
    named : Key → Shape → Shape

  -- the types of a record's components
  pub data Shapes : Type 0 where
    no_shapes : Shapes
    shape_then : Shape → Shapes → Shapes

abbrev pub count_shapes : Shapes → ℕ
count_shapes no_shapes = 0
count_shapes (shape_then t ts) = suc (count_shapes ts)
