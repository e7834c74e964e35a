-- The first fault of a type in a column, from part to part, for the crate's own functions. `proofs/Faults.antt` proves
-- that it is that of the walk.
use Rattle.std.specs.Prelude.{ℕ, ◌+◌, Option, None}
use Rattle.std.specs.Option.{option_or}
use Rattle.pgw_meta.specs.Shape.{Shape, scalar, nullable, array, range, multirange, composite, named, Shapes, no_shapes, shape_then}
use Rattle.pgw_meta.specs.Schema.{fault_at}
use Rattle.pgw_meta.specs.declared.schema.SchemaError.{SchemaError}

-- the fault of a type at a depth by itself, or else that of its parts
abbrev own_or : ℕ → ℕ → Shape → Option SchemaError → Option SchemaError
own_or column d t of_parts = option_or (fault_at column (record { depth = d; tree = t })) of_parts

abbrev mutual
  pub type_fault : ℕ → ℕ → Shape → Option SchemaError
  type_fault column d (scalar s) = fault_at column (record { depth = d; tree = scalar s })
  type_fault column d (nullable t) = own_or column d (nullable t) (type_fault column (d + 1) t)
  type_fault column d (array t) = own_or column d (array t) (type_fault column (d + 1) t)
  type_fault column d (range t) = own_or column d (range t) (type_fault column (d + 1) t)
  type_fault column d (multirange t) = own_or column d (multirange t) (type_fault column (d + 1) t)
  type_fault column d (composite ts) = own_or column d (composite ts) (parts_fault column (d + 1) ts)
  type_fault column d (named k t) = own_or column d (named k t) (type_fault column (d + 1) t)

  pub parts_fault : ℕ → ℕ → Shapes → Option SchemaError
  parts_fault column d no_shapes = None
  parts_fault column d (shape_then t ts) = option_or (type_fault column d t) (parts_fault column d ts)
