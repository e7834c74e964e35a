-- Which oids of named types the written fields of columns hold, so that they have to be known.
use Rattle.std.specs.Prelude.{Bool, true, false, ◌||◌, ◌&&◌, List, [], ◌∷◌, ◌++◌, map, flat_map, if◌then◌else◌}
use Rattle.std.specs.Option.{option_eq}
use Rattle.std.specs.Str.{bytes_eq}
use Rattle.pgw_meta.specs.Known.{Key}
use Rattle.pgw_meta.specs.Keys.{owned_key}
use Rattle.pgw_meta.specs.Shape.{Shape, scalar, nullable, array, range, multirange, composite, named, Shapes, no_shapes, shape_then}
use Rattle.pgw_meta.specs.declared.needs.Need.{Need}

-- The two keys have the same name, and stand in the same schema, or in none that is said.
abbrev pub is_same_key : Key → Key → Bool
is_same_key a b = option_eq bytes_eq a.schema b.schema && bytes_eq a.name b.name

-- a key, and which of its two oids are needed: that of the type, that of its arrays
pub record NeededKey : Type 0 where
  pub key : Key
  pub type_side : Bool
  pub array_side : Bool

abbrev pub needed_key : Need → NeededKey
needed_key n = record { key = owned_key n.key; type_side = n.type_side; array_side = n.array_side }

abbrev pub needed_keys : List Need → List NeededKey
needed_keys ns = map needed_key ns

-- what the oid of the arrays of a type needs
abbrev pub array_oid_needs : Shape → List NeededKey
array_oid_needs (nullable t) = array_oid_needs t
array_oid_needs (named k t) = record { key = k; type_side = false; array_side = true } ∷ []
array_oid_needs _ = []

-- what the oid of a type needs
abbrev pub oid_needs : Shape → List NeededKey
oid_needs (nullable t) = oid_needs t
oid_needs (array t) = array_oid_needs t
oid_needs (named k t) = record { key = k; type_side = true; array_side = false } ∷ []
oid_needs _ = []

-- What a field of a type needs, in the order of its bytes: an array holds the oid of its elements, and a record that of
-- each component in front of the component.
abbrev mutual
  pub field_needs : Shape → List NeededKey
  field_needs (scalar s) = []
  field_needs (nullable t) = field_needs t
  field_needs (array t) = oid_needs t ++ field_needs t
  field_needs (range t) = field_needs t
  field_needs (multirange t) = field_needs t
  field_needs (composite ts) = components_needs ts
  field_needs (named k t) = field_needs t

  pub components_needs : Shapes → List NeededKey
  components_needs no_shapes = []
  components_needs (shape_then t ts) = oid_needs t ++ field_needs t ++ components_needs ts

-- with the sides that another need of the same key asks for too
abbrev pub joined : NeededKey → NeededKey → NeededKey
joined n m = record n { type_side = n.type_side || m.type_side; array_side = n.array_side || m.array_side }

-- A need is joined with the first of its key, and stands behind all others where its key is new.
abbrev pub with_need : List NeededKey → NeededKey → List NeededKey
with_need [] m = m ∷ []
with_need (n ∷ ns) m = if is_same_key n.key m.key then joined n m ∷ ns else n ∷ with_need ns m

abbrev pub with_needs : List NeededKey → List NeededKey → List NeededKey
with_needs ns [] = ns
with_needs ns (m ∷ ms) = with_needs (with_need ns m) ms

-- what the columns of a schema need, each key once
abbrev pub needs_of : List Shape → List NeededKey
needs_of columns = with_needs [] (flat_map field_needs columns)
