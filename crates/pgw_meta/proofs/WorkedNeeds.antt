-- What the definitions say of columns of named types, and of entries, that are written out.
use Rattle.std.proofs.Common.{◌≡◌, ℕ, Bool, true, false, List, [], ◌∷◌, Some, None, refl}
use Rattle.pgw_meta.specs.Known.{Key, Oids}
use Rattle.pgw_meta.specs.Shape.{Shape, scalar, int4, text, nullable, array, range, multirange, composite, named, no_shapes, shape_then}
use Rattle.pgw_meta.specs.Needs.{NeededKey, needs_of}
use Rattle.pgw_meta.specs.NamedOids.{known_of, oids_of}
use Rattle.pgw_meta.specs.declared.found_oids.Found.{Found}

-- the keys `t`, in no schema that is said, `a.t` and `u`
abbrev bare_t : Key
bare_t = record { schema = None; name = 116 ∷ [] }

abbrev a_t : Key
a_t = record { schema = Some (97 ∷ []); name = 116 ∷ [] }

abbrev bare_u : Key
bare_u = record { schema = None; name = 117 ∷ [] }

abbrev named_text : Key → Shape
named_text k = named k (scalar text)

abbrev needed : Key → Bool → Bool → NeededKey
needed k type_side array_side = record { key = k; type_side = type_side; array_side = array_side }

-- A column of a named type, null or not, holds no oid.
pub bare_needs_nothing : needs_of (named_text bare_t ∷ nullable (named_text bare_u) ∷ scalar int4 ∷ []) ≡ []
bare_needs_nothing = refl

-- An array holds the oid of its elements.
pub array_needs_the_type : needs_of (nullable (array (nullable (named_text bare_t))) ∷ []) ≡ needed bare_t true false ∷ []
array_needs_the_type = refl

-- A record holds the oid of a component, and of an array as a component that of the arrays, before what the component holds.
pub record_needs_both : needs_of (composite (shape_then (nullable (array (named_text bare_u))) (shape_then (named_text a_t) no_shapes)) ∷ [])
    ≡ needed bare_u true true ∷ needed a_t true false ∷ []
record_needs_both = refl

-- Needs of one key stand together at the first of them; the key with a schema is another.
pub joined_at_the_first : needs_of (array (named_text bare_t) ∷ array (named_text a_t)
    ∷ array (named bare_u (composite (shape_then (array (named_text bare_t)) no_shapes))) ∷ [])
    ≡ needed bare_t true true ∷ needed a_t true false ∷ needed bare_u true false ∷ []
joined_at_the_first = refl

-- what is inside a named record
pub inside_a_named_record : needs_of (named bare_u (composite (shape_then (named_text bare_t) no_shapes)) ∷ []) ≡ needed bare_t true false ∷ []
inside_a_named_record = refl

abbrev entry : Key → ℕ → ℕ → Found
entry k n m = record { key = record { schema = k.schema; name = k.name }; oid = n; array_oid = m }

-- of two entries of `t` the first counts
abbrev entries : List Found
entries = entry a_t 1 2 ∷ entry bare_t 3 4 ∷ entry bare_t 5 6 ∷ []

abbrev both : ℕ → ℕ → Oids
both n m = record { oid = n; array_oid = m }

pub first_counts : known_of entries bare_t ≡ Some (both 3 4)
first_counts = refl

pub schema_is_told : known_of entries a_t ≡ Some (both 1 2)
schema_is_told = refl

pub not_known : known_of entries bare_u ≡ None
not_known = refl

pub element_oid : oids_of (known_of entries) (array (nullable (named_text bare_t))) ≡ both 4 0
element_oid = refl

pub nullable_range : oids_of (known_of entries) (nullable (range (scalar int4))) ≡ both 3904 3905
nullable_range = refl

pub array_of_multiranges : oids_of (known_of entries) (array (multirange (scalar int4))) ≡ both 6150 0
array_of_multiranges = refl

pub no_range_over_text : oids_of (known_of entries) (range (scalar text)) ≡ both 0 0
no_range_over_text = refl
