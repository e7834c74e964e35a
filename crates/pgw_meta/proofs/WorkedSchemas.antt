-- What the definitions say of columns that are written out.
use Rattle.std.proofs.Common.{◌≡◌, ℕ, zero, suc, List, [], ◌∷◌, Some, None, refl, lit≤}
use Rattle.pgw_meta.specs.declared.schema.SchemaError.TheVariants.{NoColumns, NestedNullable, NestedArray, BadRange, EmptyRecord, BadNamed, TooDeep}
use Rattle.pgw_meta.specs.Known.{Key}
use Rattle.pgw_meta.specs.Shape.{Shape, scalar, int4, int8, text, uuid, timestamptz, nullable, array, range, multirange, composite, named, no_shapes, shape_then}
use Rattle.pgw_meta.specs.Schema.{IsValidSchema, schema_fault}

-- the key `citext`, in no schema that is said
abbrev citext : Key
citext = record { schema = None; name = 99 ∷ 105 ∷ 116 ∷ 101 ∷ 120 ∷ 116 ∷ [] }

abbrev plain_text : Shape
plain_text = scalar text

abbrev pair : Shape → Shape → Shape
pair t u = composite (shape_then t (shape_then u no_shapes))

-- a type inside so many records of one component
abbrev inside : ℕ → Shape → Shape
inside zero t = t
inside (suc n) t = composite (shape_then (inside n t) no_shapes)

-- An array of nullable elements that may be null itself, a range, a multirange of another type, and a named record.
abbrev valid : List Shape
valid = nullable (array (nullable (scalar int4))) ∷ range (scalar int8) ∷ multirange (scalar timestamptz)
    ∷ named citext (pair plain_text (nullable plain_text)) ∷ []

pub valid_is : IsValidSchema valid
valid_is = record {
  some = lit≤ tt;
  few = lit≤ tt;
  each = (
    record { shallow = lit≤ tt; formed = (refl, (refl, (refl, tt))) },
    (
      record { shallow = lit≤ tt; formed = (refl, tt) },
      (
        record { shallow = lit≤ tt; formed = (refl, tt) },
        (
          record { shallow = lit≤ tt; formed = (refl, (lit≤ tt, lit≤ tt, (tt, ((refl, tt), tt)))) },
          tt,
        ),
      ),
    ),
  );
}

pub valid_without : schema_fault valid ≡ None
valid_without = refl

pub no_columns : schema_fault [] ≡ Some NoColumns
no_columns = refl

-- Each fault in column 1, behind a column without one.
pub nested_nullable : schema_fault (scalar int4 ∷ nullable (nullable plain_text) ∷ []) ≡ Some (NestedNullable 1)
nested_nullable = refl

pub nested_array : schema_fault (scalar int4 ∷ array (array (scalar int4)) ∷ []) ≡ Some (NestedArray 1)
nested_array = refl

pub array_of_nullable_arrays : schema_fault (scalar int4 ∷ array (nullable (array (scalar int4))) ∷ []) ≡ Some (NestedArray 1)
array_of_nullable_arrays = refl

pub bad_range : schema_fault (scalar int4 ∷ range plain_text ∷ []) ≡ Some (BadRange 1)
bad_range = refl

pub bad_multirange : schema_fault (scalar int4 ∷ multirange (nullable (scalar int4)) ∷ []) ≡ Some (BadRange 1)
bad_multirange = refl

pub empty_record : schema_fault (scalar int4 ∷ composite no_shapes ∷ []) ≡ Some (EmptyRecord 1)
empty_record = refl

pub bad_named : schema_fault (scalar int4 ∷ named citext (scalar int4) ∷ []) ≡ Some (BadNamed 1)
bad_named = refl

-- A column is walked to its end before the next, and a component before the next.
pub first_column : schema_fault (pair (scalar int4) (range plain_text) ∷ array (array (scalar int4)) ∷ []) ≡ Some (BadRange 0)
first_column = refl

pub first_component : schema_fault (pair (array (range plain_text)) (composite no_shapes) ∷ []) ≡ Some (BadRange 0)
first_component = refl

-- A type is told before its parts.
pub outer_type : schema_fault (nullable (nullable (composite no_shapes)) ∷ []) ≡ Some (NestedNullable 0)
outer_type = refl

-- A type may stand at depth 32 and not at 33, which is the first fault of a type that has others too.
pub depth_32 : schema_fault (inside 31 plain_text ∷ []) ≡ None
depth_32 = refl

pub depth_33 : schema_fault (inside 32 plain_text ∷ []) ≡ Some (TooDeep 0)
depth_33 = refl

pub nullable_at_32 : schema_fault (inside 31 (nullable (nullable plain_text)) ∷ []) ≡ Some (NestedNullable 0)
nullable_at_32 = refl

pub nullable_at_33 : schema_fault (inside 32 (nullable (nullable plain_text)) ∷ []) ≡ Some (TooDeep 0)
nullable_at_33 = refl

-- The part of a range or of a named type stands one level deeper than that.
pub range_at_32 : schema_fault (inside 31 (range (scalar int4)) ∷ []) ≡ Some (TooDeep 0)
range_at_32 = refl

pub named_at_32 : schema_fault (inside 31 (named citext plain_text) ∷ []) ≡ Some (TooDeep 0)
named_at_32 = refl

-- An element that a nullable stands around is no array of arrays, and a nullable array none of a nullable.
pub nullable_elements : schema_fault (nullable (array (nullable (scalar uuid))) ∷ []) ≡ None
nullable_elements = refl
