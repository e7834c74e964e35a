-- What the definitions say of single cells of arrays, of bytes that were written down by hand: what they are read as, what
-- arrays are written as, and how many bytes that has. The oid of `int4` is 23, and that of `text` is 25.
use Rattle.std.specs.Str.{chars, is_utf8}
use Rattle.std.proofs.Common.{◌≡◌, ℕ, pos, List, [], ◌∷◌, None, Some, Ok, Err, refl, arith, lit<}
use lib.Utf8.{encode}
use Rattle.pgw_wire.specs.declared.kind.Break.TheVariants.{Null, Size, Utf8, Dimensions}
use Rattle.pgw_meta.specs.Known.{Key, Known}
use Rattle.pgw_meta.specs.Shape.{scalar, nullable, array, named, range, int4, text}
use Rattle.pgw_nested.specs.Array.{array_head}
use Rattle.pgw_nested.specs.Reading.{elements_at, cell_at, read_cells}
use Rattle.pgw_cell.specs.Value.{Value, null, number, string, list_of}
use Rattle.pgw_cell.specs.Built.{IsBuilt}
use Rattle.pgw_cell.specs.Cells.{HasType, Fits, canonical_cell, canonical_size, read_value}

-- No named type is known.
abbrev unknown : Known
unknown key = None

-- the bytes of an array of one dimension, with these last bytes of the flags, the count and the index of the first element
abbrev one : ℕ → ℕ → ℕ → ℕ → List ℕ → List ℕ
one oid flags count bound behind =
    0 ∷ 0 ∷ 0 ∷ 1 ∷ 0 ∷ 0 ∷ 0 ∷ flags ∷ 0 ∷ 0 ∷ 0 ∷ oid ∷ 0 ∷ 0 ∷ 0 ∷ count ∷ 0 ∷ 0 ∷ 0 ∷ bound ∷ behind

-- the frames of 42 and of a null
abbrev both : List ℕ
both = 0 ∷ 0 ∷ 0 ∷ 4 ∷ 0 ∷ 0 ∷ 0 ∷ 42 ∷ 255 ∷ 255 ∷ 255 ∷ 255 ∷ []

abbrev forty_two_and_null : Value
forty_two_and_null = list_of (number (pos 42) ∷ null ∷ [])

pub with_null : read_value (array (nullable (scalar int4))) (Some (one 23 1 2 1 both)) ≡ Ok forty_two_and_null
unfolding elements_at cell_at read_cells
with_null = refl

-- The type of the elements allows no null, and the flags do; the flags allow none, and the type does.
pub null_of_no_type : read_value (array (scalar int4)) (Some (one 23 1 2 1 both)) ≡ Err Null
unfolding elements_at cell_at read_cells
null_of_no_type = refl

pub null_of_no_flags : read_value (array (nullable (scalar int4))) (Some (one 23 0 2 1 both)) ≡ Err Size
unfolding elements_at cell_at read_cells
null_of_no_flags = refl

-- Another index of the first element, another oid and a byte behind the last are read, and not written again.
pub other_spelling : read_value (array (nullable (scalar int4))) (Some (one 99 7 2 0 (0 ∷ 0 ∷ 0 ∷ 4 ∷ 0 ∷ 0 ∷ 0 ∷ 42 ∷ 255 ∷ 255 ∷ 255 ∷ 255 ∷ 9 ∷ []))) ≡ Ok forty_two_and_null
unfolding elements_at cell_at read_cells
other_spelling = refl

pub null_written : canonical_cell unknown (array (nullable (scalar int4))) forty_two_and_null ≡ Some (one 23 1 2 1 both)
unfolding array_head
null_written = refl

pub null_size : canonical_size (array (nullable (scalar int4))) forty_two_and_null ≡ 32
null_size = refl

-- An array without dimensions has no elements, and is written with one dimension.
pub none_read : read_value (array (scalar int4)) (Some (0 ∷ 0 ∷ 0 ∷ 0 ∷ 0 ∷ 0 ∷ 0 ∷ 0 ∷ 0 ∷ 0 ∷ 0 ∷ 23 ∷ [])) ≡ Ok (list_of [])
unfolding elements_at cell_at read_cells
none_read = refl

pub none_written : canonical_cell unknown (array (scalar int4)) (list_of []) ≡ Some (one 23 0 0 1 [])
unfolding array_head
none_written = refl

-- 24 bytes that state 2147483647 elements, and two dimensions
pub too_many : read_value (array (scalar int4)) (Some (0 ∷ 0 ∷ 0 ∷ 1 ∷ 0 ∷ 0 ∷ 0 ∷ 0 ∷ 0 ∷ 0 ∷ 0 ∷ 23 ∷ 127 ∷ 255 ∷ 255 ∷ 255 ∷ 0 ∷ 0 ∷ 0 ∷ 1 ∷ 0 ∷ 0 ∷ 0 ∷ 0 ∷ [])) ≡ Err Size
unfolding elements_at cell_at read_cells
too_many = refl

pub two_dimensions : read_value (array (scalar int4)) (Some (0 ∷ 0 ∷ 0 ∷ 2 ∷ 0 ∷ 0 ∷ 0 ∷ 0 ∷ 0 ∷ 0 ∷ 0 ∷ 23 ∷ 0 ∷ 0 ∷ 0 ∷ 1 ∷ 0 ∷ 0 ∷ 0 ∷ 1 ∷ [])) ≡ Err Dimensions
unfolding elements_at cell_at read_cells
two_dimensions = refl

-- An element that breaks, in front of one that is cut short.
pub element_breaks : read_value (array (scalar text)) (Some (one 25 0 2 1 (0 ∷ 0 ∷ 0 ∷ 2 ∷ 195 ∷ 40 ∷ 0 ∷ []))) ≡ Err Utf8
unfolding elements_at cell_at read_cells is_utf8 chars encode
element_breaks = refl

-- An element of 3 bytes is no int4, and the array breaks as it does.
pub short_element : read_value (array (scalar int4)) (Some (one 23 0 1 1 (0 ∷ 0 ∷ 0 ∷ 3 ∷ 0 ∷ 0 ∷ 42 ∷ []))) ≡ Err Size
unfolding elements_at cell_at read_cells
short_element = refl

-- The elements of a named type have the oid that is known of it, not that of its arrays, and 0 where none is.
abbrev citext : Key
citext = record { schema = None; name = 99 ∷ 105 ∷ 116 ∷ 101 ∷ 120 ∷ 116 ∷ [] }

abbrev found : Known
found key = Some (record { oid = 7; array_oid = 8 })

pub named_written : canonical_cell found (array (named citext (scalar text))) (list_of (string (97 ∷ []) ∷ [])) ≡ Some (one 7 0 1 1 (0 ∷ 0 ∷ 0 ∷ 1 ∷ 97 ∷ []))
unfolding array_head
named_written = refl

pub unknown_written : canonical_cell unknown (array (nullable (named citext (scalar text)))) (list_of (null ∷ [])) ≡ Some (one 0 1 1 1 (255 ∷ 255 ∷ 255 ∷ 255 ∷ []))
unfolding array_head
unknown_written = refl

-- A null is no array, and may stand in its place where a nullable stands around it.
pub null_of_an_array : read_value (array (nullable (scalar int4))) None ≡ Err Null
null_of_an_array = refl

pub null_or_array : read_value (nullable (array (scalar int4))) None ≡ Ok null
null_or_array = refl

-- Values of the types: elements that fit, and ones that do not.
pub has_elements : HasType (array (nullable (scalar int4))) forty_two_and_null
has_elements = (number (pos 42) ∷ null ∷ [], refl, ((pos 42, refl, record { sfits = lit< tt }), (refl, tt)))

pub no_number : HasType (array (scalar int4)) (number (pos 42)) → ⊥
no_number h = let e = h.1 in absurd (cc)

pub too_long : Fits 31 (array (nullable (scalar int4))) forty_two_and_null → ⊥
too_long h = omega (arith, h)

pub array_is_built : IsBuilt (nullable (array (nullable (named citext (scalar text)))))
array_is_built = tt

pub array_of_ranges_is_built : IsBuilt (array (range (scalar int4)))
array_of_ranges_is_built = refl

pub no_range_of_texts : IsBuilt (array (range (scalar text))) → ⊥
no_range_of_texts h = absurd (cc)
