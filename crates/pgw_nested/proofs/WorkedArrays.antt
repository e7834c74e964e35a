-- What the definitions of arrays say of single pieces: which cells an array has, with which error a piece is refused that
-- is none, and what cells are written as. The elements are of the type with the oid 23, `int4`.
use Rattle.std.proofs.Common.{◌≡◌, ℕ, pos, negsuc, List, [], ◌∷◌, None, Some, Result, Ok, Err, refl, lit<}
use Rattle.pgw_wire.specs.Cell.{Cell}
use Rattle.pgw_wire.specs.declared.kind.Break.{Break}
use Rattle.pgw_wire.specs.declared.kind.Break.TheVariants as kind
use Rattle.pgw_wire.specs.declared.sql_error.SqlError.{SqlError}
use Rattle.pgw_wire.specs.declared.sql_error.SqlError.TheVariants as error
use Rattle.pgw_nested.specs.Array.{array_head, one_dimension, no_dimension, elements_behind, no_elements, AreArrayCells, array_bytes, kind_named}
use Rattle.pgw_nested.specs.Reading.{read_array_by, read_array, elements_at, cell_at, read_cells}

-- the bytes of an array of one dimension, with these last bytes of the flags and the count
abbrev one : ℕ → ℕ → List ℕ → List ℕ
one flags count behind =
    0 ∷ 0 ∷ 0 ∷ 1 ∷ 0 ∷ 0 ∷ 0 ∷ flags ∷ 0 ∷ 0 ∷ 0 ∷ 23 ∷ 0 ∷ 0 ∷ 0 ∷ count ∷ 0 ∷ 0 ∷ 0 ∷ 1 ∷ behind

-- 42 and a null, and a byte that is ignored
pub with_null : AreArrayCells (one 1 2 (0 ∷ 0 ∷ 0 ∷ 4 ∷ 0 ∷ 0 ∷ 0 ∷ 42 ∷ 255 ∷ 255 ∷ 255 ∷ 255 ∷ 7 ∷ [])) (Some (0 ∷ 0 ∷ 0 ∷ 42 ∷ []) ∷ None ∷ [])
unfolding array_head
with_null = record {
  elements = elements_behind 1 2 (0 ∷ 0 ∷ 0 ∷ 4 ∷ 0 ∷ 0 ∷ 0 ∷ 42 ∷ 255 ∷ 255 ∷ 255 ∷ 255 ∷ 7 ∷ []);
  behind = 7 ∷ [];
  begins = one_dimension 1 2 _ (record { oid = 23; bound = 1; flags_fit = lit< tt; count_fits = lit< tt; is = refl }) refl;
  many = refl;
  framed = (lit< tt, (refl, tt));
  is = refl;
}

-- the two forms of an array without elements
pub without_dimension : AreArrayCells (0 ∷ 0 ∷ 0 ∷ 0 ∷ 0 ∷ 0 ∷ 0 ∷ 1 ∷ 0 ∷ 0 ∷ 0 ∷ 23 ∷ 9 ∷ []) []
without_dimension = record {
  elements = no_elements;
  behind = [];
  begins = no_dimension (record { flags = 1; oid = 23; rest = 9 ∷ []; is = refl }) refl;
  many = refl;
  framed = tt;
  is = refl;
}

pub counts_none : AreArrayCells (one 0 0 (9 ∷ [])) []
unfolding array_head
counts_none = record {
  elements = elements_behind 0 0 (9 ∷ []);
  behind = 9 ∷ [];
  begins = one_dimension 0 0 _ (record { oid = 23; bound = 1; flags_fit = lit< tt; count_fits = lit< tt; is = refl }) refl;
  many = refl;
  framed = tt;
  is = refl;
}

-- what a piece is read as: the cells of its elements, or an error
abbrev cells_in : List ℕ → Result (List Cell) SqlError
cells_in bytes = read_array_by (λ (e : SqlError). e) (λ (c : Cell). Ok c) bytes

-- a count of -3
pub below_zero : cells_in (0 ∷ 0 ∷ 0 ∷ 1 ∷ 0 ∷ 0 ∷ 0 ∷ 0 ∷ 0 ∷ 0 ∷ 0 ∷ 23 ∷ 255 ∷ 255 ∷ 255 ∷ 253 ∷ 0 ∷ 0 ∷ 0 ∷ 0 ∷ []) ≡ Ok []
unfolding elements_at cell_at read_cells
below_zero = refl

-- an element that states 6 bytes and has 4; and one with 4 bytes, where two have to come
pub past_the_rest : cells_in (one 0 2 (0 ∷ 0 ∷ 0 ∷ 6 ∷ 0 ∷ 0 ∷ 0 ∷ 42 ∷ [])) ≡ Err (error.ElementBytes (pos 6) 4)
unfolding elements_at cell_at read_cells
past_the_rest = refl

pub one_too_few : cells_in (one 0 2 (0 ∷ 0 ∷ 0 ∷ 4 ∷ 0 ∷ 0 ∷ 0 ∷ 42 ∷ [])) ≡ Err error.ShortBuffer
unfolding elements_at cell_at read_cells
one_too_few = refl

-- a null where the flags are 0, and a length of -2 where nulls may stand
pub null_without_flags : cells_in (one 0 1 (255 ∷ 255 ∷ 255 ∷ 255 ∷ [])) ≡ Err (error.NegativeSize (negsuc 0))
unfolding elements_at cell_at read_cells
null_without_flags = refl

pub minus_two : cells_in (one 1 1 (255 ∷ 255 ∷ 255 ∷ 254 ∷ [])) ≡ Err (error.NegativeSize (negsuc 1))
unfolding elements_at cell_at read_cells
minus_two = refl

-- 24 bytes that state 2147483647 elements
pub too_many_stated : cells_in (0 ∷ 0 ∷ 0 ∷ 1 ∷ 0 ∷ 0 ∷ 0 ∷ 0 ∷ 0 ∷ 0 ∷ 0 ∷ 23 ∷ 127 ∷ 255 ∷ 255 ∷ 255 ∷ 0 ∷ 0 ∷ 0 ∷ 1 ∷ 0 ∷ 0 ∷ 0 ∷ 0 ∷ []) ≡ Err error.ShortBuffer
unfolding elements_at cell_at read_cells
too_many_stated = refl

-- two dimensions in 20 bytes, and in 19
pub two_dimensions : cells_in (0 ∷ 0 ∷ 0 ∷ 2 ∷ 0 ∷ 0 ∷ 0 ∷ 0 ∷ 0 ∷ 0 ∷ 0 ∷ 23 ∷ 0 ∷ 0 ∷ 0 ∷ 1 ∷ 0 ∷ 0 ∷ 0 ∷ 1 ∷ []) ≡ Err (error.Dimensions (pos 2))
unfolding elements_at cell_at read_cells
two_dimensions = refl

pub too_short_for_two : cells_in (0 ∷ 0 ∷ 0 ∷ 2 ∷ 0 ∷ 0 ∷ 0 ∷ 0 ∷ 0 ∷ 0 ∷ 0 ∷ 23 ∷ 0 ∷ 0 ∷ 0 ∷ 1 ∷ 0 ∷ 0 ∷ 0 ∷ []) ≡ Err error.ShortBuffer
unfolding elements_at cell_at read_cells
too_short_for_two = refl

-- The break of an element is that of the array, and stands in front of what is wrong behind it.
abbrev no_value : Cell → Result Cell Break
no_value c = Err kind.Utf8

pub element_breaks : read_array no_value (one 0 2 (0 ∷ 0 ∷ 0 ∷ 0 ∷ 255 ∷ [])) ≡ Err kind.Utf8
unfolding elements_at cell_at read_cells
element_breaks = refl

pub kinds : (kind_named error.ShortBuffer ≡ kind.Size) × (kind_named (error.NegativeSize (negsuc 1)) ≡ kind.Size) × (kind_named (error.ElementBytes (pos 6) 4) ≡ kind.Size) × (kind_named (error.Dimensions (pos 2)) ≡ kind.Dimensions)
kinds = (refl, refl, refl, refl)

-- what 42 and a null are written as, and no element
pub written_with_null : array_bytes 23 (Some (0 ∷ 0 ∷ 0 ∷ 42 ∷ []) ∷ None ∷ []) ≡ one 1 2 (0 ∷ 0 ∷ 0 ∷ 4 ∷ 0 ∷ 0 ∷ 0 ∷ 42 ∷ 255 ∷ 255 ∷ 255 ∷ 255 ∷ [])
unfolding array_head
written_with_null = refl

pub written_alone : array_bytes 23 (Some (0 ∷ 0 ∷ 0 ∷ 42 ∷ []) ∷ []) ≡ one 0 1 (0 ∷ 0 ∷ 0 ∷ 4 ∷ 0 ∷ 0 ∷ 0 ∷ 42 ∷ [])
unfolding array_head
written_alone = refl

pub written_empty : array_bytes 23 [] ≡ one 0 0 []
unfolding array_head
written_empty = refl
