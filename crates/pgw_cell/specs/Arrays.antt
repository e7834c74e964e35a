-- The values of array types, over what is said of cells as elements. Which pieces are arrays, and how other pieces break,
-- the definitions of pgw_nested say.
use Rattle.std.specs.Prelude.{◌≡◌, ℕ, ◌+◌, List, [], ◌∷◌, map, Result}
use Rattle.std.specs.List.{AllByRecursion}
use Rattle.pgw_wire.specs.Cell.{Cell}
use Rattle.pgw_wire.specs.declared.kind.Break.{Break}
use Rattle.pgw_nested.specs.Array.{IsArray, array_bytes}
use Rattle.pgw_nested.specs.Reading.{read_array}
use Rattle.pgw_cell.specs.Value.{Value, list_of, elements}
use Rattle.pgw_cell.specs.Spellings.{SpellsAs, read_as}

-- The value is an array of such elements.
abbrev pub HasArray : (Value → Type 0) → Value → Type 0
HasArray Has v = (vs : List Value) × (v ≡ list_of vs) × AllByRecursion Has vs

abbrev pub SpellsArray : (Cell → Value → Type 0) → List ℕ → Value → Type 0
SpellsArray Spell = SpellsAs list_of (IsArray Spell)

-- the one piece that an array is written as, by the cells of its elements and the oid of their type
abbrev pub array_piece : ℕ → (Value → Cell) → Value → List ℕ
array_piece oid canonical v = array_bytes oid (map canonical (elements v))

-- how many bytes the frames of elements have
abbrev pub frames_size : (Value → ℕ) → List Value → ℕ
frames_size size [] = 0
frames_size size (v ∷ vs) = 4 + size v + frames_size size vs

-- how many bytes the one piece has
abbrev pub array_size : (Value → ℕ) → Value → ℕ
array_size size v = 20 + frames_size size (elements v)

-- What a piece is read as: one function beside the others, for the proofs.
abbrev pub read_elements : (Cell → Result Value Break) → List ℕ → Result Value Break
read_elements read p = read_as list_of (read_array read p)
