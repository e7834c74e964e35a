-- Cells of values that may be null, over what is said of pieces: nulls are treated here, once for columns and for the
-- elements of arrays.
use Rattle.std.specs.Prelude.{◌≡◌, ℕ, Bool, true, false, List, None, Some, Result, Ok, Err, if◌then◌else◌}
use Rattle.pgw_wire.specs.Cell.{Cell}
use Rattle.pgw_wire.specs.declared.kind.Break.{Break}
use Rattle.pgw_wire.specs.declared.kind.Break.TheVariants.{Null}
use Rattle.pgw_cell.specs.Value.{Value, null}

-- The value is null where nulls are values, and else one that has pieces.
abbrev pub HasCell : Bool → (Value → Type 0) → Value → Type 0
HasCell nulls Has null = nulls ≡ true
HasCell nulls Has v = Has v

-- A null spells the value null where nulls are values, and nothing else.
abbrev pub SpellsCell : Bool → (List ℕ → Value → Type 0) → Cell → Value → Type 0
SpellsCell nulls Spell None v = (nulls ≡ true) × (v ≡ null)
SpellsCell nulls Spell (Some p) v = Spell p v

-- A null breaks where nulls are no values.
abbrev pub BreaksCell : Bool → (Break → List ℕ → Type 0) → Break → Cell → Type 0
BreaksCell nulls Broken kind None = (kind ≡ Null) × (nulls ≡ false)
BreaksCell nulls Broken kind (Some p) = Broken kind p

abbrev pub unless_null : Value → List ℕ → Cell
unless_null null piece = None
unless_null _ piece = Some piece

-- the one cell that a value is written as, by its piece
abbrev pub cell_by : (Value → List ℕ) → Value → Cell
cell_by canonical v = unless_null v (canonical v)

-- how many bytes that has, 0 for a null
abbrev pub size_by : (Value → ℕ) → Value → ℕ
size_by size null = 0
size_by size v = size v

-- What a cell is read as: one function beside the others, for the proofs.
abbrev pub read_by : Bool → (List ℕ → Result Value Break) → Cell → Result Value Break
read_by nulls read None = if nulls then Ok null else Err Null
read_by nulls read (Some p) = read p
