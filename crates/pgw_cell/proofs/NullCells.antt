-- Cells of values that may be null, where their pieces are read and written as is told.
use Rattle.std.proofs.Common.{◌≡◌, ◌≤◌, ℕ, Bool, true, false, List, None, Some, Result, Ok, Err, cond, refl, sym, subst}
use Rattle.pgw_wire.specs.Cell.{Cell, size_of}
use Rattle.pgw_wire.specs.declared.kind.Break.{Break}
use Rattle.pgw_wire.specs.declared.kind.Break.TheVariants.{Null}
use Rattle.pgw_scalar.proofs.Readers.{ok_is, err_is, never_both}
use Rattle.pgw_nested.proofs.Exact as exact_cells
use Rattle.pgw_nested.proofs.Cutting.{IsBytesCell}
use Rattle.pgw_cell.specs.Value.{Value, null}
use Rattle.pgw_cell.specs.Nulls.{HasCell, SpellsCell, BreaksCell, cell_by, size_by, read_by}
use Rattle.pgw_cell.proofs.Told.{IsTold, IsWritten}

-- what comes of a null
abbrev null_by : Bool → Result Value Break
null_by b = cond {A = Result Value Break} b (Ok null) (Err Null)

null_spelled : (b : Bool) (v : Value) → null_by b ≡ Ok v → (b ≡ true) × (v ≡ null)
null_spelled true v e = (refl, sym (ok_is null v e))
null_spelled false v e = absurd (never_both (null_by false) v Null e refl)

null_broken : (b : Bool) (kind : Break) → null_by b ≡ Err kind → (kind ≡ Null) × (b ≡ false)
null_broken true kind e = absurd (never_both (null_by true) null kind refl e)
null_broken false kind e = (sym (err_is {A = Value} Null kind e), refl)

module _ (nulls : Bool) {Has : Value → Type 0} {Spell : List ℕ → Value → Type 0} {Broken : Break → List ℕ → Type 0} {read : List ℕ → Result Value Break} (told : IsTold Has Spell Broken read) where
  pub cell_again : (c : Cell) (v : Value) → SpellsCell nulls Spell c v → read_by nulls read c ≡ Ok v
  cell_again None v s = rw (s.0, s.1) refl
  cell_again (Some p) v s = told.exact.reads.again p v s

  pub cell_refused : (kind : Break) (c : Cell) → BreaksCell nulls Broken kind c → read_by nulls read c ≡ Err kind
  cell_refused kind None b = rw (b.1, b.0) refl
  cell_refused kind (Some p) b = told.exact.refuses.refused kind p b

  pub cell_spelled : (c : Cell) (v : Value) → IsBytesCell c → read_by nulls read c ≡ Ok v → SpellsCell nulls Spell c v
  cell_spelled None v bytes e = null_spelled nulls v e
  cell_spelled (Some p) v bytes e = told.exact.sound.spelled p v bytes e

  pub cell_broken : (kind : Break) (c : Cell) → IsBytesCell c → read_by nulls read c ≡ Err kind → BreaksCell nulls Broken kind c
  cell_broken kind None bytes e = null_broken nulls kind e
  cell_broken kind (Some p) bytes e = told.exact.refuses.broken kind p bytes e

  pub cell_exact : exact_cells.IsExact IsBytesCell (SpellsCell nulls Spell) (λ c kind. BreaksCell nulls Broken kind c) (read_by nulls read)
  cell_exact = record { again = cell_again; spelled = cell_spelled; refused = λ c kind b. cell_refused kind c b; fails = λ c kind bytes e. cell_broken kind c bytes e }

  -- A value that pieces spell is one that cells do.
  has_cell : (v : Value) → Has v → HasCell nulls Has v
  has_cell null has = absurd (told.some null has refl)
  has_cell _ has = has

  -- What a cell spells is a value of the type.
  pub cell_has : (c : Cell) (v : Value) → SpellsCell nulls Spell c v → HasCell nulls Has v
  cell_has None v s = subst (λ (w : Value). HasCell nulls Has w) (sym s.1) s.0
  cell_has (Some p) v s = has_cell v (told.has p v s)

module _ (nulls : Bool) {Has : Value → Type 0} {Spell : List ℕ → Value → Type 0} {canonical : Value → List ℕ} {size : Value → ℕ} (w : IsWritten Has Spell canonical size) where
  -- The cell that a value is written as spells it, if it is no longer than a cell may be.
  pub cell_written : (v : Value) → HasCell nulls Has v → size_by size v ≤ 2147483647 → SpellsCell nulls Spell (cell_by canonical v) v
  cell_written null has fits = (has, refl)
  cell_written v has fits = w.written v has fits

  -- That cell has as many bytes as the value's size says.
  pub cell_counted : (v : Value) → HasCell nulls Has v → size_by size v ≡ size_of (cell_by canonical v)
  cell_counted null has = refl
  cell_counted v has = w.counted v has
