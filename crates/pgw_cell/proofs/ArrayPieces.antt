-- Pieces of arrays, where the cells of their elements are read and written as is told.
use Rattle.std.proofs.Common.{◌≡◌, ◌≤◌, ◌+◌, ℕ, Bool, true, List, [], ◌∷◌, length, map, None, Some, Result, refl, sym, ap, ◌∙◌, subst, arith}
use Rattle.std.specs.List.{AllByRecursion}
use Rattle.std.specs.Int.{to_be_bytes, w32}
use Rattle.std.proofs.lemmas.List.{length-append, length-map}
use Rattle.pgw_wire.specs.Cell.{Cell, frame, size_of}
use Rattle.pgw_wire.specs.declared.kind.Break.{Break}
use Rattle.pgw_scalar.proofs.Readers.{IsBytes, IsExact}
use Rattle.pgw_nested.specs.Frames.{frames, IsFramed, AreFramed}
use Rattle.pgw_nested.specs.Array.{Each, IsArray, BreaksArray, any_null, flags_of, array_head, array_bytes}
use Rattle.pgw_nested.proofs.Exact as exact_cells
use Rattle.pgw_nested.proofs.ArrayFields.{array_exact}
use Rattle.pgw_nested.proofs.Beginnings.{head_length}
use Rattle.pgw_nested.proofs.Canonical.{written_array}
use Rattle.pgw_cell.specs.Value.{Value, null, values, list_of, listed, elements}
use Rattle.pgw_cell.specs.Nulls.{HasCell, SpellsCell, BreaksCell, cell_by, size_by, read_by}
use Rattle.pgw_cell.specs.Arrays.{HasArray, SpellsArray, array_piece, frames_size, array_size, read_elements}
use Rattle.pgw_cell.proofs.Told.{IsTold, IsWritten, exact_as}
use Rattle.pgw_cell.proofs.NullCells.{cell_exact, cell_has, cell_written, cell_counted}

-- The elements of an array are those that it was made of.
pub listed_values : (vs : List Value) → listed (values vs) ≡ vs
listed_values [] = refl
listed_values (v ∷ vs) = ap (λ ws. v ∷ ws) (listed_values vs)

pub elements_are : (v : Value) (vs : List Value) → v ≡ list_of vs → elements v ≡ vs
elements_are v vs is = ap elements is ∙ listed_values vs

no_list : (vs : List Value) → list_of vs ≡ null → ⊥
no_list vs e = absurd (cc)

-- when pieces are read exactly, said in the other form
pub of_cells : {A : Type 0} {Spell : List ℕ → A → Type 0} {Broken : Break → List ℕ → Type 0} {read : List ℕ → Result A Break} → exact_cells.IsExact IsBytes Spell (λ p kind. Broken kind p) read → IsExact Spell Broken read
of_cells e = record {
  reads = record { again = e.again };
  sound = record { spelled = e.spelled };
  refuses = record { refused = λ kind p b. e.refused p kind b; broken = λ kind p bytes r. e.fails p kind bytes r };
}

pub each_has : (Spell : Cell → Value → Type 0) (Has : Value → Type 0) (has : (c : Cell) (v : Value) → Spell c v → Has v) (cs : List Cell) (vs : List Value) → Each Spell cs vs → AllByRecursion Has vs
each_has Spell Has has [] [] s = tt
each_has Spell Has has [] (v ∷ vs) s = absurd s
each_has Spell Has has (c ∷ cs) [] s = absurd s
each_has Spell Has has (c ∷ cs) (v ∷ vs) s = (has c v s.0, each_has Spell Has has cs vs s.1)

-- Arrays are read as their elements are.
pub array_told : (nulls : Bool) {Has : Value → Type 0} {Spell : List ℕ → Value → Type 0} {Broken : Break → List ℕ → Type 0} {read : List ℕ → Result Value Break} → IsTold Has Spell Broken read
    → IsTold (HasArray (HasCell nulls Has)) (SpellsArray (SpellsCell nulls Spell)) (BreaksArray (SpellsCell nulls Spell) (BreaksCell nulls Broken)) (read_elements (read_by nulls read))
array_told nulls {Has = Has} {Spell = Spell} {Broken = Broken} {read = read} told = record {
  exact = exact_as list_of (of_cells (array_exact (SpellsCell nulls Spell) (BreaksCell nulls Broken) (read_by nulls read) (cell_exact nulls told)));
  has = λ p v s. (s.0, s.2, each_has (SpellsCell nulls Spell) (HasCell nulls Has) (cell_has nulls told) s.1.cells s.0 s.1.spelled);
  some = λ v has e. no_list has.0 (sym has.1 ∙ e);
}

pub frame_length : (c : Cell) → length (frame c) ≡ 4 + size_of c
frame_length None = refl
frame_length (Some p) = length-append (to_be_bytes w32 (length p)) p

-- There are no more elements than their frames have bytes.
pub frames_many : (size : Value → ℕ) (vs : List Value) → length vs ≤ frames_size size vs
frames_many size [] = omega arith
frames_many size (v ∷ vs) = omega (arith, frames_many size vs)

module _ (nulls : Bool) {Has : Value → Type 0} {Spell : List ℕ → Value → Type 0} {canonical : Value → List ℕ} {size : Value → ℕ} (w : IsWritten Has Spell canonical size) where
  -- the frames of elements have as many bytes as is told
  pub frames_length : (vs : List Value) → AllByRecursion (HasCell nulls Has) vs → frames_size (size_by size) vs ≡ length (frames (map (cell_by canonical) vs))
  frames_length [] has = refl
  frames_length (v ∷ vs) has =
      omega (arith, cell_counted nulls w v has.0, frame_length (cell_by canonical v), frames_length vs has.1, length-append (frame (cell_by canonical v)) (frames (map (cell_by canonical) vs)))

  one_framed : (c : Cell) → size_of c ≤ 2147483647 → IsFramed true c
  one_framed None fits = refl
  one_framed (Some p) fits = omega (arith, fits)

  each_framed : (vs : List Value) → AllByRecursion (HasCell nulls Has) vs → frames_size (size_by size) vs ≤ 2147483647 → AreFramed true (map (cell_by canonical) vs)
  each_framed [] has fits = tt
  each_framed (v ∷ vs) has fits =
      (one_framed (cell_by canonical v) (omega (arith, fits, cell_counted nulls w v has.0)), each_framed vs has.1 (omega (arith, fits)))

  pub each_written : (vs : List Value) → AllByRecursion (HasCell nulls Has) vs → frames_size (size_by size) vs ≤ 2147483647 → Each (SpellsCell nulls Spell) (map (cell_by canonical) vs) vs
  each_written [] has fits = tt
  each_written (v ∷ vs) has fits = (cell_written nulls w v has.0 (omega (arith, fits)), each_written vs has.1 (omega (arith, fits)))

  list_written : (oid : ℕ) (vs : List Value) → AllByRecursion (HasCell nulls Has) vs → 20 + frames_size (size_by size) vs ≤ 2147483647 → IsArray (SpellsCell nulls Spell) (array_bytes oid (map (cell_by canonical) vs)) vs
  list_written oid vs has fits =
      let cells = map (cell_by canonical) vs in
      written_array (SpellsCell nulls Spell) oid cells vs (each_framed vs has (omega (arith, fits)))
      (omega (arith, fits, frames_many (size_by size) vs, length-map vs (cell_by canonical))) (each_written vs has (omega (arith, fits)))

  pub list_counted : (oid : ℕ) (vs : List Value) → AllByRecursion (HasCell nulls Has) vs → 20 + frames_size (size_by size) vs ≡ length (array_bytes oid (map (cell_by canonical) vs))
  list_counted oid vs has =
      let cells = map (cell_by canonical) vs in
      let head = array_head (flags_of (any_null cells)) oid (length cells) 1 in
      omega (arith, frames_length vs has, head_length (flags_of (any_null cells)) oid (length cells) 1, length-append head (frames cells))

  -- Arrays are written as their elements are.
  pub array_written : (oid : ℕ) → IsWritten (HasArray (HasCell nulls Has)) (SpellsArray (SpellsCell nulls Spell)) (array_piece oid (cell_by canonical)) (array_size (size_by size))
  array_written oid = record {
    written = λ v has fits.
        let same = elements_are v has.0 has.1 in
        let short = subst (λ (us : List Value). 20 + frames_size (size_by size) us ≤ 2147483647) same fits in
        (has.0, subst (λ (us : List Value). IsArray (SpellsCell nulls Spell) (array_bytes oid (map (cell_by canonical) us)) has.0) (sym same) (list_written oid has.0 has.2 short), has.1);
    counted = λ v has.
        let same = elements_are v has.0 has.1 in
        subst (λ (us : List Value). 20 + frames_size (size_by size) us ≡ length (array_bytes oid (map (cell_by canonical) us))) (sym same) (list_counted oid has.0 has.2);
  }
