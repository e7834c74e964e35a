-- Reading the elements of an array.
use Rattle.std.proofs.Common.{◌≡◌, ◌≤◌, ◌<◌, ℕ, List, [], ◌∷◌, ◌++◌, length, Ok, Err, IsTrue, refl, sym, ap, ◌∙◌, arith, subst, append_assoc, append-nil}
use Rattle.std.proofs.lemmas.List.{map-append}
use Rattle.pgw_wire.specs.Cell.{Cell}
use Rattle.pgw_wire.specs.declared.kind.Break.{Break}
use Rattle.pgw_meta.specs.Shape.{Shape, array}
use Rattle.pgw_scalar.proofs.Readers.{never_both}
use Rattle.pgw_nested.specs.Array.{Elements, BeginsArray}
use Rattle.pgw_nested.specs.Pieces.{IsNext}
use Rattle.pgw_nested.proofs.Exact.{ok_is}
use Rattle.pgw_cell.specs.Value.{Value, list_of}
use Rattle.pgw_cell.specs.Pieces.{read_piece}
use Rattle.pgw_cell.specs.Cells.{read_value}
use Rattle.pgw_cell.specs.Data.{value_of, values_of, takes_memory, AnswersBy, AnswersAs}
use Rattle.pgw_cell.specs.Written.{cells_read}
use Rattle.pgw_cell.specs.declared.datum.Datum.{Datum}
use Rattle.pgw_cell.specs.declared.read.CellFault.{CellFault}
use Rattle.pgw_cell.specs.declared.read.CellFault.TheVariants.{Break as Broken, NoMemory}
use Rattle.pgw_cell.proofs.Elements.{none_left, elements_many}
use Rattle.pgw_cell.proofs.Counted.{array_read}
use Rattle.pgw_cell.proofs.Rewriting.{next_element}

-- The values so far stand in front of those that are left.
pub record ReadSoFar (t : Shape) (first now : Elements) (values : List Value) : Type 0 where
  pub all : List Value × List ℕ
  pub whole : cells_read t first ≡ Ok all
  pub left : List Value × List ℕ
  pub reads : cells_read t now ≡ Ok left
  pub is : all.0 ≡ values ++ left.0
  pub rest : all.1 ≡ left.1
  pub few : now.left ≤ first.left

pub none_read : (t : Shape) (first : Elements) (x : List Value × List ℕ) → cells_read t first ≡ Ok x → ReadSoFar t first first []
none_read t first x e = record { all = x; whole = e; left = x; reads = e; is = refl; rest = refl; few = omega arith }

pub one_read : (t : Shape) (c : Cell) (first before now : Elements) (values more : List Value) (v : Value) → IsNext c before now → ReadSoFar t first before values → read_value t c ≡ Ok v → more ≡ values ++ (v ∷ []) → ReadSoFar t first now more
one_read t c first before now values more v n s read is =
    let x = next_element t c before now s.left n s.reads in
    let same = ok_is {E = Break} x.value v (sym x.reads ∙ read) in
    record {
      all = s.all;
      whole = s.whole;
      left = x.others;
      reads = x.behind;
      is = s.is ∙ ap (λ (l : List Value). values ++ l) (x.is ∙ ap (λ u. u ∷ x.others.0) same)
          ∙ sym (append_assoc values (v ∷ []) x.others.0) ∙ ap (λ (l : List Value). l ++ x.others.0) (sym is);
      rest = s.rest ∙ x.rest;
      few = omega (arith, s.few, n.left);
    }

-- one item more in a list, as a value
pub value_more : (items more : List Datum) (d : Datum) → more ≡ items ++ (d ∷ []) → values_of more ≡ values_of items ++ (value_of d ∷ [])
value_more items more d is = ap values_of is ∙ map-append value_of items (d ∷ [])

-- An element of an array that spells a value does not break.
pub not_broken : (t : Shape) (c : Cell) (first before now : Elements) (values : List Value) (kind : Break) → IsNext c before now → ReadSoFar t first before values → read_value t c ≡ Err kind → ⊥
not_broken t c first before now values kind n s e = let x = next_element t c before now s.left n s.reads in never_both (read_value t c) x.value kind x.reads e

-- So it is refused for want of memory alone.
pub only_memory : {A : Type 0} (value : A → Value) (t : Shape) (c : Cell) (first before now : Elements) (values : List Value) (e : CellFault) → IsNext c before now → ReadSoFar t first before values → AnswersBy value (Err e) (read_value t c) → (e ≡ NoMemory) × (0 < first.left)
only_memory value t c first before now values (Broken kind) n s a = absurd (not_broken t c first before now values kind n s a)
only_memory value t c first before now values NoMemory n s a = (refl, omega (arith, s.few, n.left))

pub all_are_read : (t : Shape) (first now : Elements) (values : List Value) → ReadSoFar t first now values → now.left ≡ 0 → (rest : List ℕ) × (cells_read t first ≡ Ok (values, rest))
all_are_read t first now values s none =
    let left = ok_is {E = Break} ([], now.rest) s.left (sym (none_left (λ (x : Cell). read_value t x) now none) ∙ s.reads) in
    let are : s.all.0 ≡ values = s.is ∙ ap (λ (y : List Value × List ℕ). values ++ y.0) (sym left) ∙ append-nil values in
    (s.all.1, s.whole ∙ ap (λ (vs : List Value). Ok (vs, s.all.1)) are)

-- what is read of the array, by its elements
pub array_of : (t : Shape) (p : List ℕ) (e : Elements) (vs : List Value) (rest : List ℕ) → BeginsArray p e → cells_read t e ≡ Ok (vs, rest) → read_piece (array t) p ≡ Ok (list_of vs)
array_of t p e vs rest begins read = array_read t p e begins ∙ rw read refl

some_takes : (vs : List Value) → 0 < length vs → IsTrue (takes_memory (list_of vs))
some_takes [] some = absurd (omega (arith, some))
some_takes (v ∷ vs) some = refl

-- Memory is asked for of an array with elements.
pub array_wanted : (t : Shape) (p : List ℕ) (e : Elements) (x : List Value × List ℕ) → BeginsArray p e → cells_read t e ≡ Ok x → 0 < e.left → (v : Value) × (read_piece (array t) p ≡ Ok v) × IsTrue (takes_memory v)
array_wanted t p e x begins read some =
    (list_of x.0, array_of t p e x.0 x.1 begins read, some_takes x.0 (omega (arith, some, elements_many (λ (c : Cell). read_value t c) e x read)))

-- A fault of its elements, which is want of memory, is one of the array.
pub array_refused : (t : Shape) (p : List ℕ) (e : Elements) (x : List Value × List ℕ) (fault : CellFault) → BeginsArray p e → cells_read t e ≡ Ok x → (fault ≡ NoMemory) × (0 < e.left) → AnswersAs (Err fault) (read_piece (array t) p)
array_refused t p e x fault begins read h = subst (λ (f : CellFault). AnswersAs (Err f) (read_piece (array t) p)) (sym h.0) (array_wanted t p e x begins read h.1)
