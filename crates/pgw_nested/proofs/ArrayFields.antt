-- The fields of arrays are read as their definitions say, where the cells of their elements are.
use Rattle.std.proofs.Common.{◌≡◌, ℕ, List, length, Result, Ok, Err, refl, sym, ap, subst, ◌∙◌}
use Rattle.pgw_wire.specs.Cell.{Cell}
use Rattle.pgw_wire.specs.declared.kind.Break.{Break}
use Rattle.pgw_wire.specs.declared.sql_error.SqlError.{SqlError}
use Rattle.pgw_nested.specs.Array.{Elements, BeginsArray, IsArray, FailsArray, fails_in_front, fails_behind, kind_named, BreaksArray}
use Rattle.pgw_nested.specs.Reading.{◌>>=◌, named, elements_at, read_cells, read_array_by, read_array}
use Rattle.pgw_nested.proofs.Exact.{IsExact}
use Rattle.pgw_nested.proofs.Cutting.{IsBytes, IsBytesCell}
use Rattle.pgw_nested.proofs.Beginnings.{begins_again, begins_no_again, begins_is, begins_no_is, rest_bytes}
use Rattle.pgw_nested.proofs.Counted.{Outcome, outcome, cells_again, fault_again}

module _ {A E : Type 0} (name : SqlError → E) (Spell : Cell → A → Type 0) (Fail : Cell → E → Type 0) (read : Cell → Result A E) (exact : IsExact IsBytesCell Spell Fail read) where
  array_again : (bytes : List ℕ) (vs : List A) → IsArray Spell bytes vs → read_array_by name read bytes ≡ Ok vs
  array_again bytes vs s =
      let e = s.are.elements in
      let cells : read_cells name read e.nulls e.left e.rest ≡ Ok (vs, s.are.behind) =
      ap (λ (n : ℕ). read_cells name read e.nulls n e.rest) s.are.many ∙ ap (read_cells name read e.nulls (length s.cells)) s.are.is ∙ cells_again name Spell Fail read exact e.nulls s.cells vs s.are.behind s.are.framed s.spelled in
      rw (begins_again bytes e s.are.begins, cells) refl

  array_refused : (bytes : List ℕ) (e : E) → FailsArray name Spell Fail bytes e → read_array_by name read bytes ≡ Err e
  array_refused bytes e (fails_in_front error h is) = rw (begins_no_again bytes error h) (ap Err (sym is))
  array_refused bytes e (fails_behind elements begins f) =
      rw (begins_again bytes elements begins, fault_again name Spell Fail read exact elements.nulls elements.left elements.rest e f) refl

  abbrev Read : List ℕ → Result (List A) E → Type 0
  Read bytes (Ok vs) = IsArray Spell bytes vs
  Read bytes (Err e) = FailsArray name Spell Fail bytes e

  behind : (bytes : List ℕ) (elements : Elements) → BeginsArray bytes elements → (r : Result (List A × List ℕ) E) → Outcome name Spell Fail read exact elements.nulls elements.left elements.rest r → Read bytes (r >>= λ x. Ok x.0)
  behind bytes elements begins (Ok x) o = record {
    cells = o.cells;
    are = record { elements = elements; behind = x.1; begins = begins; many = o.many; framed = o.framed; is = o.is };
    spelled = o.spelled;
  }
  behind bytes elements begins (Err e) o = fails_behind elements begins o

  array_read : (bytes : List ℕ) → IsBytes bytes → Read bytes (read_array_by name read bytes)
  array_read bytes fits = at (elements_at bytes) refl
    where
      at : (r : Result Elements SqlError) → elements_at bytes ≡ r → Read bytes (named name r >>= λ e. read_cells name read e.nulls e.left e.rest >>= λ x. Ok x.0)
      at (Ok e) h =
          let begins = begins_is bytes e fits h in
          behind bytes e begins (read_cells name read e.nulls e.left e.rest) (outcome name Spell Fail read exact e.nulls e.left e.rest (rest_bytes bytes e fits begins))
      at (Err d) h = fails_in_front d (begins_no_is bytes d fits h) refl

  -- An array is read exactly where it is one, and refused with exactly its first fault.
  pub array_exact_by : IsExact IsBytes (IsArray Spell) (FailsArray name Spell Fail) (read_array_by name read)
  array_exact_by = record {
    again = array_again;
    spelled = λ bytes vs fits e. subst (λ (r : Result (List A) E). Read bytes r) e (array_read bytes fits);
    refused = array_refused;
    fails = λ bytes e fits h. subst (λ (r : Result (List A) E). Read bytes r) h (array_read bytes fits);
  }

-- the same, of values and breaks
pub array_exact : {A : Type 0} (Spell : Cell → A → Type 0) (Broken : Break → Cell → Type 0) (read : Cell → Result A Break)
    → IsExact IsBytesCell Spell (λ cell kind. Broken kind cell) read → IsExact IsBytes (IsArray Spell) (λ bytes kind. BreaksArray Spell Broken kind bytes) (read_array read)
array_exact Spell Broken read exact = array_exact_by kind_named Spell (λ cell kind. Broken kind cell) read exact
