-- Cells that are read one by one, and an array that is read so.
use Rattle.std.proofs.Common.{◌≡◌, ℕ, ◌+◌, ◌<◌, Bool, List, [], ◌∷◌, ◌++◌, length, refl, sym, ap, subst, ◌∙◌, append_assoc, append-nil, length-append, arith, Option, Some, Ok}
use Rattle.pgw_wire.specs.Cell.{Cell, frame}
use Rattle.pgw_wire.specs.declared.sql_error.SqlError.{SqlError}
use Rattle.pgw_nested.specs.Frames.{frames, IsFramed, AreFramed, HasNoFrame}
use Rattle.pgw_nested.specs.Array.{Elements, BeginsArray, Each, IsArray, NextFails, no_frame, cell_fails, FailsBehind, fails_behind, RefusesArray}
use Rattle.pgw_wire.specs.Cell.{cell_of}
use Rattle.pgw_wire.specs.declared.cell.RawCell.{RawCell}
use Rattle.pgw_nested.specs.Pieces.{IsNext, GivesNext}

pub frames_more : (cs : List Cell) (c : Cell) → frames (cs ++ c ∷ []) ≡ frames cs ++ frame c
frames_more [] c = append-nil (frame c)
frames_more (d ∷ cs) c = ap (λ (x : List ℕ). frame d ++ x) (frames_more cs c) ∙ sym (append_assoc (frame d) (frames cs) (frame c))

framed_more : (nulls : Bool) (cs : List Cell) (c : Cell) → AreFramed nulls cs → IsFramed nulls c → AreFramed nulls (cs ++ c ∷ [])
framed_more nulls [] c f g = (g, tt)
framed_more nulls (d ∷ cs) c f g = (f.0, framed_more nulls cs c f.1 g)

pub each_more : {A : Type 0} (Spell : Cell → A → Type 0) (cs : List Cell) (vs : List A) (c : Cell) (v : A) → Each Spell cs vs → Spell c v → Each Spell (cs ++ c ∷ []) (vs ++ v ∷ [])
each_more Spell [] [] c v s t = (t, tt)
each_more Spell [] (w ∷ vs) c v s t = absurd s
each_more Spell (d ∷ cs) [] c v s t = absurd s
each_more Spell (d ∷ cs) (w ∷ vs) c v s t = (s.0, each_more Spell cs vs c v s.1 t)

-- Of all cells these values are those in front, and these are left.
pub record SoFar {A : Type 0} (Spell : Cell → A → Type 0) (all now : Elements) (values : List A) : Type 0 where
  pub cells : List Cell
  pub many : all.left ≡ length cells + now.left
  pub nulls : now.nulls ≡ all.nulls
  pub framed : AreFramed all.nulls cells
  pub is : all.rest ≡ frames cells ++ now.rest
  pub spelled : Each Spell cells values

module _ {A : Type 0} (Spell : Cell → A → Type 0) where
  pub none_so_far : (all : Elements) → SoFar Spell all all []
  none_so_far all = record { cells = []; many = omega arith; nulls = refl; framed = tt; is = refl; spelled = tt }

  pub one_more : (all now next : Elements) (values : List A) (c : Cell) (v : A) → SoFar Spell all now values → IsNext c now next → Spell c v → SoFar Spell all next (values ++ v ∷ [])
  one_more all now next values c v s n spelled = record {
    cells = s.cells ++ c ∷ [];
    many = omega (arith, s.many, n.left, length-append s.cells (c ∷ []));
    nulls = n.nulls ∙ s.nulls;
    framed = framed_more all.nulls s.cells c s.framed (subst (λ (b : Bool). IsFramed b c) s.nulls n.framed);
    is = s.is ∙ ap (λ (x : List ℕ). frames s.cells ++ x) n.is ∙ sym (append_assoc (frames s.cells) (frame c) next.rest) ∙ ap (λ (x : List ℕ). x ++ next.rest) (sym (frames_more s.cells c));
    spelled = each_more Spell s.cells values c v s.spelled spelled;
  }

  pub next_fails : {E : Type 0} (name : SqlError → E) (Fail : Cell → E → Type 0) (all now : Elements) (values : List A) (e : E) → SoFar Spell all now values → 0 < now.left → NextFails name Fail now.nulls now.rest e → FailsBehind name Spell Fail all e
  next_fails name Fail all now values e s some next = record {
    cells = s.cells;
    values = values;
    behind = now.rest;
    fewer = omega (arith, s.many, some);
    framed = s.framed;
    is = s.is;
    spelled = s.spelled;
    next = subst (λ (b : Bool). NextFails name Fail b now.rest e) s.nulls next;
  }

-- ---- the elements of an array

-- The bytes begin as an array, of whose elements these were read, and these are left.
pub record ReadSoFar {A : Type 0} (Spell : Cell → A → Type 0) (bytes : List ℕ) (values : List A) (now : Elements) : Type 0 where
  pub all : Elements
  pub begins : BeginsArray bytes all
  pub so_far : SoFar Spell all now values

pub none_read : {A : Type 0} (Spell : Cell → A → Type 0) (bytes : List ℕ) (e : Elements) → BeginsArray bytes e → ReadSoFar Spell bytes [] e
none_read Spell bytes e begins = record { all = e; begins = begins; so_far = none_so_far Spell e }

pub one_more_read : {A : Type 0} (Spell : Cell → A → Type 0) (bytes : List ℕ) (values : List A) (now next : Elements) (c : Cell) (v : A) → ReadSoFar Spell bytes values now → IsNext c now next → Spell c v
    → ReadSoFar Spell bytes (values ++ v ∷ []) next
one_more_read Spell bytes values now next c v s n spelled = record { all = s.all; begins = s.begins; so_far = one_more Spell s.all now next values c v s.so_far n spelled }

pub all_read : {A : Type 0} (Spell : Cell → A → Type 0) (bytes : List ℕ) (values : List A) (now : Elements) → ReadSoFar Spell bytes values now → now.left ≡ 0 → IsArray Spell bytes values
all_read Spell bytes values now s none = record {
  cells = s.so_far.cells;
  are = record { elements = s.all; behind = now.rest; begins = s.begins; many = omega (arith, s.so_far.many, none); framed = s.so_far.framed; is = s.so_far.is };
  spelled = s.so_far.spelled;
}

pub frame_refused : {A : Type 0} (Spell : Cell → A → Type 0) (Refuse : Cell → SqlError → Type 0) (bytes : List ℕ) (values : List A) (now : Elements) (e : SqlError) → ReadSoFar Spell bytes values now → 0 < now.left
    → HasNoFrame now.nulls now.rest e → RefusesArray Spell Refuse bytes e
frame_refused Spell Refuse bytes values now e s some h = fails_behind s.all s.begins (next_fails Spell (λ error. error) Refuse s.all now values e s.so_far some (no_frame e h refl))

pub cell_refused : {A : Type 0} (Spell : Cell → A → Type 0) (Refuse : Cell → SqlError → Type 0) (bytes : List ℕ) (values : List A) (now next : Elements) (c : Cell) (e : SqlError) → ReadSoFar Spell bytes values now → IsNext c now next
    → Refuse c e → RefusesArray Spell Refuse bytes e
cell_refused Spell Refuse bytes values now next c e s n h =
    fails_behind s.all s.begins (next_fails Spell (λ error. error) Refuse s.all now values e s.so_far (omega (arith, n.left)) (cell_fails c next.rest n.is n.framed h))

-- what a reader gave
pub given_next : (before : Elements) (r : Option RawCell) (cell : RawCell) (now : Elements) → r ≡ Some cell → GivesNext before (Ok r) now → IsNext (cell_of cell) before now
given_next before r cell now is given = subst (λ (x : Option RawCell). GivesNext before (Ok x) now) is given
