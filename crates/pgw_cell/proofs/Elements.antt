-- The cells of an array's elements, as they are read one after the other.
use Rattle.std.proofs.Common.{◌≡◌, ◌<◌, ℕ, zero, suc, Bool, List, [], ◌∷◌, length, Option, None, Result, Ok, Err, refl, sym, ap, subst, ◌∙◌, arith}
use Rattle.pgw_wire.specs.Cell.{Cell}
use Rattle.pgw_wire.specs.declared.cell.RawCell.{RawCell}
use Rattle.pgw_wire.specs.declared.kind.Break.{Break}
use Rattle.pgw_wire.specs.declared.sql_error.SqlError.{SqlError}
use Rattle.pgw_nested.specs.Frames.{HasNoFrame}
use Rattle.pgw_nested.specs.Array.{Elements, kind_named}
use Rattle.pgw_nested.specs.Pieces.{IsNext, GivesNext}
use Rattle.pgw_nested.specs.Reading.{◌>>=◌, named, cell_at, read_cells}
use Rattle.pgw_nested.proofs.Steps.{bind_ok}
use Rattle.pgw_nested.proofs.Exact.{ok_is}
use Rattle.pgw_nested.proofs.Cutting.{cell_again, no_frame_again}
use Rattle.pgw_cell.specs.Value.{Value}

-- a value in front of others that were read
abbrev pub then_value : Value → Result (List Value × List ℕ) Break → Result (List Value × List ℕ) Break
then_value v (Ok x) = Ok (v ∷ x.0, x.1)
then_value v (Err kind) = Err kind

bound : (v : Value) (r : Result (List Value × List ℕ) Break) → (r >>= λ x. Ok (v ∷ x.0, x.1)) ≡ then_value v r
bound v (Ok x) = refl
bound v (Err kind) = refl

-- No element is left where a reader gave none.
pub given_none : (before : Elements) (r : Option RawCell) (now : Elements) → r ≡ None → GivesNext before (Ok r) now → before.left ≡ 0
given_none before r now is given = let none = subst (λ (x : Option RawCell). GivesNext before (Ok x) now) is given in none.0

module _ (read : Cell → Result Value Break) where
  abbrev pub all_read : Elements → Result (List Value × List ℕ) Break
  all_read e = read_cells kind_named read e.nulls e.left e.rest

  -- Where an element is next, what is read begins with it.
  pub next_read : (c : Cell) (v : Value) (before now : Elements) → IsNext c before now → read c ≡ Ok v → all_read before ≡ then_value v (all_read now)
  unfolding read_cells
  next_read c v before now n e =
      ap (λ (k : ℕ). read_cells kind_named read before.nulls k before.rest) n.left
      ∙ ap (λ (l : List ℕ). read_cells kind_named read before.nulls (suc now.left) l) n.is
      ∙ rw (cell_again before.nulls c now.rest n.framed, e) (bound v (read_cells kind_named read before.nulls now.left now.rest))
      ∙ ap (λ (b : Bool). then_value v (read_cells kind_named read b now.left now.rest)) (sym n.nulls)

  -- Where it breaks, all breaks so.
  pub next_broken : (c : Cell) (kind : Break) (before now : Elements) → IsNext c before now → read c ≡ Err kind → all_read before ≡ Err kind
  unfolding read_cells
  next_broken c kind before now n e =
      ap (λ (k : ℕ). read_cells kind_named read before.nulls k before.rest) n.left
      ∙ ap (λ (l : List ℕ). read_cells kind_named read before.nulls (suc now.left) l) n.is
      ∙ rw (cell_again before.nulls c now.rest n.framed, e) refl

  none_framed : (nulls : Bool) (left : ℕ) (rest : List ℕ) (error : SqlError) → 0 < left → HasNoFrame nulls rest error → read_cells kind_named read nulls left rest ≡ Err (kind_named error)
  unfolding read_cells
  none_framed nulls zero rest error some h = absurd (omega (arith, some))
  none_framed nulls (suc n) rest error some h = rw (no_frame_again nulls rest error h) refl

  pub frame_broken : (before : Elements) (error : SqlError) → 0 < before.left → HasNoFrame before.nulls before.rest error → all_read before ≡ Err (kind_named error)
  frame_broken before error some h = none_framed before.nulls before.left before.rest error some h

  -- Where none is left, none is read.
  pub none_left : (e : Elements) → e.left ≡ 0 → all_read e ≡ Ok ([], e.rest)
  unfolding read_cells
  none_left e none = ap (λ (k : ℕ). read_cells kind_named read e.nulls k e.rest) none

  -- As many values are read as elements were left.
  read_many : (nulls : Bool) (n : ℕ) (rest : List ℕ) (x : List Value × List ℕ) → read_cells kind_named read nulls n rest ≡ Ok x → n ≡ length x.0
  unfolding read_cells
  read_many nulls zero rest x e = ap (λ (y : List Value × List ℕ). length y.0) (ok_is {E = Break} ([], rest) x e)
  read_many nulls (suc n) rest x e =
      let a = bind_ok (named kind_named (cell_at nulls rest)) (λ cell. read cell.0 >>= λ v. read_cells kind_named read nulls n cell.1 >>= λ vs. Ok (v ∷ vs.0, vs.1)) x e in
      let b = bind_ok (read a.0.0) (λ v. read_cells kind_named read nulls n a.0.1 >>= λ vs. Ok (v ∷ vs.0, vs.1)) x a.2 in
      let d = bind_ok (read_cells kind_named read nulls n a.0.1) (λ vs. Ok (b.0 ∷ vs.0, vs.1)) x b.2 in
      ap suc (read_many nulls n a.0.1 d.0 d.1) ∙ ap (λ (y : List Value × List ℕ). length y.0) (ok_is {E = Break} (b.0 ∷ d.0.0, d.0.1) x d.2)

  pub elements_many : (e : Elements) (x : List Value × List ℕ) → all_read e ≡ Ok x → e.left ≡ length x.0
  elements_many e x read_so = read_many e.nulls e.left e.rest x read_so
