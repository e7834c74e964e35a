-- A counted list of cells, whose frames stand one behind the other, and what it is read as.
use Rattle.std.proofs.Common.{◌≡◌, ◌+◌, ◌-◌, ℕ, zero, suc, Bool, List, [], ◌∷◌, ◌++◌, length, Result, Ok, Err, refl, sym, ap, ◌∙◌, append_assoc, append-nil, arith}
use Rattle.pgw_wire.specs.Cell.{Cell, frame}
use Rattle.pgw_wire.specs.declared.sql_error.SqlError.{SqlError}
use Rattle.pgw_nested.specs.Frames.{frames, AreFramed}
use Rattle.pgw_nested.specs.Array.{Each, NextFails, no_frame, cell_fails, FailsBehind}
use Rattle.pgw_nested.specs.Reading.{◌>>=◌, named, cell_at, read_cells}
use Rattle.pgw_nested.proofs.Exact.{IsExact}
use Rattle.pgw_nested.proofs.Cutting.{IsBytes, IsBytesCell, TakesCell, cell_again, no_frame_again, cell_takes, no_frame_is}

module _ {A E : Type 0} (name : SqlError → E) (Spell : Cell → A → Type 0) (Fail : Cell → E → Type 0) (read : Cell → Result A E) (exact : IsExact IsBytesCell Spell Fail read) (nulls : Bool) where
  abbrev Read : Type 0
  Read = Result (List A × List ℕ) E

  -- with more values in front
  abbrev in_front : List A → Read → Read
  in_front vs (Ok x) = Ok (vs ++ x.0, x.1)
  in_front vs (Err e) = Err e

  none_in_front : (r : Read) → r ≡ in_front [] r
  none_in_front (Ok x) = refl
  none_in_front (Err e) = refl

  one_in_front : (v : A) (vs : List A) (r : Read) → ◌>>=◌ {A = List A × List ℕ} (in_front vs r) (λ y. Ok (v ∷ y.0, y.1)) ≡ in_front (v ∷ vs) r
  one_in_front v vs (Ok x) = refl
  one_in_front v vs (Err e) = refl

  -- The cells in front are read, and then the others.
  pub cells_then : (cells : List Cell) (vs : List A) (m n : ℕ) (behind : List ℕ) → m ≡ length cells + n → AreFramed nulls cells → Each Spell cells vs
      → read_cells name read nulls m (frames cells ++ behind) ≡ in_front vs (read_cells name read nulls n behind)
  unfolding read_cells
  cells_then [] [] m n behind many f s =
      let same : m ≡ n = omega (arith, many) in
      ap (λ (x : ℕ). read_cells name read nulls x behind) same ∙ none_in_front (read_cells name read nulls n behind)
  cells_then [] (v ∷ vs) m n behind many f s = absurd s
  cells_then (c ∷ cs) [] m n behind many f s = absurd s
  cells_then (c ∷ cs) (v ∷ vs) zero n behind many f s = absurd (omega (arith, many))
  cells_then (c ∷ cs) (v ∷ vs) (suc m) n behind many f s =
      ap (read_cells name read nulls (suc m)) (append_assoc (frame c) (frames cs) behind) ∙
      rw (cell_again nulls c (frames cs ++ behind) f.0, exact.again c v s.0, cells_then cs vs m n behind (omega (arith, many)) f.1 s.1) (one_in_front v vs (read_cells name read nulls n behind))

  pub cells_again : (cells : List Cell) (vs : List A) (behind : List ℕ) → AreFramed nulls cells → Each Spell cells vs → read_cells name read nulls (length cells) (frames cells ++ behind) ≡ Ok (vs, behind)
  unfolding read_cells
  cells_again cells vs behind f s =
      cells_then cells vs (length cells) 0 behind (omega arith) f s ∙ ap (λ (ws : List A). Ok (ws, behind)) (append-nil vs)

  next_again : (n : ℕ) (behind : List ℕ) (e : E) → NextFails name Fail nulls behind e → read_cells name read nulls (suc n) behind ≡ Err e
  unfolding read_cells
  next_again n behind e (no_frame error h is) = rw (no_frame_again nulls behind error h) (ap Err (sym is))
  next_again n behind e (cell_fails c rest is framed fails) =
      ap (read_cells name read nulls (suc n)) is ∙ rw (cell_again nulls c rest framed, exact.refused c e fails) refl

  -- The first fault is the error.
  pub fault_again : (n : ℕ) (bytes : List ℕ) (e : E) → FailsBehind name Spell Fail (record { left = n; nulls = nulls; rest = bytes }) e → read_cells name read nulls n bytes ≡ Err e
  fault_again n bytes e f =
      let k : ℕ = n - (length f.cells + 1) in
      let many : n ≡ length f.cells + suc k = omega (arith, f.fewer) in
      ap (read_cells name read nulls n) f.is ∙ cells_then f.cells f.values n (suc k) f.behind many f.framed f.spelled ∙ rw (next_again k f.behind e f.next) refl

  -- so many cells in front of bytes, that spell these values, and the bytes behind them
  pub record TakesCells (n : ℕ) (bytes : List ℕ) (x : List A × List ℕ) : Type 0 where
    pub cells : List Cell
    pub is : bytes ≡ frames cells ++ x.1
    pub many : n ≡ length cells
    pub framed : AreFramed nulls cells
    pub spelled : Each Spell cells x.0

  abbrev pub Outcome : ℕ → List ℕ → Result (List A × List ℕ) E → Type 0
  Outcome n bytes (Ok x) = TakesCells n bytes x
  Outcome n bytes (Err e) = FailsBehind name Spell Fail (record { left = n; nulls = nulls; rest = bytes }) e

  one_more : (n : ℕ) (bytes : List ℕ) (c : Cell × List ℕ) (v : A) → TakesCell nulls bytes c → Spell c.0 v → (r : Read) → Outcome n c.1 r → Outcome (suc n) bytes (r >>= λ vs. Ok (v ∷ vs.0, vs.1))
  one_more n bytes c v t s (Ok x) o = record {
    cells = c.0 ∷ o.cells;
    is = t.is ∙ ap (λ (y : List ℕ). frame c.0 ++ y) o.is ∙ sym (append_assoc (frame c.0) (frames o.cells) x.1);
    many = ap suc o.many;
    framed = (t.framed, o.framed);
    spelled = (s, o.spelled);
  }
  one_more n bytes c v t s (Err e) o = record {
    cells = c.0 ∷ o.cells;
    values = v ∷ o.values;
    behind = o.behind;
    fewer = omega (arith, o.fewer);
    framed = (t.framed, o.framed);
    is = t.is ∙ ap (λ (y : List ℕ). frame c.0 ++ y) o.is ∙ sym (append_assoc (frame c.0) (frames o.cells) o.behind);
    spelled = (s, o.spelled);
    next = o.next;
  }

  fails_here : (n : ℕ) (bytes : List ℕ) (e : E) → NextFails name Fail nulls bytes e → Outcome (suc n) bytes (Err e)
  fails_here n bytes e next = record { cells = []; values = []; behind = bytes; fewer = omega arith; framed = tt; is = refl; spelled = tt; next = next }

  more_of : (n : ℕ) (bytes : List ℕ) → IsBytes bytes → ((rest : List ℕ) → IsBytes rest → Outcome n rest (read_cells name read nulls n rest)) → Outcome (suc n) bytes (read_cells name read nulls (suc n) bytes)
  unfolding read_cells
  more_of n bytes fits others = at (cell_at nulls bytes) refl
    where
      value : (c : Cell × List ℕ) → TakesCell nulls bytes c → (r : Result A E) → read c.0 ≡ r → Outcome (suc n) bytes (r >>= λ v. read_cells name read nulls n c.1 >>= λ vs. Ok (v ∷ vs.0, vs.1))
      value c t (Ok v) e = one_more n bytes c v t (exact.spelled c.0 v t.cell e) (read_cells name read nulls n c.1) (others c.1 t.rest)
      value c t (Err d) e = fails_here n bytes d (cell_fails c.0 c.1 t.is t.framed (exact.fails c.0 d t.cell e))

      at : (r : Result (Cell × List ℕ) SqlError) → cell_at nulls bytes ≡ r → Outcome (suc n) bytes (named name r >>= λ cell. read cell.0 >>= λ v. read_cells name read nulls n cell.1 >>= λ vs. Ok (v ∷ vs.0, vs.1))
      at (Ok c) e = value c (cell_takes nulls bytes c fits e) (read c.0) refl
      at (Err d) e = fails_here n bytes (name d) (no_frame d (no_frame_is nulls bytes d fits e) refl)

  -- Either the values of as many cells are read, or the first fault is the error.
  pub outcome : (n : ℕ) (bytes : List ℕ) → IsBytes bytes → Outcome n bytes (read_cells name read nulls n bytes)
  unfolding read_cells
  outcome zero bytes fits = record { cells = []; is = refl; many = refl; framed = tt; spelled = tt }
  outcome (suc n) bytes fits = more_of n bytes fits (outcome n)
