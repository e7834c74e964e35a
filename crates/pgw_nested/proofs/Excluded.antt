-- A piece is an array of one list of cells at most. One that is an array does not fail as one, if no cell both spells an
-- element and fails as one.
use Rattle.std.proofs.Common.{◌≡◌, ℕ, ◌<◌, Bool, List, [], ◌∷◌, ◌++◌, length, refl, sym, ap, subst, ◌∙◌, append_assoc, arith}
use Rattle.pgw_wire.specs.Cell.{Cell, frame}
use Rattle.pgw_wire.specs.declared.sql_error.SqlError.{SqlError}
use Rattle.pgw_nested.specs.Frames.{frames, IsFramed, AreFramed, HasNoFrame}
use Rattle.pgw_nested.specs.Array.{Elements, BeginsArray, BeginsNoArray, AreArrayCells, Each, IsArray, NextFails, no_frame, cell_fails, FailsArray, fails_in_front, fails_behind}
use Rattle.pgw_nested.specs.Reading.{cell_at, elements_at}
use Rattle.pgw_nested.proofs.Exact.{never_both}
use Rattle.pgw_nested.proofs.Cutting.{cell_again, no_frame_again, one_frame}
use Rattle.pgw_nested.proofs.Beginnings.{begins_again, begins_no_again, one_beginning}

-- Bytes do not begin both as an array and as none, nor with a frame and with none.
pub begins_or_not : (bytes : List ℕ) (elements : Elements) (error : SqlError) → BeginsArray bytes elements → BeginsNoArray bytes error → ⊥
begins_or_not bytes elements error b n = never_both (elements_at bytes) elements error (begins_again bytes elements b) (begins_no_again bytes error n)

pub frame_or_not : (nulls : Bool) (c : Cell) (x behind : List ℕ) (error : SqlError) → IsFramed nulls c → frame c ++ x ≡ behind → HasNoFrame nulls behind error → ⊥
frame_or_not nulls c x behind error f is h =
    never_both (cell_at nulls behind) (c, x) error (ap (cell_at nulls) (sym is) ∙ cell_again nulls c x f) (no_frame_again nulls behind error h)

-- as many cells in front of bytes are the same cells
same_cells : (nulls : Bool) (cs ds : List Cell) (x y : List ℕ) → length cs ≡ length ds → AreFramed nulls cs → AreFramed nulls ds → frames cs ++ x ≡ frames ds ++ y → cs ≡ ds
same_cells nulls [] [] x y n f g e = refl
same_cells nulls [] (d ∷ ds) x y n f g e = absurd (omega (arith, n))
same_cells nulls (c ∷ cs) [] x y n f g e = absurd (omega (arith, n))
same_cells nulls (c ∷ cs) (d ∷ ds) x y n f g e =
    let one = one_frame nulls c d (frames cs ++ x) (frames ds ++ y) f.0 g.0 (sym (append_assoc (frame c) (frames cs) x) ∙ e ∙ append_assoc (frame d) (frames ds) y) in
    let others = same_cells nulls cs ds x y (omega (arith, n)) f.1 g.1 one.1 in
    ap (λ (z : Cell). z ∷ cs) one.0 ∙ ap (λ (zs : List Cell). d ∷ zs) others

pub one_list_of_cells : (bytes : List ℕ) (cs ds : List Cell) → AreArrayCells bytes cs → AreArrayCells bytes ds → cs ≡ ds
one_list_of_cells bytes cs ds a b =
    let same = one_beginning bytes b.elements a.elements b.begins a.begins in
    let many : a.elements.left ≡ length ds = subst (λ (e : Elements). e.left ≡ length ds) same b.many in
    let framed : AreFramed a.elements.nulls ds = subst (λ (e : Elements). AreFramed e.nulls ds) same b.framed in
    let is : a.elements.rest ≡ frames ds ++ b.behind = subst (λ (e : Elements). e.rest ≡ frames ds ++ b.behind) same b.is in
    same_cells a.elements.nulls cs ds a.behind b.behind (sym a.many ∙ many) a.framed framed (sym a.is ∙ is)

same_values : {A : Type 0} (Spell : Cell → A → Type 0) (one : (c : Cell) (v w : A) → Spell c v → Spell c w → v ≡ w) (cs : List Cell) (vs ws : List A) → Each Spell cs vs → Each Spell cs ws → vs ≡ ws
same_values Spell one [] [] [] s t = refl
same_values Spell one [] [] (w ∷ ws) s t = absurd t
same_values Spell one [] (v ∷ vs) ws s t = absurd s
same_values Spell one (c ∷ cs) [] ws s t = absurd s
same_values Spell one (c ∷ cs) (v ∷ vs) [] s t = absurd t
same_values Spell one (c ∷ cs) (v ∷ vs) (w ∷ ws) s t =
    ap (λ z. z ∷ vs) (one c v w s.0 t.0) ∙ ap (λ zs. w ∷ zs) (same_values Spell one cs vs ws s.1 t.1)

-- Where a cell spells one value at most, a piece is an array of one list of values at most.
pub one_list_of_values : {A : Type 0} (Spell : Cell → A → Type 0) (one : (c : Cell) (v w : A) → Spell c v → Spell c w → v ≡ w) (bytes : List ℕ) (vs ws : List A) → IsArray Spell bytes vs → IsArray Spell bytes ws → vs ≡ ws
one_list_of_values Spell one bytes vs ws a b =
    let same = one_list_of_cells bytes b.cells a.cells b.are a.are in
    same_values Spell one a.cells vs ws a.spelled (subst (λ (cs : List Cell). Each Spell cs ws) same b.spelled)

module _ {A E : Type 0} (name : SqlError → E) (Spell : Cell → A → Type 0) (Fail : Cell → E → Type 0) (excluded : (c : Cell) (v : A) (e : E) → Spell c v → Fail c e → ⊥) where
  next_excluded : (nulls : Bool) (c : Cell) (v : A) (x behind : List ℕ) (e : E) → IsFramed nulls c → Spell c v → frame c ++ x ≡ behind → NextFails name Fail nulls behind e → ⊥
  next_excluded nulls c v x behind e f s is (no_frame error h _) = frame_or_not nulls c x behind error f is h
  next_excluded nulls c v x behind e f s is (cell_fails d rest whole g h) =
      let one = one_frame nulls c d x rest f g (is ∙ whole) in
      excluded d v e (subst (λ (z : Cell). Spell z v) one.0 s) h

  behind_excluded : (nulls : Bool) (cs ds : List Cell) (vs ws : List A) (x behind : List ℕ) (e : E) → length ds < length cs → AreFramed nulls cs → AreFramed nulls ds → Each Spell cs vs
      → frames cs ++ x ≡ frames ds ++ behind → NextFails name Fail nulls behind e → ⊥
  behind_excluded nulls [] ds vs ws x behind e few f g s is h = absurd (omega (arith, few))
  behind_excluded nulls (c ∷ cs) ds [] ws x behind e few f g s is h = absurd s
  behind_excluded nulls (c ∷ cs) [] (v ∷ vs) ws x behind e few f g s is h =
      next_excluded nulls c v (frames cs ++ x) behind e f.0 s.0 (sym (append_assoc (frame c) (frames cs) x) ∙ is) h
  behind_excluded nulls (c ∷ cs) (d ∷ ds) (v ∷ vs) ws x behind e few f g s is h =
      let one = one_frame nulls c d (frames cs ++ x) (frames ds ++ behind) f.0 g.0 (sym (append_assoc (frame c) (frames cs) x) ∙ is ∙ append_assoc (frame d) (frames ds) behind) in
      behind_excluded nulls cs ds vs ws x behind e (omega (arith, few)) f.1 g.1 s.1 one.1 h

  pub no_array : (bytes : List ℕ) (vs : List A) (e : E) → IsArray Spell bytes vs → FailsArray name Spell Fail bytes e → ⊥
  no_array bytes vs e s (fails_in_front error h _) = begins_or_not bytes s.are.elements error s.are.begins h
  no_array bytes vs e s (fails_behind elements begins f) =
      let a = s.are in
      let same = one_beginning bytes a.elements elements a.begins begins in
      let many : elements.left ≡ length s.cells = subst (λ (x : Elements). x.left ≡ length s.cells) same a.many in
      let framed : AreFramed elements.nulls s.cells = subst (λ (x : Elements). AreFramed x.nulls s.cells) same a.framed in
      let is : elements.rest ≡ frames s.cells ++ a.behind = subst (λ (x : Elements). x.rest ≡ frames s.cells ++ a.behind) same a.is in
      behind_excluded elements.nulls s.cells f.cells vs f.values a.behind f.behind e (subst (λ (n : ℕ). length f.cells < n) many f.fewer) framed f.framed s.spelled (sym is ∙ f.is) f.next
