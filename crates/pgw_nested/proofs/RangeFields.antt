-- The fields of ranges are read as their definitions say, where the cells of their bounds are.
use Rattle.std.proofs.Common.{◌≡◌, inl, inr, ℕ, ◌<◌, Bool, true, false, cond, ltb, List, [], ◌∷◌, ◌++◌, length, take, drop, Option, None, Some, unwrap_or, Result, Ok, Err, refl, sym, ap, subst, ◌∙◌, arith}
use Rattle.std.proofs.lemmas.Bool.{ltb-true, ltb-false, le-ltb, lt-ltb}
use Rattle.std.proofs.lemmas.List.{length-append, length-take, drop_at, take-append-drop}
use Rattle.std.specs.declared.ops.Bound.{Bound}
use Rattle.std.specs.declared.ops.Bound.TheVariants.{Included, Excluded, Unbounded}
use Rattle.pgw_wire.specs.Cell.{Cell, frame}
use Rattle.pgw_wire.specs.declared.kind.Break.{Break}
use Rattle.pgw_wire.specs.declared.sql_error.SqlError.{SqlError}
use Rattle.pgw_wire.specs.declared.sql_error.SqlError.TheVariants.{ShortBuffer}
use Rattle.pgw_nested.specs.Frames.{IsFramed, HasNoFrame}
use Rattle.pgw_nested.specs.Array.{kind_named}
use Rattle.pgw_nested.specs.Reading.{◌>>=◌, named, cell_at}
use Rattle.pgw_nested.proofs.Exact.{IsExact, ok_is, err_is}
use Rattle.pgw_nested.proofs.Cutting.{IsBytes, IsBytesCell, bytes_dropped, cell_again, no_frame_again, cell_takes, no_frame_is}
use Rattle.pgw_nested.specs.Flags.{has, empty, lower_included, upper_included, lower_infinite, upper_infinite}
use Rattle.pgw_nested.specs.Range.{Bounds, bound_at, HasLower, no_lower, lower_piece, HasUpper, no_upper, upper_piece, AreRangeParts, no_bounds, two_bounds, SpellsBound, no_value, SpellParts, IsRange, as_range, FailsLower, no_lower_piece, lower_fails, FailsUpper, no_upper_piece, upper_fails, FailsRange, no_flags, fails_at_lower, fails_at_upper, BreaksRange}
use Rattle.pgw_nested.specs.RangeReading.{lower_of, lower_at, upper_at, read_bound, bounds_behind, read_range_by, read_range}
use Rattle.pgw_nested.proofs.Steps.{bind_ok, bind_err, named_ok, named_err, no_err}

-- ---- the pieces of the bounds

abbrev IsBytesBound : Bound (List ℕ) → Type 0
IsBytesBound Unbounded = Unit {0}
IsBytesBound (Included p) = IsBytes p
IsBytesBound (Excluded p) = IsBytes p

bytes_at : (included : Bool) (p : List ℕ) → IsBytes p → IsBytesBound (bound_at included p)
bytes_at true p h = h
bytes_at false p h = h

bytes_of : (included : Bool) (p : List ℕ) → IsBytesBound (bound_at included p) → IsBytes p
bytes_of true p h = h
bytes_of false p h = h

pub lower_again : (flags : ℕ) (bytes : List ℕ) (lower : Bound (List ℕ)) (behind : List ℕ) → HasLower flags bytes lower behind → lower_at flags bytes ≡ Ok (lower, behind)
unfolding lower_at
lower_again flags bytes lower behind (no_lower infinite is all) = rw (infinite, is, all) refl
lower_again flags bytes lower behind (lower_piece p infinite few whole is) = rw (infinite, whole, cell_again false (Some p) behind few, is) refl

pub no_lower_again : (flags : ℕ) (bytes : List ℕ) (error : SqlError) → has flags lower_infinite ≡ false → HasNoFrame false bytes error → lower_at flags bytes ≡ Err (as_range error)
unfolding lower_at
no_lower_again flags bytes error infinite h = rw (infinite, no_frame_again false bytes error h) refl

pub upper_again : (flags : ℕ) (bytes : List ℕ) (upper : Bound (List ℕ)) → HasUpper flags bytes upper → upper_at flags bytes ≡ Ok upper
unfolding upper_at
upper_again flags bytes upper (no_upper infinite is) = rw (infinite, is) refl
upper_again flags bytes upper (upper_piece word p infinite four whole is) =
    let long : ltb (length (word ++ p)) 4 ≡ false = le-ltb _ _ (omega (arith, length-append word p, four)) in
    rw (infinite, whole, long, drop_at word p 4 four, is) refl

pub no_upper_again : (flags : ℕ) (bytes : List ℕ) → has flags upper_infinite ≡ false → length bytes < 4 → upper_at flags bytes ≡ Err ShortBuffer
unfolding upper_at
no_upper_again flags bytes infinite few = rw (infinite, lt-ltb _ _ few) refl

record TakesLower (flags : ℕ) (bytes : List ℕ) (l : Bound (List ℕ) × List ℕ) : Type 0 where
  pub has_lower : HasLower flags bytes l.0 l.1
  pub piece : IsBytesBound l.0
  pub rest : IsBytes l.1

lower_ok : (included : Bool) (r : Result (Cell × List ℕ) SqlError) (l : Bound (List ℕ) × List ℕ) → lower_of included r ≡ Ok l → (c : Cell × List ℕ) × (r ≡ Ok c) × ((bound_at included (unwrap_or c.0 []), c.1) ≡ l)
lower_ok included (Ok c) l h = (c, refl, ok_is {E = SqlError} (bound_at included (unwrap_or c.0 []), c.1) l h)
lower_ok included (Err d) l h = absurd cc

lower_err : (included : Bool) (r : Result (Cell × List ℕ) SqlError) (e : SqlError) → lower_of included r ≡ Err e → (d : SqlError) × (r ≡ Err d) × (e ≡ as_range d)
lower_err included (Ok c) e h = absurd cc
lower_err included (Err d) e h = (d, refl, sym (err_is {A = Bound (List ℕ) × List ℕ} (as_range d) e h))

taken : (flags : ℕ) (bytes : List ℕ) (c : Cell) (rest : List ℕ) → has flags lower_infinite ≡ false → IsFramed false c → IsBytesCell c → bytes ≡ frame c ++ rest → IsBytes rest
    → TakesLower flags bytes (bound_at (has flags lower_included) (unwrap_or c []), rest)
taken flags bytes None rest infinite framed piece is fits = absurd (cc)
taken flags bytes (Some p) rest infinite framed piece is fits =
    record { has_lower = lower_piece p infinite framed is refl; piece = bytes_at (has flags lower_included) p piece; rest = fits }

lower_takes : (flags : ℕ) (bytes : List ℕ) (l : Bound (List ℕ) × List ℕ) → IsBytes bytes → lower_at flags bytes ≡ Ok l → TakesLower flags bytes l
unfolding lower_at
lower_takes flags bytes l fits e = cases (has flags lower_infinite) refl e
  where
    cases : (b : Bool) → has flags lower_infinite ≡ b → cond b (Ok (Unbounded, bytes)) (lower_of (has flags lower_included) (cell_at false bytes)) ≡ Ok l → TakesLower flags bytes l
    cases true b h =
        subst (λ (x : Bound (List ℕ) × List ℕ). TakesLower flags bytes x) (ok_is {E = SqlError} (Unbounded, bytes) l h)
        (record { has_lower = no_lower b refl refl; piece = tt; rest = fits })
    cases false b h =
        let c = lower_ok (has flags lower_included) (cell_at false bytes) l h in
        let t = cell_takes false bytes c.0 fits c.1 in
        subst (λ (x : Bound (List ℕ) × List ℕ). TakesLower flags bytes x) c.2
        (taken flags bytes c.0.0 c.0.1 b t.framed t.cell t.is t.rest)

lower_is_none : (flags : ℕ) (bytes : List ℕ) (e : SqlError) → IsBytes bytes → lower_at flags bytes ≡ Err e → (has flags lower_infinite ≡ false) × (error : SqlError) × HasNoFrame false bytes error × (e ≡ as_range error)
unfolding lower_at
lower_is_none flags bytes e fits h = cases (has flags lower_infinite) refl h
  where
    cases : (b : Bool) → has flags lower_infinite ≡ b → cond b (Ok (Unbounded, bytes)) (lower_of (has flags lower_included) (cell_at false bytes)) ≡ Err e
        → (has flags lower_infinite ≡ false) × (error : SqlError) × HasNoFrame false bytes error × (e ≡ as_range error)
    cases true b k = absurd cc
    cases false b k = let d = lower_err (has flags lower_included) (cell_at false bytes) e k in (b, d.0, no_frame_is false bytes d.0 fits d.1, d.2)

record TakesUpper (flags : ℕ) (bytes : List ℕ) (u : Bound (List ℕ)) : Type 0 where
  pub has_upper : HasUpper flags bytes u
  pub piece : IsBytesBound u

abbrev Upper : Type 0
Upper = Result (Bound (List ℕ)) SqlError

upper_takes : (flags : ℕ) (bytes : List ℕ) (u : Bound (List ℕ)) → IsBytes bytes → upper_at flags bytes ≡ Ok u → TakesUpper flags bytes u
unfolding upper_at
upper_takes flags bytes u fits e = cases (has flags upper_infinite) refl e
  where
    long : (b : Bool) → ltb (length bytes) 4 ≡ b → has flags upper_infinite ≡ false → cond {A = Upper} b (Err ShortBuffer) (Ok (bound_at (has flags upper_included) (drop 4 bytes))) ≡ Ok u → TakesUpper flags bytes u
    long true b infinite h = absurd cc
    long false b infinite h =
        let four : length (take 4 bytes) ≡ 4 = omega (arith, length-take 4 bytes, ltb-false _ _ b) in
        subst (λ (x : Bound (List ℕ)). TakesUpper flags bytes x) (ok_is {E = SqlError} (bound_at (has flags upper_included) (drop 4 bytes)) u h)
        (record { has_upper = upper_piece (take 4 bytes) (drop 4 bytes) infinite four (sym (take-append-drop 4 bytes)) refl; piece = bytes_at (has flags upper_included) (drop 4 bytes) (bytes_dropped 4 bytes fits) })

    cases : (b : Bool) → has flags upper_infinite ≡ b → cond {A = Upper} b (Ok Unbounded) (cond {A = Upper} (ltb (length bytes) 4) (Err ShortBuffer) (Ok (bound_at (has flags upper_included) (drop 4 bytes)))) ≡ Ok u → TakesUpper flags bytes u
    cases true b h =
        subst (λ (x : Bound (List ℕ)). TakesUpper flags bytes x) (ok_is {E = SqlError} Unbounded u h) (record { has_upper = no_upper b refl; piece = tt })
    cases false b h = long (ltb (length bytes) 4) refl b h

upper_is_none : (flags : ℕ) (bytes : List ℕ) (e : SqlError) → upper_at flags bytes ≡ Err e → (has flags upper_infinite ≡ false) × (length bytes < 4) × (e ≡ ShortBuffer)
unfolding upper_at
upper_is_none flags bytes e h = cases (has flags upper_infinite) refl h
  where
    long : (b : Bool) → ltb (length bytes) 4 ≡ b → has flags upper_infinite ≡ false → cond {A = Upper} b (Err ShortBuffer) (Ok (bound_at (has flags upper_included) (drop 4 bytes))) ≡ Err e
        → (has flags upper_infinite ≡ false) × (length bytes < 4) × (e ≡ ShortBuffer)
    long true b infinite k = (infinite, ltb-true _ _ b, sym (err_is {A = Bound (List ℕ)} ShortBuffer e k))
    long false b infinite k = absurd cc

    cases : (b : Bool) → has flags upper_infinite ≡ b → cond {A = Upper} b (Ok Unbounded) (cond {A = Upper} (ltb (length bytes) 4) (Err ShortBuffer) (Ok (bound_at (has flags upper_included) (drop 4 bytes)))) ≡ Err e
        → (has flags upper_infinite ≡ false) × (length bytes < 4) × (e ≡ ShortBuffer)
    cases true b k = absurd cc
    cases false b k = long (ltb (length bytes) 4) refl b k

-- ---- their values

module _ {A E : Type 0} (name : SqlError → E) (Spell : Cell → A → Type 0) (Fail : Cell → E → Type 0) (read : Cell → Result A E) (exact : IsExact IsBytesCell Spell Fail read) where
  bound_again : (p : Bound (List ℕ)) (v : Bound A) → SpellsBound Spell p v → read_bound read p ≡ Ok v
  bound_again Unbounded Unbounded s = refl
  bound_again Unbounded (Included v) s = absurd s
  bound_again Unbounded (Excluded v) s = absurd s
  bound_again (Included p) Unbounded s = absurd s
  bound_again (Included p) (Included v) s = rw (exact.again (Some p) v s) refl
  bound_again (Included p) (Excluded v) s = absurd s
  bound_again (Excluded p) Unbounded s = absurd s
  bound_again (Excluded p) (Included v) s = absurd s
  bound_again (Excluded p) (Excluded v) s = rw (exact.again (Some p) v s) refl

  bound_spelled : (p : Bound (List ℕ)) (v : Bound A) → IsBytesBound p → read_bound read p ≡ Ok v → SpellsBound Spell p v
  bound_spelled Unbounded v fits h = subst (λ (x : Bound A). SpellsBound Spell Unbounded x) (ok_is {E = E} Unbounded v h) tt
  bound_spelled (Included p) v fits h =
      let b = bind_ok (read (Some p)) (λ x. Ok (Included x)) v h in
      subst (λ (x : Bound A). SpellsBound Spell (Included p) x) (ok_is {E = E} (Included b.0) v b.2) (exact.spelled (Some p) b.0 fits b.1)
  bound_spelled (Excluded p) v fits h =
      let b = bind_ok (read (Some p)) (λ x. Ok (Excluded x)) v h in
      subst (λ (x : Bound A). SpellsBound Spell (Excluded p) x) (ok_is {E = E} (Excluded b.0) v b.2) (exact.spelled (Some p) b.0 fits b.1)

  bound_refused : (included : Bool) (p : List ℕ) (e : E) → Fail (Some p) e → read_bound read (bound_at included p) ≡ Err e
  bound_refused true p e f = rw (exact.refused (Some p) e f) refl
  bound_refused false p e f = rw (exact.refused (Some p) e f) refl

  bound_fails : (included : Bool) (p : List ℕ) (e : E) → IsBytes p → read_bound read (bound_at included p) ≡ Err e → Fail (Some p) e
  bound_fails true p e fits h = elim (bind_err (read (Some p)) (λ x. Ok (Included x)) e h) [
    | inl r ↦ exact.fails (Some p) e fits r
    | inr r ↦ absurd (no_err _ e r.2)
  ]
  bound_fails false p e fits h = elim (bind_err (read (Some p)) (λ x. Ok (Excluded x)) e h) [
    | inl r ↦ exact.fails (Some p) e fits r
    | inr r ↦ absurd (no_err _ e r.2)
  ]

  lower_value_fails : (flags : ℕ) (bytes : List ℕ) (lower : Bound (List ℕ)) (behind : List ℕ) (e : E) → HasLower flags bytes lower behind → IsBytesBound lower → read_bound read lower ≡ Err e → FailsLower name Fail flags bytes e
  lower_value_fails flags bytes lower behind e (no_lower infinite is all) fits h =
      absurd (no_err _ e (ap (read_bound read) (sym is) ∙ h))
  lower_value_fails flags bytes lower behind e (lower_piece p infinite few whole is) fits h =
      let b = subst (λ (x : Bound (List ℕ)). IsBytesBound x) is fits in
      lower_fails p behind infinite few whole
      (bound_fails (has flags lower_included) p e (bytes_of (has flags lower_included) p b) (ap (read_bound read) (sym is) ∙ h))

  upper_value_fails : (flags : ℕ) (bytes : List ℕ) (upper : Bound (List ℕ)) (e : E) → HasUpper flags bytes upper → IsBytesBound upper → read_bound read upper ≡ Err e → FailsUpper name Fail flags bytes e
  upper_value_fails flags bytes upper e (no_upper infinite is) fits h =
      absurd (no_err _ e (ap (read_bound read) (sym is) ∙ h))
  upper_value_fails flags bytes upper e (upper_piece word p infinite four whole is) fits h =
      let b = subst (λ (x : Bound (List ℕ)). IsBytesBound x) is fits in
      upper_fails word p infinite four whole
      (bound_fails (has flags upper_included) p e (bytes_of (has flags upper_included) p b) (ap (read_bound read) (sym is) ∙ h))

  -- ---- the range

  module _ (default : A) where
    parts_again : (bytes : List ℕ) (parts : Option (Bounds (List ℕ))) (v : Bounds A) → AreRangeParts bytes parts → SpellParts Spell default parts v → read_range_by name read default bytes ≡ Ok v
    unfolding read_range_by
    parts_again bytes parts v (no_bounds flags rest whole none is) s =
        let v_is : v ≡ no_value default = subst (λ (x : Option (Bounds (List ℕ))). SpellParts Spell default x v) is s in
        ap (read_range_by name read default) whole ∙ rw none (ap Ok (sym v_is))
    parts_again bytes parts v (two_bounds flags rest behind lower upper whole some l u is) s =
        let t = subst (λ (x : Option (Bounds (List ℕ))). SpellParts Spell default x v) is s in
        ap (read_range_by name read default) whole ∙
        rw (some, lower_again flags rest lower behind l, bound_again lower v.0 t.0, upper_again flags behind upper u, bound_again upper v.1 t.1) refl

    range_again : (bytes : List ℕ) (v : Bounds A) → IsRange Spell default bytes v → read_range_by name read default bytes ≡ Ok v
    range_again bytes v s = parts_again bytes s.parts v s.are s.spelled

    abbrev then_upper : ℕ → List ℕ → Bound A → Result (Bounds A) E
    then_upper flags rest lower = named name (upper_at flags rest) >>= λ u. read_bound read u >>= λ upper. Ok (lower, upper)

    abbrev then_lower : ℕ → Bound (List ℕ) × List ℕ → Result (Bounds A) E
    then_lower flags l = read_bound read l.0 >>= λ lower. then_upper flags l.1 lower

    bounds_spelled : (flags : ℕ) (rest : List ℕ) (v : Bounds A) → IsBytes rest → has flags empty ≡ false → bounds_behind name read flags rest ≡ Ok v → IsRange Spell default (flags ∷ rest) v
    bounds_spelled flags rest v fits some h =
        let a = bind_ok (named name (lower_at flags rest)) (then_lower flags) v h in
        let l = lower_takes flags rest a.0 fits (named_ok name (lower_at flags rest) a.0 a.1) in
        let b = bind_ok (read_bound read a.0.0) (then_upper flags a.0.1) v a.2 in
        let c = bind_ok (named name (upper_at flags a.0.1)) (λ u. read_bound read u >>= λ upper. Ok (b.0, upper)) v b.2 in
        let u = upper_takes flags a.0.1 c.0 l.rest (named_ok name (upper_at flags a.0.1) c.0 c.1) in
        let d = bind_ok (read_bound read c.0) (λ upper. Ok (b.0, upper)) v c.2 in
        subst (λ (x : Bounds A). IsRange Spell default (flags ∷ rest) x) (ok_is {E = E} (b.0, d.0) v d.2)
        (record {
          parts = Some (a.0.0, c.0);
          are = two_bounds flags rest a.0.1 a.0.0 c.0 refl some l.has_lower u.has_upper refl;
          spelled = (bound_spelled a.0.0 b.0 l.piece b.1, bound_spelled c.0 d.0 u.piece d.1);
        })

    range_spelled : (bytes : List ℕ) (v : Bounds A) → IsBytes bytes → read_range_by name read default bytes ≡ Ok v → IsRange Spell default bytes v
    unfolding read_range_by
    range_spelled [] v fits h = absurd cc
    range_spelled (flags ∷ rest) v fits h = cases (has flags empty) refl h
      where
        cases : (b : Bool) → has flags empty ≡ b → cond {A = Result (Bounds A) E} b (Ok (no_value default)) (bounds_behind name read flags rest) ≡ Ok v → IsRange Spell default (flags ∷ rest) v
        cases true b k = record { parts = None; are = no_bounds flags rest refl b refl; spelled = sym (ok_is {E = E} (no_value default) v k) }
        cases false b k = bounds_spelled flags rest v (bytes_dropped 1 (flags ∷ rest) fits) b k

    range_refused : (bytes : List ℕ) (e : E) → FailsRange name Spell Fail bytes e → read_range_by name read default bytes ≡ Err e
    unfolding read_range_by
    range_refused bytes e (no_flags none is) = ap (read_range_by name read default) none ∙ ap Err (sym is)
    range_refused bytes e (fails_at_lower flags rest whole some (no_lower_piece error infinite h is)) =
        ap (read_range_by name read default) whole ∙ rw (some, no_lower_again flags rest error infinite h) (ap Err (sym is))
    range_refused bytes e (fails_at_lower flags rest whole some (lower_fails p behind infinite few at f)) =
        ap (read_range_by name read default) whole ∙
        rw (some, lower_again flags rest (bound_at (has flags lower_included) p) behind (lower_piece p infinite few at refl), bound_refused (has flags lower_included) p e f) refl
    range_refused bytes e (fails_at_upper flags rest behind lower value whole some l s (no_upper_piece infinite few is)) =
        ap (read_range_by name read default) whole ∙
        rw (some, lower_again flags rest lower behind l, bound_again lower value s, no_upper_again flags behind infinite few) (ap Err (sym is))
    range_refused bytes e (fails_at_upper flags rest behind lower value whole some l s (upper_fails word p infinite four at f)) =
        ap (read_range_by name read default) whole ∙
        rw (some, lower_again flags rest lower behind l, bound_again lower value s, upper_again flags behind (bound_at (has flags upper_included) p) (upper_piece word p infinite four at refl), bound_refused (has flags upper_included) p e f) refl

    bounds_fail : (flags : ℕ) (rest : List ℕ) (e : E) → IsBytes rest → has flags empty ≡ false → bounds_behind name read flags rest ≡ Err e → FailsRange name Spell Fail (flags ∷ rest) e
    bounds_fail flags rest e fits some h = elim (bind_err (named name (lower_at flags rest)) (then_lower flags) e h) [
      | inl none ↦
          let d = named_err name (lower_at flags rest) e none in
          let n = lower_is_none flags rest d.0 fits d.1 in
          fails_at_lower flags rest refl some (no_lower_piece n.1 n.0 n.2 (d.2 ∙ ap name n.3))
      | inr a ↦
          let l = lower_takes flags rest a.0 fits (named_ok name (lower_at flags rest) a.0 a.1) in
          elim (bind_err (read_bound read a.0.0) (then_upper flags a.0.1) e a.2) [
            | inl broken ↦ fails_at_lower flags rest refl some (lower_value_fails flags rest a.0.0 a.0.1 e l.has_lower l.piece broken)
            | inr b ↦
                let s = bound_spelled a.0.0 b.0 l.piece b.1 in
                elim (bind_err (named name (upper_at flags a.0.1)) (λ u. read_bound read u >>= λ upper. Ok (b.0, upper)) e b.2) [
                  | inl none ↦
                      let d = named_err name (upper_at flags a.0.1) e none in
                      let n = upper_is_none flags a.0.1 d.0 d.1 in
                      fails_at_upper flags rest a.0.1 a.0.0 b.0 refl some l.has_lower s (no_upper_piece n.0 n.1 (d.2 ∙ ap name n.2))
                  | inr c ↦
                      let u = upper_takes flags a.0.1 c.0 l.rest (named_ok name (upper_at flags a.0.1) c.0 c.1) in
                      elim (bind_err (read_bound read c.0) (λ upper. Ok (b.0, upper)) e c.2) [
                        | inl broken ↦ fails_at_upper flags rest a.0.1 a.0.0 b.0 refl some l.has_lower s (upper_value_fails flags a.0.1 c.0 e u.has_upper u.piece broken)
                        | inr d ↦ absurd (no_err _ e d.2)
                      ]
                ]
          ]
    ]

    range_fails : (bytes : List ℕ) (e : E) → IsBytes bytes → read_range_by name read default bytes ≡ Err e → FailsRange name Spell Fail bytes e
    unfolding read_range_by
    range_fails [] e fits h = no_flags refl (sym (err_is {A = Bounds A} (name ShortBuffer) e h))
    range_fails (flags ∷ rest) e fits h = cases (has flags empty) refl h
      where
        cases : (b : Bool) → has flags empty ≡ b → cond {A = Result (Bounds A) E} b (Ok (no_value default)) (bounds_behind name read flags rest) ≡ Err e → FailsRange name Spell Fail (flags ∷ rest) e
        cases true b k = absurd cc
        cases false b k = bounds_fail flags rest e (bytes_dropped 1 (flags ∷ rest) fits) b k

    -- A range is read exactly where it is one, and refused with exactly its first fault.
    pub range_exact_by : IsExact IsBytes (IsRange Spell default) (FailsRange name Spell Fail) (read_range_by name read default)
    range_exact_by = record { again = range_again; spelled = range_spelled; refused = range_refused; fails = range_fails }

-- the same, of values and breaks
pub range_exact : {A : Type 0} (Spell : Cell → A → Type 0) (Broken : Break → Cell → Type 0) (read : Cell → Result A Break) (default : A)
    → IsExact IsBytesCell Spell (λ cell kind. Broken kind cell) read → IsExact IsBytes (IsRange Spell default) (λ bytes kind. BreaksRange Spell Broken kind bytes) (read_range read default)
range_exact Spell Broken read default exact = range_exact_by kind_named Spell (λ cell kind. Broken kind cell) read exact default
