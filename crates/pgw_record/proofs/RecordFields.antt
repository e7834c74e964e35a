-- The fields of records are read as their definitions say, where the cells of their components are.
use Rattle.std.proofs.Common.{◌≡◌, ◌⊎◌, inl, inr, ℕ, ◌+◌, ◌<◌, ◌^◌, Bool, true, false, cond, eqb, List, [], ◌∷◌, ◌++◌, length, Option, None, Some, Result, Ok, Err, refl, sym, ap, subst, ◌∙◌, append_assoc, arith}
use Rattle.std.specs.Int.{w32, to_be_bytes, cast_signed}
use Rattle.std.proofs.lemmas.Bool.{lt-ltb, eq-eqb, eqb-true, eqb-false, ne_eqb}
use Rattle.pgw_wire.specs.Cell.{Cell, frame}
use Rattle.pgw_wire.specs.declared.kind.Break.{Break}
use Rattle.pgw_wire.specs.declared.sql_error.SqlError.{SqlError}
use Rattle.pgw_wire.specs.declared.sql_error.SqlError.TheVariants.{ShortBuffer, TupleCount, ZeroOid}
use Rattle.pgw_nested.specs.Array.{kind_named}
use Rattle.pgw_nested.specs.Reading.{◌>>=◌, named, word_at, cell_at}
use Rattle.pgw_nested.proofs.Exact.{IsExact, ok_is, err_is}
use Rattle.pgw_nested.proofs.Steps.{bind_ok, bind_err}
use Rattle.pgw_nested.proofs.Cutting.{IsBytes, IsBytesCell, TakesWord, word_again, word_takes, word_none, cell_again, no_frame_again, cell_takes, no_frame_is}
use Rattle.pgw_record.specs.Record.{Component, IsComponent, AreComponents, component_bytes, components_bytes, SpellsMember, SpellsNone, HasNoComponent, no_oid, no_cell, FailsMember, no_component, cell_fails, fails_behind, FailsNone, no_count, other_count, FailsRecord, fails_in_front, fails_at_member, BreaksRecord}
use Rattle.pgw_record.specs.Members.{AreMembers, AreRecordMembers}
use Rattle.pgw_record.specs.Reading.{behind_oid, component_at, read_member, read_none, behind_count, read_record_by, read_record}

-- ---- a component in front

abbrev Cut : Type 0
Cut = Result (Component × List ℕ) SqlError

pub component_again : (c : Component) (rest : List ℕ) → IsComponent c → component_at (component_bytes c ++ rest) ≡ Ok (c, rest)
unfolding component_at
component_again c rest h =
    ap (λ (x : List ℕ). behind_oid (word_at x)) (append_assoc (to_be_bytes w32 c.oid) (frame c.cell) rest) ∙
    rw (word_again c.oid (frame c.cell ++ rest) h.1, ne_eqb c.oid 0 h.0, cell_again true c.cell rest h.2) refl

pub no_component_again : (bytes : List ℕ) (error : SqlError) → HasNoComponent bytes error → component_at bytes ≡ Err error
unfolding component_at
no_component_again bytes error (no_oid (inl h)) = rw (lt-ltb _ _ h.0) (ap Err (sym h.1))
no_component_again bytes error (no_oid (inr h)) = ap (λ (x : List ℕ). behind_oid (word_at x)) h.1 ∙ rw (word_again 0 h.0 (omega arith)) (ap Err (sym h.2))
no_component_again bytes error (no_cell oid rest is some fits h) =
    ap (λ (x : List ℕ). behind_oid (word_at x)) is ∙ rw (word_again oid rest fits, ne_eqb oid 0 some, no_frame_again true rest error h) refl

record TakesComponent (bytes : List ℕ) (c : Component × List ℕ) : Type 0 where
  pub is : bytes ≡ component_bytes c.0 ++ c.1
  pub component : IsComponent c.0
  pub cell : IsBytesCell c.0.cell
  pub rest : IsBytes c.1

abbrev with_oid : ℕ → Result (Cell × List ℕ) SqlError → Cut
with_oid oid r = r >>= λ x. Ok (record { oid = oid; cell = x.0 }, x.1)

component_takes : (bytes : List ℕ) (c : Component × List ℕ) → IsBytes bytes → component_at bytes ≡ Ok c → TakesComponent bytes c
unfolding component_at
component_takes bytes c fits e = at (word_at bytes) refl e
  where
    some_oid : (b : Bool) (w : ℕ × List ℕ) → TakesWord bytes w → eqb w.0 0 ≡ b → cond {A = Cut} b (Err ZeroOid) (with_oid w.0 (cell_at true w.1)) ≡ Ok c → TakesComponent bytes c
    some_oid true w t b h = absurd cc
    some_oid false w t b h =
        let s = bind_ok (cell_at true w.1) (λ x. Ok (record { oid = w.0; cell = x.0 }, x.1)) c h in
        let k = cell_takes true w.1 s.0 t.rest s.1 in
        let whole : bytes ≡ component_bytes (record { oid = w.0; cell = s.0.0 }) ++ s.0.1 = t.is ∙ ap (λ (x : List ℕ). to_be_bytes w32 w.0 ++ x) k.is ∙ sym (append_assoc (to_be_bytes w32 w.0) (frame s.0.0) s.0.1) in
        subst (λ (x : Component × List ℕ). TakesComponent bytes x) (ok_is {E = SqlError} (record { oid = w.0; cell = s.0.0 }, s.0.1) c s.2)
        (record { is = whole; component = (eqb-false _ _ b, t.fits, k.framed); cell = k.cell; rest = k.rest })

    at : (o : Option (ℕ × List ℕ)) → word_at bytes ≡ o → behind_oid o ≡ Ok c → TakesComponent bytes c
    at None o h = absurd cc
    at (Some w) o h = some_oid (eqb w.0 0) w (word_takes bytes w fits o) refl h

no_component_is : (bytes : List ℕ) (error : SqlError) → IsBytes bytes → component_at bytes ≡ Err error → HasNoComponent bytes error
unfolding component_at
no_component_is bytes error fits e = at (word_at bytes) refl e
  where
    cell_or : (w : ℕ × List ℕ) → TakesWord bytes w → (eqb w.0 0 ≡ false) → ((cell_at true w.1 ≡ Err error) ⊎ ((x : Cell × List ℕ) × (cell_at true w.1 ≡ Ok x) × (◌≡◌ {A = Cut} (Ok (record { oid = w.0; cell = x.0 }, x.1)) (Err error)))) → HasNoComponent bytes error
    cell_or w t b (inl h) = no_cell w.0 w.1 t.is (eqb-false _ _ b) t.fits (no_frame_is true w.1 error t.rest h)
    cell_or w t b (inr h) = absurd (let never = h.2 in cc)

    some_oid : (b : Bool) (w : ℕ × List ℕ) → TakesWord bytes w → eqb w.0 0 ≡ b → cond {A = Cut} b (Err ZeroOid) (with_oid w.0 (cell_at true w.1)) ≡ Err error → HasNoComponent bytes error
    some_oid true w t b h = no_oid (inr (w.1, t.is ∙ ap (λ (n : ℕ). to_be_bytes w32 n ++ w.1) (eqb-true _ _ b), sym (err_is {A = Component × List ℕ} _ error h)))
    some_oid false w t b h = cell_or w t b (bind_err (cell_at true w.1) (λ x. Ok (record { oid = w.0; cell = x.0 }, x.1)) error h)

    at : (o : Option (ℕ × List ℕ)) → word_at bytes ≡ o → behind_oid o ≡ Err error → HasNoComponent bytes error
    at None o h = no_oid (inl (word_none bytes o, sym (err_is {A = Component × List ℕ} _ error h)))
    at (Some w) o h = some_oid (eqb w.0 0) w (word_takes bytes w fits o) refl h

-- ---- members, one after the other

-- behind the last
pub none_exact : {E : Type 0} (name : SqlError → E) → IsExact IsBytes (AreMembers {A = Unit {0}} 0 (λ _. SpellsNone)) (FailsNone name) (read_none name)
none_exact {E = E} name = record { again = again; spelled = spelled; refused = refused; fails = fails }
  where
    again : (bytes : List ℕ) (v : Unit {0}) → AreMembers {A = Unit {0}} 0 (λ _. SpellsNone) bytes v → read_none name bytes ≡ Ok v
    again bytes v s = none s.components s.spelled s.is
      where
        none : (cs : List Component) → SpellsNone cs → bytes ≡ components_bytes cs → read_none name bytes ≡ Ok v
        none [] h is = ap (read_none name) is
        none (c ∷ cs) h is = absurd h

    spelled : (bytes : List ℕ) (v : Unit {0}) → IsBytes bytes → read_none name bytes ≡ Ok v → AreMembers {A = Unit {0}} 0 (λ _. SpellsNone) bytes v
    spelled [] v fits e = record { components = []; many = refl; each = tt; is = refl; spelled = tt }
    spelled (b ∷ bs) v fits e = absurd cc

    refused : (bytes : List ℕ) (e : E) → FailsNone name bytes e → read_none name bytes ≡ Err e
    refused [] e h = absurd (h.0 refl)
    refused (b ∷ bs) e h = ap Err (sym h.1)

    fails : (bytes : List ℕ) (e : E) → IsBytes bytes → read_none name bytes ≡ Err e → FailsNone name bytes e
    fails [] e fits h = absurd cc
    fails (b ∷ bs) e fits h = ((λ none. absurd cc), sym (err_is {A = Unit {0}} _ e h))

module _ {A B E : Type 0} (name : SqlError → E) (Spell : Cell → A → Type 0) (Fail : Cell → E → Type 0) (read : Cell → Result A E) (exact : IsExact IsBytesCell Spell Fail read)
    (count : ℕ) (Others : B → List Component → Type 0) (FailOthers : List ℕ → E → Type 0) (read_others : List ℕ → Result B E) (others : IsExact IsBytes (AreMembers count Others) FailOthers read_others) where
  abbrev Members : List ℕ → A × B → Type 0
  Members bytes v = AreMembers {A = A × B} (1 + count) (λ x. SpellsMember Spell x.0 (Others x.1)) bytes v

  abbrev read_all : List ℕ → Result (A × B) E
  read_all bytes = read_member name read read_others bytes

  again_from : (bytes : List ℕ) (v : A × B) (cs : List Component) → length cs ≡ 1 + count → AreComponents cs → bytes ≡ components_bytes cs → SpellsMember Spell v.0 (Others v.1) cs → read_all bytes ≡ Ok v
  again_from bytes v [] many each is s = absurd s
  again_from bytes v (c ∷ cs) many each is s =
      ap read_all is ∙ rw (component_again c (components_bytes cs) each.0, exact.again c.cell v.0 s.0, others.again (components_bytes cs) v.1 (record { components = cs; many = omega (arith, many); each = each.1; is = refl; spelled = s.1 })) refl

  members_refused : (bytes : List ℕ) (e : E) → FailsMember name Spell Fail FailOthers bytes e → read_all bytes ≡ Err e
  members_refused bytes e (no_component error h is) = rw (no_component_again bytes error h) (ap Err (sym is))
  members_refused bytes e (cell_fails c behind is component f) = ap read_all is ∙ rw (component_again c behind component, exact.refused c.cell e f) refl
  members_refused bytes e (fails_behind c behind v is component s f) = ap read_all is ∙ rw (component_again c behind component, exact.again c.cell v s, others.refused behind e f) refl

  abbrev Read : List ℕ → Result (A × B) E → Type 0
  Read bytes (Ok v) = Members bytes v
  Read bytes (Err e) = FailsMember name Spell Fail FailOthers bytes e

  members_read : (bytes : List ℕ) → IsBytes bytes → Read bytes (read_all bytes)
  members_read bytes fits = at (component_at bytes) refl
    where
      rest : (c : Component × List ℕ) (v : A) → TakesComponent bytes c → Spell c.0.cell v → (r : Result B E) → read_others c.1 ≡ r → Read bytes (r >>= λ vs. Ok (v, vs))
      rest c v t s (Ok vs) e =
          let m = others.spelled c.1 vs t.rest e in
          record {
            components = c.0 ∷ m.components;
            many = omega (arith, m.many);
            each = (t.component, m.each);
            is = t.is ∙ ap (λ (x : List ℕ). component_bytes c.0 ++ x) m.is;
            spelled = (s, m.spelled);
          }
      rest c v t s (Err d) e = fails_behind c.0 c.1 v t.is t.component s (others.fails c.1 d t.rest e)

      value : (c : Component × List ℕ) → TakesComponent bytes c → (r : Result A E) → read c.0.cell ≡ r → Read bytes (r >>= λ v. read_others c.1 >>= λ vs. Ok (v, vs))
      value c t (Ok v) e = rest c v t (exact.spelled c.0.cell v t.cell e) (read_others c.1) refl
      value c t (Err d) e = cell_fails c.0 c.1 t.is t.component (exact.fails c.0.cell d t.cell e)

      at : (r : Cut) → component_at bytes ≡ r → Read bytes (named name r >>= λ c. read c.0.cell >>= λ v. read_others c.1 >>= λ vs. Ok (v, vs))
      at (Ok c) e = value c (component_takes bytes c fits e) (read c.0.cell) refl
      at (Err d) e = no_component d (no_component_is bytes d fits e) refl

  -- Members are read exactly where the components are theirs, and refused with exactly their first fault.
  pub member_exact : IsExact IsBytes Members (FailsMember name Spell Fail FailOthers) read_all
  member_exact = record {
    again = λ bytes v s. again_from bytes v s.components s.many s.each s.is s.spelled;
    spelled = λ bytes v fits e. subst (λ (r : Result (A × B) E). Read bytes r) e (members_read bytes fits);
    refused = members_refused;
    fails = λ bytes e fits h. subst (λ (r : Result (A × B) E). Read bytes r) h (members_read bytes fits);
  }

-- ---- a record

-- Members have a component each.
pub none_many : (cs : List Component) → SpellsNone cs → length cs ≡ 0
none_many [] h = refl
none_many (c ∷ cs) h = absurd h

pub member_many : {A : Type 0} (Spell : Cell → A → Type 0) (v : A) (count : ℕ) (Others : List Component → Type 0) → ((cs : List Component) → Others cs → length cs ≡ count) → (cs : List Component) → SpellsMember Spell v Others cs
    → length cs ≡ 1 + count
member_many Spell v count Others many [] h = absurd h
member_many Spell v count Others many (c ∷ cs) h = omega (arith, many cs h.1)

module _ {A E : Type 0} (name : SqlError → E) (count : ℕ) (few : count < 2147483648) (Spelled : A → List Component → Type 0) (many : (v : A) (cs : List Component) → Spelled v cs → length cs ≡ count)
    (FailMembers : List ℕ → E → Type 0) (read : List ℕ → Result A E) (exact : IsExact IsBytes (AreMembers count Spelled) FailMembers read) where
  abbrev read_whole : List ℕ → Result A E
  read_whole bytes = read_record_by name count read bytes

  count_fits : count < 2 ^ 32
  count_fits = omega (arith, few)

  -- what stands behind the count is read
  behind : (bytes rest : List ℕ) → bytes ≡ to_be_bytes w32 count ++ rest → read_whole bytes ≡ read rest
  behind bytes rest is = ap read_whole is ∙ rw (word_again count rest count_fits, eq-eqb count count refl) refl

  record_again : (bytes : List ℕ) (v : A) → AreRecordMembers Spelled bytes v → read_whole bytes ≡ Ok v
  record_again bytes v s =
      let cs = s.components in
      let same = many v cs s.spelled in
      behind bytes (components_bytes cs) (s.are.is ∙ ap (λ (n : ℕ). to_be_bytes w32 n ++ components_bytes cs) same) ∙
      exact.again (components_bytes cs) v (record { components = cs; many = same; each = s.are.each; is = refl; spelled = s.spelled })

  record_refused : (bytes : List ℕ) (e : E) → FailsRecord name count FailMembers bytes e → read_whole bytes ≡ Err e
  record_refused bytes e (fails_in_front error (no_count short is) told) = rw (lt-ltb _ _ short) (ap Err (sym (told ∙ ap name is)))
  record_refused bytes e (fails_in_front error (other_count n rest whole fits other is) told) =
      ap read_whole whole ∙ rw (word_again n rest fits, ne_eqb n count other) (ap Err (sym (told ∙ ap name is)))
  record_refused bytes e (fails_at_member rest is f) = behind bytes rest is ∙ exact.refused rest e f

  abbrev Whole : List ℕ → Result A E → Type 0
  Whole bytes (Ok v) = AreRecordMembers Spelled bytes v
  Whole bytes (Err e) = FailsRecord name count FailMembers bytes e

  record_read : (bytes : List ℕ) → IsBytes bytes → Whole bytes (read_whole bytes)
  record_read bytes fits = at (word_at bytes) refl
    where
      members : (rest : List ℕ) → bytes ≡ to_be_bytes w32 count ++ rest → IsBytes rest → (r : Result A E) → read rest ≡ r → Whole bytes r
      members rest is given (Ok v) e =
          let m = exact.spelled rest v given e in
          record {
            components = m.components;
            are = record {
              few = omega (arith, m.many, few);
              each = m.each;
              is = is ∙ ap (λ (x : List ℕ). to_be_bytes w32 count ++ x) m.is ∙ ap (λ (n : ℕ). to_be_bytes w32 n ++ components_bytes m.components) (sym m.many);
            };
            spelled = m.spelled;
          }
      members rest is given (Err d) e = fails_at_member rest is (exact.fails rest d given e)

      counted : (b : Bool) (w : ℕ × List ℕ) → TakesWord bytes w → eqb w.0 count ≡ b → Whole bytes (cond {A = Result A E} b (read w.1) (Err (name (TupleCount (cast_signed w32 count) (cast_signed w32 w.0)))))
      counted true w t b = members w.1 (t.is ∙ ap (λ (n : ℕ). to_be_bytes w32 n ++ w.1) (eqb-true _ _ b)) t.rest (read w.1) refl
      counted false w t b = fails_in_front _ (other_count w.0 w.1 t.is t.fits (eqb-false _ _ b) refl) refl

      at : (o : Option (ℕ × List ℕ)) → word_at bytes ≡ o → Whole bytes (behind_count name count read o)
      at None o = fails_in_front ShortBuffer (no_count (word_none bytes o) refl) refl
      at (Some w) o = counted (eqb w.0 count) w (word_takes bytes w fits o) refl

  -- A record is read exactly where it is one, and refused with exactly its first fault.
  pub record_exact_by : IsExact IsBytes (AreRecordMembers Spelled) (FailsRecord name count FailMembers) (read_record_by name count read)
  record_exact_by = record {
    again = record_again;
    spelled = λ bytes v fits e. subst (λ (r : Result A E). Whole bytes r) e (record_read bytes fits);
    refused = record_refused;
    fails = λ bytes e fits h. subst (λ (r : Result A E). Whole bytes r) h (record_read bytes fits);
  }

-- the same, of values and breaks
pub record_exact : {A : Type 0} (count : ℕ) → count < 2147483648 → (Spelled : A → List Component → Type 0) → ((v : A) (cs : List Component) → Spelled v cs → length cs ≡ count) → (BreakMembers : List ℕ → Break → Type 0)
    → (read : List ℕ → Result A Break) → IsExact IsBytes (AreMembers count Spelled) BreakMembers read → IsExact IsBytes (AreRecordMembers Spelled) (BreaksRecord count BreakMembers) (read_record count read)
record_exact count few Spelled many BreakMembers read exact = record_exact_by kind_named count few Spelled many BreakMembers read exact
