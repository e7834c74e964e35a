-- A piece is a record of one list of components at most. One that is a record does not fail as one, if no cell both
-- spells a member and fails as that.
use Rattle.std.proofs.Common.{◌≡◌, ℕ, ◌+◌, ◌<◌, ◌^◌, List, [], ◌∷◌, ◌++◌, length, Option, Some, refl, sym, ap, subst, ◌∙◌, length-append, arith}
use Rattle.std.specs.Int.{w32, to_be_bytes}
use Rattle.pgw_wire.specs.Cell.{Cell}
use Rattle.pgw_wire.specs.declared.sql_error.SqlError.{SqlError}
use Rattle.pgw_nested.specs.Reading.{word_at}
use Rattle.pgw_nested.proofs.Exact.{ok_is, never_both}
use Rattle.pgw_nested.proofs.Cutting.{word_again}
use Rattle.pgw_record.specs.Record.{Component, IsComponent, AreComponents, component_bytes, components_bytes, AreRecordComponents, SpellsMember, SpellsNone, HasNoComponent, FailsMember, no_component, cell_fails, fails_behind, FailsNone, no_count, other_count, FailsRecord, fails_in_front, fails_at_member}
use Rattle.pgw_record.specs.Members.{AreMembers, AreRecordMembers}
use Rattle.pgw_record.specs.Reading.{component_at}
use Rattle.pgw_record.proofs.RecordFields.{component_again, no_component_again}

-- Bytes begin with one component at most, and not with one and with none.
pub one_component : (c d : Component) (x y : List ℕ) → IsComponent c → IsComponent d → component_bytes c ++ x ≡ component_bytes d ++ y → (c ≡ d) × (x ≡ y)
one_component c d x y f g e =
    let same = ok_is {E = SqlError} (c, x) (d, y) (sym (component_again c x f) ∙ ap component_at e ∙ component_again d y g) in
    (ap (λ (p : Component × List ℕ). p.0) same, ap (λ (p : Component × List ℕ). p.1) same)

pub component_or_not : (c : Component) (x behind : List ℕ) (error : SqlError) → IsComponent c → component_bytes c ++ x ≡ behind → HasNoComponent behind error → ⊥
component_or_not c x behind error f is h =
    never_both (component_at behind) (c, x) error (ap component_at (sym is) ∙ component_again c x f) (no_component_again behind error h)

-- They begin with one number.
some_is : {A : Type 0} (x y : A) → (let one : A → Option A = λ a. Some a in one x ≡ one y) → x ≡ y
some_is x y e = cc

one_word : (m n : ℕ) (x y : List ℕ) → m < 2 ^ 32 → n < 2 ^ 32 → to_be_bytes w32 m ++ x ≡ to_be_bytes w32 n ++ y → (m ≡ n) × (x ≡ y)
one_word m n x y f g e =
    let same = some_is (m, x) (n, y) (sym (word_again m x f) ∙ ap word_at e ∙ word_again n y g) in
    (ap (λ (p : ℕ × List ℕ). p.0) same, ap (λ (p : ℕ × List ℕ). p.1) same)

same_components : (cs ds : List Component) → length cs ≡ length ds → AreComponents cs → AreComponents ds → components_bytes cs ≡ components_bytes ds → cs ≡ ds
same_components [] [] n f g e = refl
same_components [] (d ∷ ds) n f g e = absurd (omega (arith, n))
same_components (c ∷ cs) [] n f g e = absurd (omega (arith, n))
same_components (c ∷ cs) (d ∷ ds) n f g e =
    let one = one_component c d (components_bytes cs) (components_bytes ds) f.0 g.0 e in
    let others = same_components cs ds (omega (arith, n)) f.1 g.1 one.1 in
    ap (λ (z : Component). z ∷ cs) one.0 ∙ ap (λ (zs : List Component). d ∷ zs) others

few_fit : (n : ℕ) → n < 2147483648 → n < 2 ^ 32
few_fit n h = omega (arith, h)

pub one_list_of_components : (bytes : List ℕ) (cs ds : List Component) → AreRecordComponents bytes cs → AreRecordComponents bytes ds → cs ≡ ds
one_list_of_components bytes cs ds a b =
    let same = one_word (length cs) (length ds) (components_bytes cs) (components_bytes ds) (few_fit _ a.few) (few_fit _ b.few) (sym a.is ∙ b.is) in
    same_components cs ds same.0 a.each b.each same.1

-- ---- members

pub none_excluded : {E : Type 0} (name : SqlError → E) (bytes : List ℕ) (v : Unit {0}) (e : E) → AreMembers {A = Unit {0}} 0 (λ _. SpellsNone) bytes v → FailsNone name bytes e → ⊥
none_excluded name bytes v e s h = none s.components s.spelled s.is
  where
    none : (cs : List Component) → SpellsNone cs → bytes ≡ components_bytes cs → ⊥
    none [] t is = h.0 is
    none (c ∷ cs) t is = t

module _ {A B E : Type 0} (name : SqlError → E) (Spell : Cell → A → Type 0) (Fail : Cell → E → Type 0) (excluded : (c : Cell) (v : A) (e : E) → Spell c v → Fail c e → ⊥)
    (count : ℕ) (Others : B → List Component → Type 0) (FailOthers : List ℕ → E → Type 0) (others_excluded : (bytes : List ℕ) (v : B) (e : E) → AreMembers count Others bytes v → FailOthers bytes e → ⊥) where
  from : (bytes : List ℕ) (v : A × B) (e : E) (cs : List Component) → length cs ≡ 1 + count → AreComponents cs → bytes ≡ components_bytes cs → SpellsMember Spell v.0 (Others v.1) cs → FailsMember name Spell Fail FailOthers bytes e → ⊥
  from bytes v e [] many each is s f = s
  from bytes v e (c ∷ cs) many each is s (no_component error h told) = component_or_not c (components_bytes cs) bytes error each.0 (sym is) h
  from bytes v e (c ∷ cs) many each is s (cell_fails d behind whole component f) =
      let one = one_component c d (components_bytes cs) behind each.0 component (sym is ∙ whole) in
      excluded d.cell v.0 e (subst (λ (z : Component). Spell z.cell v.0) one.0 s.0) f
  from bytes v e (c ∷ cs) many each is s (fails_behind d behind w whole component t f) =
      let one = one_component c d (components_bytes cs) behind each.0 component (sym is ∙ whole) in
      others_excluded behind v.1 e (record { components = cs; many = omega (arith, many); each = each.1; is = sym one.1; spelled = s.1 }) f

  pub member_excluded : (bytes : List ℕ) (v : A × B) (e : E) → AreMembers {A = A × B} (1 + count) (λ x. SpellsMember Spell x.0 (Others x.1)) bytes v → FailsMember name Spell Fail FailOthers bytes e → ⊥
  member_excluded bytes v e s f = from bytes v e s.components s.many s.each s.is s.spelled f

-- ---- a record

module _ {A E : Type 0} (name : SqlError → E) (count : ℕ) (Spelled : A → List Component → Type 0) (many : (v : A) (cs : List Component) → Spelled v cs → length cs ≡ count)
    (FailMembers : List ℕ → E → Type 0) (members_excluded : (bytes : List ℕ) (v : A) (e : E) → AreMembers count Spelled bytes v → FailMembers bytes e → ⊥) where
  pub no_record : (bytes : List ℕ) (v : A) (e : E) → AreRecordMembers Spelled bytes v → FailsRecord name count FailMembers bytes e → ⊥
  no_record bytes v e s (fails_in_front error (no_count short _) _) =
      omega (arith, short, ap length s.are.is, length-append (to_be_bytes w32 (length s.components)) (components_bytes s.components))
  no_record bytes v e s (fails_in_front error (other_count n rest whole fits other _) _) =
      let one = one_word (length s.components) n (components_bytes s.components) rest (few_fit _ s.are.few) fits (sym s.are.is ∙ whole) in
      other (sym one.0 ∙ many v s.components s.spelled)
  no_record bytes v e s (fails_at_member rest whole f) =
      let same = many v s.components s.spelled in
      let fits : count < 2 ^ 32 = omega (arith, same, s.are.few) in
      let one = one_word (length s.components) count (components_bytes s.components) rest (few_fit _ s.are.few) fits (sym s.are.is ∙ whole) in
      members_excluded rest v e (record { components = s.components; many = same; each = s.are.each; is = sym one.1; spelled = s.spelled }) f
