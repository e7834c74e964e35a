-- A record that is read member by member.
use Rattle.std.proofs.Common.{◌≡◌, ◌<◌, ◌+◌, ◌||◌, ℕ, Bool, true, false, IsTrue, List, ◌∷◌, ◌++◌, Option, Some, Result, Ok, Err, refl, sym, ap, subst, ◌∙◌, arith}
use Rattle.std.specs.Int.{w32, to_be_bytes}
use Rattle.pgw_wire.specs.Cell.{Cell}
use Rattle.pgw_wire.specs.declared.sql_error.SqlError.{SqlError}
use Rattle.pgw_wire.specs.declared.value.PgValue.{PgValue}
use Rattle.pgw_meta.specs.Reading.{Answers, IsRefused, ReadsPiece, RefusesPiece, cell_of_value}
use Rattle.pgw_meta.proofs.Reading.{refused, refused_too}
use Rattle.pgw_record.specs.Record.{Component, component_bytes, components_bytes, HasNoComponent, SpellsMember, no_component, cell_fails, fails_behind, RefusesMember, fails_in_front, fails_at_member, BeginsNoRecord, RefusesRecord}
use Rattle.pgw_record.specs.Pieces.{Coming, BeginsRecord, IsNext}
use Rattle.pgw_record.specs.Members.{AreMembers, AreRecordMembers}
use Rattle.pgw_record.proofs.Refusals.{no_component_refusal, no_record_refusal}

or_left : (a b : Bool) → IsTrue a → IsTrue (a || b)
or_left true b h = h
or_left false b h = absurd (cc)

or_right : (a b : Bool) → IsTrue b → IsTrue (a || b)
or_right true b h = refl
or_right false b h = h

module _ {A B : Type 0} (Spell : Cell → A → Type 0) (Refuse : Cell → SqlError → Type 0) (Others : B → List Component → Type 0) (RefuseOthers : List ℕ → SqlError → Type 0) (memory others_memory : Bool) (bytes : List ℕ) where
  abbrev Refused : SqlError → Type 0
  Refused e = IsRefused (RefusesMember Spell Refuse RefuseOthers bytes) (memory || others_memory) e

  pub not_given : (e : SqlError) → HasNoComponent bytes e → Refused e
  not_given e h = refused (RefusesMember Spell Refuse RefuseOthers bytes) (memory || others_memory) e (no_component e h refl) (no_component_refusal bytes e h)

  pub head_refused : (c : Component) (before now : Coming) (e : SqlError) → before.rest ≡ bytes → IsNext c before now → IsRefused (Refuse c.cell) memory e → Refused e
  head_refused c before now e same n h =
      refused_too (Refuse c.cell) (RefusesMember Spell Refuse RefuseOthers bytes) memory (memory || others_memory) e
      (λ r. cell_fails c now.rest (sym same ∙ n.is) n.component r) (or_left memory others_memory) h

  pub tail_refused : (c : Component) (before now : Coming) (v : A) (e : SqlError) → before.rest ≡ bytes → IsNext c before now → Spell c.cell v → IsRefused (RefuseOthers now.rest) others_memory e → Refused e
  tail_refused c before now v e same n s h =
      refused_too (RefuseOthers now.rest) (RefusesMember Spell Refuse RefuseOthers bytes) others_memory (memory || others_memory) e
      (λ r. fails_behind c now.rest v (sym same ∙ n.is) n.component s r) (or_right memory others_memory) h

  pub all_read : (count : ℕ) (c : Component) (before now : Coming) (v : A) (vs : B) → before.rest ≡ bytes → IsNext c before now → Spell c.cell v → AreMembers count Others now.rest vs
      → AreMembers {A = A × B} (1 + count) (λ x. SpellsMember Spell x.0 (Others x.1)) bytes (v, vs)
  all_read count c before now v vs same n s t = record {
    components = c ∷ t.components;
    many = omega (arith, t.many);
    each = (n.component, t.each);
    is = sym same ∙ n.is ∙ ap (λ (x : List ℕ). component_bytes c ++ x) t.is;
    spelled = (s, t.spelled);
  }

module _ {A : Type 0} (Spelled : A → List Component → Type 0) (Refuse : List ℕ → SqlError → Type 0) (memory : Bool) (count : ℕ) (bytes : List ℕ) where
  pub no_record : (e : SqlError) → BeginsNoRecord bytes count e → IsRefused (RefusesRecord count Refuse bytes) memory e
  no_record e h = refused (RefusesRecord count Refuse bytes) memory e (fails_in_front e h refl) (no_record_refusal bytes count e h)

  pub record_read : (coming : Coming) → count < 2147483648 → BeginsRecord bytes count coming → (r : Result A SqlError) → Answers (AreMembers count Spelled) Refuse memory coming.rest r
      → Answers (AreRecordMembers Spelled) (RefusesRecord count Refuse) memory bytes r
  record_read coming few b (Ok v) h = record {
    components = h.components;
    are = record {
      few = omega (arith, h.many, few);
      each = h.each;
      is = b.is ∙ ap (λ (x : List ℕ). to_be_bytes w32 count ++ x) h.is ∙ ap (λ (n : ℕ). to_be_bytes w32 n ++ components_bytes h.components) (sym h.many);
    };
    spelled = h.spelled;
  }
  record_read coming few b (Err e) h =
      refused_too (Refuse coming.rest) (RefusesRecord count Refuse bytes) memory memory e (λ r. fails_at_member coming.rest b.is r) (λ m. m) h

-- what is said of the bytes of a value, of the field that it is of
module _ {A : Type 0} (Reads : List ℕ → A → Type 0) (Refuse : List ℕ → SqlError → Type 0) (memory : Bool) where
  abbrev Field : Cell → Result A SqlError → Type 0
  Field cell r = Answers (ReadsPiece Reads) (RefusesPiece Refuse) memory cell r

  piece_read : (bytes : List ℕ) (r : Result A SqlError) → Answers Reads Refuse memory bytes r → Field (Some bytes) r
  piece_read bytes (Ok v) h = h
  piece_read bytes (Err e) h = h

  pub value_read : (field : Option PgValue) (value : PgValue) (bytes : List ℕ) (r : Result A SqlError) → field ≡ Some value → bytes ≡ value.raw_value.now → Answers Reads Refuse memory bytes r → Field (cell_of_value field) r
  value_read field value bytes r is same h =
      subst (λ (f : Option PgValue). Field (cell_of_value f) r) (sym is) (subst (λ (x : List ℕ). Field (Some x) r) same (piece_read bytes r h))
