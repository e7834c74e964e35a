-- The bytes of a record that is written member by member.
use Rattle.std.proofs.Common.{◌≡◌, inl, inr, ℕ, List, [], ◌∷◌, ◌++◌, Some, Result, Ok, Err, refl, sym, ap, subst, ◌∙◌, append_assoc, append-nil, arith}
use Rattle.std.specs.Int.{w32, to_be_bytes}
use Rattle.pgw_wire.specs.declared.is_null.IsNull.TheVariants.{No}
use Rattle.pgw_meta.specs.Known.{Known, Knowledge, Oids}
use Rattle.pgw_meta.specs.Naming.{Naming}
use Rattle.pgw_meta.specs.Writing.{Writes, IsWriteRefused}
use Rattle.pgw_meta.specs.declared.serialize.WriteError.{WriteError}
use Rattle.pgw_meta.specs.declared.serialize.WriteError.TheVariants.{NoMemory}
use Rattle.pgw_nested.specs.Written.{IsRefusedWith}
use Rattle.pgw_nested.proofs.Writings.{refused_for}
use Rattle.pgw_record.specs.Record.{component_bytes, components_bytes}
use Rattle.pgw_record.specs.Written.{RefusesComponent, WrittenMembers, no_member, member, WritesRecord, WroteCell, WroteComponent, WroteMembers}

module _ {A : Type 0} (naming : Naming) (writes : Writes A) (k : Known) (v : A) where
  -- A cell that was written with the oid of the type is the member's component.
  pub component_wrote : (oids : Oids) (bytes : List ℕ) (r : Result (Unit {0}) WriteError) → naming.oids k ≡ Ok oids → WroteCell (writes k) oids.oid v bytes r → WroteComponent naming writes k v bytes r
  component_wrote oids bytes (Ok u) named h = (record { oid = oids.oid; cell = h.0 }, (oids, named, refl, h.1), h.2)
  component_wrote oids bytes (Err e) named h =
      refused_for (IsRefusedWith (writes k) v) (RefusesComponent naming writes k v) e (λ r. inr (oids, named, r)) h

  module _ (others : WrittenMembers) where
    -- The member in front is refused.
    pub first_refused : (bytes : List ℕ) (e : WriteError) → WroteComponent naming writes k v bytes (Err e) → WroteMembers (member naming writes k v others) bytes (Err e)
    first_refused bytes e h =
        refused_for (RefusesComponent naming writes k v) (λ d. (member naming writes k v others).refused d) e (λ r. inl r) h

    -- It was written, and then the others.
    pub members_wrote : (a b : List ℕ) (u : Unit {0}) (r : Result (Unit {0}) WriteError) → WroteComponent naming writes k v a (Ok u) → WroteMembers others b r → WroteMembers (member naming writes k v others) (a ++ b) r
    members_wrote a b u (Ok w) f h =
        (f.0 ∷ h.0, omega (arith, h.1), (f.1, h.2), ap (λ (x : List ℕ). x ++ b) f.2 ∙ ap (λ (x : List ℕ). component_bytes f.0 ++ x) h.3)
    members_wrote a b u (Err e) f h =
        refused_for (λ d. others.refused d) (λ d. (member naming writes k v others).refused d) e (λ r. inr (f.0, f.1, r)) h

-- bytes behind others, and what is said of them under what is known
abbrev pub Wrote : List ℕ → List ℕ → Knowledge → (Known → List ℕ → Type 0) → Type 0
Wrote old new told Is = (bytes : List ℕ) × (new ≡ old ++ bytes) × ((k : Known) → told.known ≡ Some k → Is k bytes)

-- The member in front was written, and then the others.
pub component_then : {A : Type 0} (naming : Naming) (writes : Writes A) (v : A) (others : Known → WrittenMembers) (old between new : List ℕ) (told mid : Knowledge) (u : Unit {0}) (r : Result (Unit {0}) WriteError)
    → Wrote old between told (λ k bytes. WroteComponent naming writes k v bytes (Ok u)) → mid ≡ told
    → Wrote between new mid (λ k bytes. WroteMembers (others k) bytes r) → Wrote old new told (λ k bytes. WroteMembers (member naming writes k v (others k)) bytes r)
component_then naming writes v others old between new told mid u r a same b = (
  a.0 ++ b.0,
  b.1 ∙ ap (λ (x : List ℕ). x ++ b.0) a.1 ∙ append_assoc old a.0 b.0,
  λ k t. members_wrote naming writes k v (others k) a.0 b.0 u r (a.2 k t) (b.2 k (ap (λ (s : Knowledge). s.known) same ∙ t)),
)

-- It was written, and there is no other.
pub component_alone : {A : Type 0} (naming : Naming) (writes : Writes A) (v : A) (old new : List ℕ) (told : Knowledge) (u w : Unit {0})
    → Wrote old new told (λ k bytes. WroteComponent naming writes k v bytes (Ok u)) → Wrote old new told (λ k bytes. WroteMembers (member naming writes k v no_member) bytes (Ok w))
component_alone naming writes v old new told u w a =
    (a.0, a.1, λ k t. let c = a.2 k t in (c.0 ∷ [], refl, (c.1, tt), c.2 ∙ sym (append-nil (component_bytes c.0))))

-- Members that were written behind their count are a record.
pub record_wrote : (members : WrittenMembers) (count : ℕ) (bytes : List ℕ) (u : Unit {0}) → count ≡ members.count → WroteMembers members bytes (Ok u) → WritesRecord members (Ok No) (to_be_bytes w32 count ++ bytes)
record_wrote members count bytes u same h =
    (h.0, h.2, ap (λ (x : List ℕ). to_be_bytes w32 count ++ x) h.3 ∙ ap (λ (n : ℕ). to_be_bytes w32 n ++ components_bytes h.0) (same ∙ sym h.1))

-- Want of memory says nothing of the value.
pub not_told : (P : WriteError → Type 0) (e : WriteError) → e ≡ NoMemory → IsWriteRefused P e
not_told P e is = subst (λ (x : WriteError). IsWriteRefused P x) (sym is) tt
