-- The fields of an inet and of a cidr are read as their definition says, and refused as it breaks.
use Rattle.std.proofs.Common.{◌≡◌, ◌⊎◌, inl, inr, ℕ, ◌<◌, ◌≤◌, List, [], ◌∷◌, length, Bool, true, false, cond, eqb, leb, Option, Some, Result, Ok, Err, refl, sym, ap, ◌∙◌, subst}
use Rattle.std.proofs.lemmas.Bool.{and_parts, cases_Bool, eqb-true, leb-true, leb-false, eq-eqb, le-leb, lt-leb}
use Rattle.pgw_wire.specs.declared.kind.Break.{Break}
use Rattle.pgw_wire.specs.declared.kind.Break.TheVariants.{Family, Prefix}
use Rattle.pgw_wire.specs.declared.sql_error.SqlError.{SqlError}
use Rattle.pgw_wire.specs.declared.sql_error.SqlError.TheVariants as error
use Rattle.pgw_wire.specs.declared.sql_error.NetworkFault.TheVariants.{TooShort, WrongType, WrongLength, WrongAddressLength, WrongFamily}
use Rattle.pgw_wire.specs.Refusal.{kind_of}
use Rattle.pgw_scalar.specs.Networks.{Network, family, address_size, longest_prefix, network_bytes, IsLaidOut, IsNetwork, BreaksNetwork, is_laid_out, read_prefix, read_network}
use Rattle.pgw_scalar.specs.Refusals.{prefix_refusal, address_refusal, network_refusal}
use Rattle.pgw_scalar.proofs.Readers.{IsExact, ok_is, err_is, never_both}

-- a network of these parts
abbrev network : Bool → ℕ → List ℕ → Network
network six prefix address = record { six = six; prefix = prefix; address = address }

-- What is laid out as a network's field is read by the prefix alone.
laid_read_as : (t : ℕ) (six : Bool) (prefix : ℕ) (address : List ℕ) → length address ≡ address_size six
    → read_network t (network_bytes t (network six prefix address)) ≡ read_prefix (network six prefix address)
laid_read_as t true prefix address many = rw (eq-eqb t t refl, eq-eqb (length address) 16 many) refl
laid_read_as t false prefix address many = rw (eq-eqb t t refl, eq-eqb (length address) 4 many) refl

laid_read : (t : ℕ) (p : List ℕ) (n : Network) → IsLaidOut t p n → read_network t p ≡ read_prefix n
laid_read t p n s =
    subst (λ (q : List ℕ). read_network t q ≡ read_prefix n) (sym s.bytes) (laid_read_as t n.six n.prefix n.address s.many)

-- It is refused by the prefix alone.
laid_refused_as : (t : ℕ) (six : Bool) (prefix : ℕ) (address : List ℕ) → length address ≡ address_size six
    → network_refusal t (network_bytes t (network six prefix address)) ≡ prefix_refusal (longest_prefix six) prefix
laid_refused_as t true prefix address many = rw (eq-eqb t t refl, eq-eqb (length address) 16 many) refl
laid_refused_as t false prefix address many = rw (eq-eqb t t refl, eq-eqb (length address) 4 many) refl

pub laid_refused : (t : ℕ) (p : List ℕ) (n : Network) → IsLaidOut t p n → network_refusal t p ≡ prefix_refusal (longest_prefix n.six) n.prefix
laid_refused t p n s =
    subst (λ (q : List ℕ). network_refusal t q ≡ prefix_refusal (longest_prefix n.six) n.prefix) (sym s.bytes) (laid_refused_as t n.six n.prefix n.address s.many)

-- what comes of the test of the prefix
abbrev prefix_by : Bool → Network → Result Network Break
prefix_by b n = cond {A = Result Network Break} b (Ok n) (Err Prefix)

prefix_read : (b : Bool) (n x : Network) → leb n.prefix (longest_prefix n.six) ≡ b → prefix_by b n ≡ Ok x → (n ≡ x) × (n.prefix ≤ longest_prefix n.six)
prefix_read true n x is e = (ok_is n x e, leb-true n.prefix (longest_prefix n.six) is)
prefix_read false n x is e = absurd (never_both (prefix_by false n) x Prefix e refl)

prefix_broken : (b : Bool) (n : Network) (kind : Break) → leb n.prefix (longest_prefix n.six) ≡ b → prefix_by b n ≡ Err kind → (kind ≡ Prefix) × (longest_prefix n.six < n.prefix)
prefix_broken true n kind is e = absurd (never_both (prefix_by true n) n kind refl e)
prefix_broken false n kind is e = (sym (err_is {A = Network} Prefix kind e), leb-false n.prefix (longest_prefix n.six) is)

family_is_no_prefix : Family ≡ Prefix → ⊥
family_is_no_prefix e = absurd (cc)

-- Four bytes and an address that pass the test are laid out as a network's field.
five : (a b c d e f g : ℕ) (l : List ℕ) → a ≡ e → c ≡ f → d ≡ g → a ∷ b ∷ c ∷ d ∷ l ≡ e ∷ b ∷ f ∷ g ∷ l
five a b c d e f g l first third fourth = rw (first, third, fourth) refl

laid_as : (t first prefix third size : ℕ) (address : List ℕ) → is_laid_out t first third size address ≡ true
    → IsLaidOut t (first ∷ prefix ∷ third ∷ size ∷ address) (network (eqb first 3) prefix address)
laid_as t first prefix third size address passes =
    let six = eqb first 3 in
    let outer = and_parts _ _ passes in
    let middle = and_parts _ _ outer.0 in
    let inner = and_parts _ _ middle.0 in
    record {
      many = eqb-true (length address) (address_size six) outer.1;
      bytes = five first prefix third size (family six) t (address_size six) address (eqb-true first (family six) inner.0) (eqb-true third t inner.1) (eqb-true size (address_size six) middle.1);
    }

-- A piece is laid out as a network's field, or as none and read as none.
abbrev pub IsDecided : ℕ → List ℕ → Type 0
IsDecided t p = ((n : Network) × IsLaidOut t p n) ⊎ (((n : Network) → IsLaidOut t p n → ⊥) × (read_network t p ≡ Err Family))

none_laid : (t : ℕ) (p : List ℕ) → read_network t p ≡ Err Family → (n : Network) → IsLaidOut t p n → ⊥
none_laid t p e n s = family_is_no_prefix (prefix_broken (leb n.prefix (longest_prefix n.six)) n Family refl (sym (laid_read t p n s) ∙ e)).0

decided_by : (b : Bool) (t first prefix third size : ℕ) (address : List ℕ) → is_laid_out t first third size address ≡ b → IsDecided t (first ∷ prefix ∷ third ∷ size ∷ address)
decided_by true t first prefix third size address is = inl (network (eqb first 3) prefix address, laid_as t first prefix third size address is)
decided_by false t first prefix third size address is =
    let e : read_network t (first ∷ prefix ∷ third ∷ size ∷ address) ≡ Err Family = rw is refl in
    inr (none_laid t (first ∷ prefix ∷ third ∷ size ∷ address) e, e)

decided_short : (t : ℕ) (p : List ℕ) → read_network t p ≡ Err Family → IsDecided t p
decided_short t p e = inr (none_laid t p e, e)

pub decided : (t : ℕ) (p : List ℕ) → IsDecided t p
decided t [] = decided_short t [] refl
decided t (a ∷ []) = decided_short t (a ∷ []) refl
decided t (a ∷ b ∷ []) = decided_short t (a ∷ b ∷ []) refl
decided t (a ∷ b ∷ c ∷ []) = decided_short t (a ∷ b ∷ c ∷ []) refl
decided t (first ∷ prefix ∷ third ∷ size ∷ address) = decided_by (is_laid_out t first third size address) t first prefix third size address refl

network_again : (t : ℕ) (p : List ℕ) (n : Network) → IsNetwork t p n → read_network t p ≡ Ok n
network_again t p n s = laid_read t p n s.laid_out ∙ rw (le-leb n.prefix (longest_prefix n.six) s.fits) refl

network_spelled : (t : ℕ) (p : List ℕ) (x : Network) → read_network t p ≡ Ok x → IsDecided t p → IsNetwork t p x
network_spelled t p x e (inl laid) =
    let n = laid.0 in
    let h = prefix_read (leb n.prefix (longest_prefix n.six)) n x refl (sym (laid_read t p n laid.1) ∙ e) in
    subst (λ (y : Network). IsNetwork t p y) h.0 (record { laid_out = laid.1; fits = h.1 })
network_spelled t p x e (inr none) = absurd (never_both (read_network t p) x Family e none.1)

network_refused : (t : ℕ) (kind : Break) (p : List ℕ) → BreaksNetwork t kind p → IsDecided t p → read_network t p ≡ Err kind
network_refused t kind p (inl long) d =
    let n = long.1.0 in
    rw long.0 (laid_read t p n long.1.1 ∙ rw (lt-leb n.prefix (longest_prefix n.six) long.1.2) refl)
network_refused t kind p (inr other) (inl laid) = absurd (other.1 laid.0 laid.1)
network_refused t kind p (inr other) (inr none) = rw other.0 none.1

network_broken : (t : ℕ) (kind : Break) (p : List ℕ) → read_network t p ≡ Err kind → IsDecided t p → BreaksNetwork t kind p
network_broken t kind p e (inl laid) =
    let n = laid.0 in
    let h = prefix_broken (leb n.prefix (longest_prefix n.six)) n kind refl (sym (laid_read t p n laid.1) ∙ e) in
    inl (h.0, (n, laid.1, h.1))
network_broken t kind p e (inr none) = inr (sym (err_is {A = Network} Family kind (sym none.1 ∙ e)), none.0)

pub network_exact : (t : ℕ) → IsExact (IsNetwork t) (BreaksNetwork t) (λ p. read_network t p)
network_exact t = record {
  reads = record { again = network_again t };
  sound = record { spelled = λ p x bytes e. network_spelled t p x e (decided t p) };
  refuses = record {
    refused = λ kind p b. network_refused t kind p b (decided t p);
    broken = λ kind p bytes e. network_broken t kind p e (decided t p);
  };
}

-- A refusal whose kind is family, and one of a piece that is laid out as a network's field.
abbrev pub IsFamily : SqlError → Type 0
IsFamily e = kind_of e ≡ Some Family

abbrev pub IsOfLaidOut : ℕ → List ℕ → SqlError → Type 0
IsOfLaidOut t p e = IsFamily e ⊎ ((n : Network) × IsLaidOut t p n)

pub some_is : (x y : SqlError) → (let some : SqlError → Option SqlError = λ z. Some z in some x ≡ some y) → x ≡ y
some_is x y e = cc

fault_is : (r : Option SqlError) (fault e : SqlError) → IsFamily fault → r ≡ Some fault → r ≡ Some e → IsFamily e
fault_is r fault e family is h = subst (λ (x : SqlError). IsFamily x) (some_is fault e (sym is ∙ h)) family

address_kind : (t : ℕ) (six : Bool) (prefix size : ℕ) (address : List ℕ) (e : SqlError) → address_refusal six prefix size address ≡ Some e
    → IsOfLaidOut t (family six ∷ prefix ∷ t ∷ size ∷ address) e
address_kind t six prefix size address e h = of_bytes (cases_Bool (eqb (length address) (address_size six)))
  where
    of_size : length address ≡ address_size six → (eqb size (address_size six) ≡ true) ⊎ (eqb size (address_size six) ≡ false) → IsOfLaidOut t (family six ∷ prefix ∷ t ∷ size ∷ address) e
    of_size many (inl same) = inr (network six prefix address, record { many = many; bytes = rw (eqb-true size (address_size six) same) refl })
    of_size many (inr other) = inl (fault_is (address_refusal six prefix size address) (error.Network WrongAddressLength) e refl (rw (eq-eqb (length address) (address_size six) many, other) refl) h)

    of_bytes : (eqb (length address) (address_size six) ≡ true) ⊎ (eqb (length address) (address_size six) ≡ false) → IsOfLaidOut t (family six ∷ prefix ∷ t ∷ size ∷ address) e
    of_bytes (inl same) = of_size (eqb-true (length address) (address_size six) same) (cases_Bool (eqb size (address_size six)))
    of_bytes (inr other) = inl (fault_is (address_refusal six prefix size address) (error.Network WrongLength) e refl (rw other refl) h)

moved : (t first f prefix third size : ℕ) (address : List ℕ) (e : SqlError) → first ≡ f → third ≡ t
    → IsOfLaidOut t (f ∷ prefix ∷ t ∷ size ∷ address) e → IsOfLaidOut t (first ∷ prefix ∷ third ∷ size ∷ address) e
moved t first f prefix third size address e is type_is (inl kind) = inl kind
moved t first f prefix third size address e is type_is (inr laid) =
    inr (laid.0, record { many = laid.1.many; bytes = ap (λ x. x ∷ prefix ∷ third ∷ size ∷ address) is ∙ ap (λ x. f ∷ prefix ∷ x ∷ size ∷ address) type_is ∙ laid.1.bytes })

long_kind : (t first prefix third size : ℕ) (address : List ℕ) (e : SqlError) → network_refusal t (first ∷ prefix ∷ third ∷ size ∷ address) ≡ Some e
    → IsOfLaidOut t (first ∷ prefix ∷ third ∷ size ∷ address) e
long_kind t first prefix third size address e h = of_type (cases_Bool (eqb third t))
  where
    of_six : eqb third t ≡ true → eqb first 2 ≡ false → (eqb first 3 ≡ true) ⊎ (eqb first 3 ≡ false) → IsOfLaidOut t (first ∷ prefix ∷ third ∷ size ∷ address) e
    of_six type four (inl six) =
        let is : network_refusal t (first ∷ prefix ∷ third ∷ size ∷ address) ≡ address_refusal true prefix size address = rw (type, four, six) refl in
        moved t first 3 prefix third size address e (eqb-true first 3 six) (eqb-true third t type) (address_kind t true prefix size address e (sym is ∙ h))
    of_six type four (inr none) =
        inl (fault_is (network_refusal t (first ∷ prefix ∷ third ∷ size ∷ address)) (error.Network WrongFamily) e refl (rw (type, four, none) refl) h)

    of_four : eqb third t ≡ true → (eqb first 2 ≡ true) ⊎ (eqb first 2 ≡ false) → IsOfLaidOut t (first ∷ prefix ∷ third ∷ size ∷ address) e
    of_four type (inl four) =
        let is : network_refusal t (first ∷ prefix ∷ third ∷ size ∷ address) ≡ address_refusal false prefix size address = rw (type, four) refl in
        moved t first 2 prefix third size address e (eqb-true first 2 four) (eqb-true third t type) (address_kind t false prefix size address e (sym is ∙ h))
    of_four type (inr other) = of_six type other (cases_Bool (eqb first 3))

    of_type : (eqb third t ≡ true) ⊎ (eqb third t ≡ false) → IsOfLaidOut t (first ∷ prefix ∷ third ∷ size ∷ address) e
    of_type (inl type) = of_four type (cases_Bool (eqb first 2))
    of_type (inr other) =
        inl (fault_is (network_refusal t (first ∷ prefix ∷ third ∷ size ∷ address)) (error.Network WrongType) e refl (rw other refl) h)

short_kind : (t : ℕ) (p : List ℕ) (e : SqlError) → network_refusal t p ≡ Some (error.Network TooShort) → network_refusal t p ≡ Some e → IsOfLaidOut t p e
short_kind t p e is h = inl (fault_is (network_refusal t p) (error.Network TooShort) e refl is h)

-- Each refusal is of the kind family, or of a piece that is laid out as a network's field.
pub refusal_kind : (t : ℕ) (p : List ℕ) (e : SqlError) → network_refusal t p ≡ Some e → IsOfLaidOut t p e
refusal_kind t [] e h = short_kind t [] e refl h
refusal_kind t (a ∷ []) e h = short_kind t (a ∷ []) e refl h
refusal_kind t (a ∷ b ∷ []) e h = short_kind t (a ∷ b ∷ []) e refl h
refusal_kind t (a ∷ b ∷ c ∷ []) e h = short_kind t (a ∷ b ∷ c ∷ []) e refl h
refusal_kind t (first ∷ prefix ∷ third ∷ size ∷ address) e h = long_kind t first prefix third size address e h
