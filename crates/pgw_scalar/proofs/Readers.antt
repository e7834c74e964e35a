-- When a function that reads pieces answers what they spell and how they break.
use Rattle.std.proofs.Common.{◌≡◌, ◌≢◌, ℕ, ◌<◌, List, length, get_or, Bool, true, false, cond, eqb, Result, Ok, Err, refl, sym, ap, subst}
use Rattle.std.proofs.lemmas.Bool.{eqb-true, eqb-false, eq-eqb, ne_eqb}
use Rattle.pgw_wire.specs.declared.kind.Break.{Break}
use Rattle.pgw_wire.specs.declared.kind.Break.TheVariants.{Size}

abbrev pub IsBytes : List ℕ → Type 0
IsBytes bytes = (i : ℕ) → get_or bytes i 0 < 256

-- What a piece spells is read.
pub record ReadsAgain {A : Type 0} (Spell : List ℕ → A → Type 0) (read : List ℕ → Result A Break) : Type 0 where
  pub again : (p : List ℕ) (x : A) → Spell p x → read p ≡ Ok x

-- What is read, the piece spells.
pub record IsSound {A : Type 0} (Spell : List ℕ → A → Type 0) (read : List ℕ → Result A Break) : Type 0 where
  pub spelled : (p : List ℕ) (x : A) → IsBytes p → read p ≡ Ok x → Spell p x

-- A piece is refused in the kind in which it breaks.
pub record Refuses {A : Type 0} (Broken : Break → List ℕ → Type 0) (read : List ℕ → Result A Break) : Type 0 where
  pub refused : (kind : Break) (p : List ℕ) → Broken kind p → read p ≡ Err kind
  pub broken : (kind : Break) (p : List ℕ) → IsBytes p → read p ≡ Err kind → Broken kind p

-- all three
pub record IsExact {A : Type 0} (Spell : List ℕ → A → Type 0) (Broken : Break → List ℕ → Type 0) (read : List ℕ → Result A Break) : Type 0 where
  pub reads : ReadsAgain Spell read
  pub sound : IsSound Spell read
  pub refuses : Refuses Broken read

pub ok_is : {A : Type 0} (x y : A) → (let ok : A → Result A Break = λ z. Ok z in ok x ≡ ok y) → x ≡ y
ok_is x y e = cc

pub err_is : {A : Type 0} (j k : Break) → (let err : Break → Result A Break = λ z. Err z in err j ≡ err k) → j ≡ k
err_is j k e = cc

pub never_both : {A : Type 0} (r : Result A Break) (x : A) (kind : Break) → r ≡ Ok x → r ≡ Err kind → ⊥
never_both r x kind ok err = absurd (cc)

-- what comes of a test of the size
abbrev of_size : {A : Type 0} → Bool → (List ℕ → A) → List ℕ → Result A Break
of_size {A} b value p = cond {A = Result A Break} b (Ok (value p)) (Err Size)

size_read : {A : Type 0} (b : Bool) (size : ℕ) (value : List ℕ → A) (p : List ℕ) (x : A) → eqb (length p) size ≡ b → of_size b value p ≡ Ok x → (length p ≡ size) × (value p ≡ x)
size_read true size value p x is e = (eqb-true (length p) size is, ok_is (value p) x e)
size_read false size value p x is e = absurd (never_both (of_size false value p) x Size e refl)

size_refused : {A : Type 0} (b : Bool) (size : ℕ) (value : List ℕ → A) (kind : Break) (p : List ℕ) → eqb (length p) size ≡ b → of_size b value p ≡ Err kind → (kind ≡ Size) × (length p ≢ size)
size_refused true size value kind p is e = absurd (never_both (of_size true value p) (value p) kind refl e)
size_refused {A = A} false size value kind p is e = (sym (err_is {A = A} Size kind e), eqb-false (length p) size is)

-- A type whose pieces all have one size, where any bytes of that size are a piece.
pub sized_exact : {A : Type 0} {Spell : List ℕ → A → Type 0} (size : ℕ) (value : List ℕ → A) → ((p : List ℕ) (x : A) → Spell p x → (length p ≡ size) × (value p ≡ x)) → ((p : List ℕ) → IsBytes p → length p ≡ size → Spell p (value p))
    → IsExact Spell (λ kind p. (kind ≡ Size) × (length p ≢ size)) (λ p. of_size (eqb (length p) size) value p)
sized_exact {A = A} {Spell = Spell} size value again spelled = record {
  reads = record { again = λ p x s. let r = again p x s in rw (eq-eqb (length p) size r.0) (ap Ok r.1) };
  sound = record { spelled = λ p x bytes e. let r = size_read (eqb (length p) size) size value p x refl e in subst (λ (y : A). Spell p y) r.1 (spelled p bytes r.0) };
  refuses = record {
    refused = λ kind p b. rw (ne_eqb (length p) size b.1) (ap Err (sym b.0));
    broken = λ kind p bytes e. size_refused (eqb (length p) size) size value kind p refl e;
  };
}
