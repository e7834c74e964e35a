-- The fields of which the first bytes are read, are read as their definitions say.
use Rattle.std.proofs.Common.{◌≡◌, ℕ, zero, suc, ◌<◌, ◌≤◌, ◌^◌, ◌==◌, List, [], ◌∷◌, ◌++◌, length, take, drop, Bool, true, false, not, ltb, cond, Result, Ok, Err, w32, refl, sym, ap, ◌∙◌, arith, lit<, subst}
use Rattle.std.specs.Int.{to_be_bytes, from_be_bytes}
use Rattle.std.proofs.lemmas.Bool.{ltb-true, ltb-false, lt-ltb, le-ltb}
use Rattle.std.proofs.lemmas.List.{take-append-drop, length-take-le}
use Rattle.pgw_wire.specs.declared.kind.Break.{Break}
use Rattle.pgw_wire.specs.declared.kind.Break.TheVariants.{Size}
use Rattle.pgw_scalar.specs.Leading.{IsBool, IsChar, IsOid, BreaksEmpty, BreaksShort, read_first, read_bool, read_char, read_oid}
use Rattle.pgw_scalar.proofs.Readers.{IsBytes, IsExact, ok_is, err_is, never_both}
use Rattle.pgw_scalar.proofs.Whole.{size_32}

-- what of a piece the first byte says, and nothing else
record SaysFirst {A : Type 0} (Spell : List ℕ → A → Type 0) (value : ℕ → A) : Type 0 where
  pub again : (p : List ℕ) (x : A) → Spell p x → read_first value p ≡ Ok x
  pub spelled : (first : ℕ) (rest : List ℕ) → first < 256 → Spell (first ∷ rest) (value first)

first_spelled : {A : Type 0} {Spell : List ℕ → A → Type 0} (value : ℕ → A) → SaysFirst Spell value → (p : List ℕ) (x : A) → IsBytes p → read_first value p ≡ Ok x → Spell p x
first_spelled value h [] x bytes e = absurd (never_both (read_first value []) x Size e refl)
first_spelled {A = A} {Spell = Spell} value h (first ∷ rest) x bytes e =
    subst (λ (y : A). Spell (first ∷ rest) y) (ok_is (value first) x e) (h.spelled first rest (bytes 0))

first_refused : {A : Type 0} (value : ℕ → A) (kind : Break) (p : List ℕ) → BreaksEmpty kind p → read_first value p ≡ Err kind
first_refused value kind p b = rw (b.1, b.0) refl

first_broken : {A : Type 0} (value : ℕ → A) (kind : Break) (p : List ℕ) → read_first value p ≡ Err kind → BreaksEmpty kind p
first_broken {A = A} value kind [] e = (sym (err_is {A = A} Size kind e), refl)
first_broken value kind (first ∷ rest) e = absurd (never_both (read_first value (first ∷ rest)) (value first) kind refl e)

first_exact : {A : Type 0} {Spell : List ℕ → A → Type 0} (value : ℕ → A) → SaysFirst Spell value → IsExact Spell BreaksEmpty (λ p. read_first value p)
first_exact value h = record {
  reads = record { again = h.again };
  sound = record { spelled = first_spelled value h };
  refuses = record { refused = first_refused value; broken = λ kind p bytes e. first_broken value kind p e };
}

pub bool_exact : IsExact IsBool BreaksEmpty read_bool
bool_exact = first_exact (λ first. not (first == 0)) (record {
  again = λ p b s. rw s.is (ap Ok (sym s.says));
  spelled = λ first rest byte. record { first = first; rest = rest; is = refl; says = refl };
})

pub char_exact : IsExact IsChar BreaksEmpty read_char
char_exact = first_exact (λ first. first) (record {
  again = λ p byte s. rw s.is refl;
  spelled = λ first rest byte. record { rest = rest; fits = byte; is = refl };
})

-- The first bytes of bytes are bytes.
pub bytes_taken : (n : ℕ) (p : List ℕ) → IsBytes p → IsBytes (take n p)
bytes_taken zero p bytes i = lit< tt
bytes_taken (suc n) [] bytes i = lit< tt
bytes_taken (suc n) (x ∷ p) bytes zero = bytes 0
bytes_taken (suc n) (x ∷ p) bytes (suc i) = bytes_taken n p (λ j. bytes (suc j)) i

-- what comes of the test of the length
abbrev oid_by : Bool → List ℕ → Result ℕ Break
oid_by b p = cond {A = Result ℕ Break} b (Err Size) (Ok (from_be_bytes w32 (take 4 p)))

-- Any four bytes, and more behind them, are an oid's.
pub oid_is : (p : List ℕ) → IsBytes p → 4 ≤ length p → IsOid p (from_be_bytes w32 (take 4 p))
oid_is p bytes long =
    let four = length-take-le 4 p long in
    let taken = bytes_taken 4 p bytes in
    record {
      rest = drop 4 p;
      fits = size_32.below (take 4 p) taken four;
      is = sym (ap (λ l. l ++ drop 4 p) (size_32.written (take 4 p) taken four) ∙ take-append-drop 4 p);
    }

oid_spelled : (b : Bool) (p : List ℕ) (oid : ℕ) → IsBytes p → ltb (length p) 4 ≡ b → oid_by b p ≡ Ok oid → IsOid p oid
oid_spelled true p oid bytes is e = absurd (never_both (oid_by true p) oid Size e refl)
oid_spelled false p oid bytes is e =
    subst (λ (n : ℕ). IsOid p n) (ok_is (from_be_bytes w32 (take 4 p)) oid e) (oid_is p bytes (ltb-false (length p) 4 is))

oid_broken : (b : Bool) (kind : Break) (p : List ℕ) → ltb (length p) 4 ≡ b → oid_by b p ≡ Err kind → BreaksShort kind p
oid_broken true kind p is e = (sym (err_is {A = ℕ} Size kind e), ltb-true (length p) 4 is)
oid_broken false kind p is e = absurd (never_both (oid_by false p) (from_be_bytes w32 (take 4 p)) kind refl e)

oid_again : (oid : ℕ) (rest : List ℕ) → oid < 2 ^ 32 → read_oid (to_be_bytes w32 oid ++ rest) ≡ Ok oid
oid_again oid rest fits = rw (le-ltb (length (to_be_bytes w32 oid ++ rest)) 4 (omega arith)) (ap Ok (size_32.again oid fits))

pub oid_exact : IsExact IsOid BreaksShort read_oid
oid_exact = record {
  reads = record { again = λ p oid s. subst (λ (q : List ℕ). read_oid q ≡ Ok oid) (sym s.is) (oid_again oid s.rest s.fits) };
  sound = record { spelled = λ p oid bytes e. oid_spelled (ltb (length p) 4) p oid bytes refl e };
  refuses = record {
    refused = λ kind p b. rw (lt-ltb (length p) 4 b.1) (ap Err (sym b.0));
    broken = λ kind p bytes e. oid_broken (ltb (length p) 4) kind p refl e;
  };
}
