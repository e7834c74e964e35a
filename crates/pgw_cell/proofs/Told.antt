-- What is proved of each type, whatever it says: how its definitions of pieces and values belong together.
use Rattle.std.proofs.Common.{◌≡◌, ◌≤◌, ℕ, List, length, Result, Ok, Err, refl, sym, ap, ◌∙◌}
use Rattle.pgw_wire.specs.declared.kind.Break.{Break}
use Rattle.pgw_wire.specs.declared.kind.Break.TheVariants.{Size}
use Rattle.pgw_scalar.proofs.Readers.{IsExact, ok_is, err_is, never_both}
use Rattle.pgw_cell.specs.Value.{Value, null}
use Rattle.pgw_cell.specs.Spellings.{Spelling, SpellsAs, read_as, no_spelling}

pub record IsTold (Has : Value → Type 0) (Spell : List ℕ → Value → Type 0) (Broken : Break → List ℕ → Type 0) (read : List ℕ → Result Value Break) : Type 0 where
  -- A piece is read as it spells and breaks.
  pub exact : IsExact Spell Broken read
  -- What a piece spells is a value of the type, and no null is one.
  pub has : (p : List ℕ) (v : Value) → Spell p v → Has v
  pub some : (v : Value) → Has v → v ≡ null → ⊥

-- The piece that a value of the type is written as spells it, if it is no longer than a piece may be, and has its size.
pub record IsWritten (Has : Value → Type 0) (Spell : List ℕ → Value → Type 0) (canonical : Value → List ℕ) (size : Value → ℕ) : Type 0 where
  pub written : (v : Value) → Has v → size v ≤ 2147483647 → Spell (canonical v) v
  pub counted : (v : Value) → Has v → size v ≡ length (canonical v)

abbrev pub IsToldSpelling : Spelling → Type 0
IsToldSpelling l = IsTold l.Has l.Spells l.Breaks l.read

abbrev pub IsWrittenSpelling : Spelling → Type 0
IsWrittenSpelling l = IsWritten l.Has l.Spells l.canonical l.size

abbrev pub IsExactSpelling : Spelling → Type 0
IsExactSpelling l = IsExact l.Spells l.Breaks l.read

-- Both of a spelling, whose values are written so that they are read back however long they are.
pub record IsWhole (l : Spelling) : Type 0 where
  pub exact : IsExactSpelling l
  pub has : (p : List ℕ) (v : Value) → l.Spells p v → l.Has v
  pub some : (v : Value) → l.Has v → v ≡ null → ⊥
  pub written : (v : Value) → l.Has v → l.Spells (l.canonical v) v
  pub counted : (v : Value) → l.Has v → l.size v ≡ length (l.canonical v)

pub told_whole : (l : Spelling) → IsWhole l → IsToldSpelling l
told_whole l h = record { exact = h.exact; has = h.has; some = h.some }

pub written_whole : (l : Spelling) → IsWhole l → IsWrittenSpelling l
written_whole l h = record { written = λ v has fits. h.written v has; counted = h.counted }

-- A type that is not built has no values, and each piece of it breaks.
pub no_spelling_whole : IsWhole no_spelling
no_spelling_whole = record {
  exact = record {
    reads = record { again = λ p v s. absurd s };
    sound = record { spelled = λ p v bytes e. absurd (cc) };
    refuses = record { refused = λ kind p b. ap Err (sym b); broken = λ kind p bytes e. sym (err_is {A = Value} Size kind e) };
  };
  has = λ p v s. s;
  some = λ v h e. h;
  written = λ v h. h;
  counted = λ v h. absurd h;
}

-- what was read, as a value of a column
pub as_ok : {A : Type 0} (value : A → Value) (r : Result A Break) (v : Value) → read_as value r ≡ Ok v → (x : A) × (r ≡ Ok x) × (v ≡ value x)
as_ok value (Ok x) v e = (x, refl, sym (ok_is (value x) v e))
as_ok value (Err kind) v e = absurd (never_both (read_as value (Err kind)) v kind e refl)

as_err : {A : Type 0} (value : A → Value) (r : Result A Break) (kind : Break) → read_as value r ≡ Err kind → r ≡ Err kind
as_err value (Ok x) kind e = absurd (never_both (read_as value (Ok x)) (value x) kind refl e)
as_err {A = A} value (Err k) kind e = ap Err (err_is {A = Value} k kind e)

-- A reader of a type's own values, as one of values of the tree.
pub exact_as : {A : Type 0} {Spell : List ℕ → A → Type 0} {Broken : Break → List ℕ → Type 0} {read : List ℕ → Result A Break} (value : A → Value) → IsExact Spell Broken read → IsExact (SpellsAs value Spell) Broken (λ p. read_as value (read p))
exact_as {read = read} value exact = record {
  reads = record { again = λ p v s. ap (read_as value) (exact.reads.again p s.0 s.1) ∙ ap Ok (sym s.2) };
  sound = record { spelled = λ p v bytes e. let r = as_ok value (read p) v e in (r.0, exact.sound.spelled p r.0 bytes r.1, r.2) };
  refuses = record {
    refused = λ kind p b. ap (read_as value) (exact.refuses.refused kind p b);
    broken = λ kind p bytes e. exact.refuses.broken kind p bytes (as_err value (read p) kind e);
  };
}
