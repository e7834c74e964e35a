-- The test for UTF-8, and the field of a text, which is read as its definition says.
use Rattle.std.proofs.Common.{◌≡◌, ℕ, List, Result, Ok, Err, refl, sym, ap, ◌∙◌, Bool, true, false, cond}
use Rattle.std.specs.Prelude.{MatchResult, MatchBool, is_ok}
use Rattle.std.specs.Str.{IsUtf8, is_utf8}
use Rattle.std.proofs.lemmas.Str.{IsUtf8-from_is_utf8, is_utf8-from_IsUtf8}
use Rattle.std.proofs.lemmas.Bool.{false_from_ne_true, false≢true}
use Rattle.pgw_wire.specs.declared.kind.Break.{Break}
use Rattle.pgw_wire.specs.declared.kind.Break.TheVariants.{Utf8}
use Rattle.pgw_scalar.specs.Text.{IsText, BreaksText, read_text}
use Rattle.pgw_scalar.proofs.Readers.{IsExact, ok_is, err_is, never_both}

pub text_tested : {S E : Type 0} (r : Result S E) (bytes : List ℕ) (P : S → Type 0) (Q : E → Type 0) → MatchResult r (λ s. P s × IsUtf8 bytes) (λ e. ¬ (IsUtf8 bytes) × Q e) → is_ok r ≡ is_utf8 bytes
text_tested (Ok s) bytes P Q h = sym (is_utf8-from_IsUtf8 bytes h.1)
text_tested (Err e) bytes P Q h = sym (false_from_ne_true (is_utf8 bytes) (λ t. h.0 (IsUtf8-from_is_utf8 bytes t)))

pub ascii_tested : (b : Bool) (P Q : Type 0) → b ≡ true → MatchBool b P Q → P
ascii_tested true P Q is h = h
ascii_tested false P Q is h = absurd (cc)

-- A piece that the test refuses is not UTF-8.
pub no_utf8 : (p : List ℕ) → is_utf8 p ≡ false → IsUtf8 p → ⊥
no_utf8 p is utf8 = false≢true (sym is ∙ is_utf8-from_IsUtf8 p utf8)

text_again : (p text : List ℕ) → IsText p text → read_text p ≡ Ok text
text_again p text s = rw (ap is_utf8 s.bytes ∙ is_utf8-from_IsUtf8 text s.utf8) (ap Ok s.bytes)

-- what comes of the test
abbrev text_by : Bool → List ℕ → Result (List ℕ) Break
text_by b p = cond {A = Result (List ℕ) Break} b (Ok p) (Err Utf8)

text_spelled : (b : Bool) (p text : List ℕ) → is_utf8 p ≡ b → text_by b p ≡ Ok text → IsText p text
text_spelled true p text is e = let same = ok_is p text e in record { utf8 = IsUtf8-from_is_utf8 text (ap is_utf8 (sym same) ∙ is); bytes = same }
text_spelled false p text is e = absurd (never_both (text_by false p) text Utf8 e refl)

text_broken : (b : Bool) (kind : Break) (p : List ℕ) → is_utf8 p ≡ b → text_by b p ≡ Err kind → BreaksText kind p
text_broken true kind p is e = absurd (never_both (text_by true p) p kind refl e)
text_broken false kind p is e = (sym (err_is {A = List ℕ} Utf8 kind e), no_utf8 p is)

pub text_exact : IsExact IsText BreaksText read_text
text_exact = record {
  reads = record { again = text_again };
  sound = record { spelled = λ p text bytes e. text_spelled (is_utf8 p) p text refl e };
  refuses = record {
    refused = λ kind p b. rw (false_from_ne_true (is_utf8 p) (λ t. b.1 (IsUtf8-from_is_utf8 p t))) (ap Err (sym b.0));
    broken = λ kind p bytes e. text_broken (is_utf8 p) kind p refl e;
  };
}
