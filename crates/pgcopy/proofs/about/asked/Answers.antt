use Rattle.std.proofs.Common.{◌≡◌, ℕ, false, List, [], ◌∷◌, length, get_or, refl, sym, ap, ◌∙◌, arith}
use Rattle.std.specs.Prelude.{String, string_bytes, codes}
use Rattle.pgcopy.specs.Words.{asks_about}
use Rattle.pgcopy.proofs.Options.{differs}
use Rattle.pgcopy.proofs.about.asked.Goals as goal

-- A word that is none of the three asks for nothing.
asks_not : {A : Type 0} (words : List (String A)) (word : String A) (text : List ℕ) → length words ≡ 1 → word ≡ get_or words 0 word → text ≡ string_bytes word
    → (text ≡ codes "--help" → ⊥) → (text ≡ codes "-h" → ⊥) → (text ≡ codes "--version" → ⊥) → false ≡ asks_about words
asks_not [] word text one is told help short version = absurd (omega (arith, one))
asks_not (w ∷ x ∷ ws) word text one is told help short version = refl
asks_not (w ∷ []) word text one is told help short version =
    let same : string_bytes w ≡ text = ap string_bytes (sym is) ∙ sym told in
    rw (differs (string_bytes w) (codes "--help") (λ e. help (sym same ∙ e)), differs (string_bytes w) (codes "-h") (λ e. short (sym same ∙ e)), differs (string_bytes w) (codes "--version") (λ e. version (sym same ∙ e))) refl

pub returns-in_default-clause-asked : goal.returns-in_default-clause-asked
returns-in_default-clause-asked c =
    asks_not c.args.words.now c.index-words-0.result c.as_str.result.now c.if-words-ne1.false c.index-words-0.is c.as_str.ensures.value c.in_default.not-text c.in_default.not-text-2 c.in_default.not-text-3
