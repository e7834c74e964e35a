-- What the first token of a text is.
use Rattle.std.proofs.Common.{◌≡◌, ◌+◌, ◌-◌, ◌<◌, ◌≤◌, ◌==◌, ◌&&◌, ℕ, zero, suc, List, [], ◌∷◌, ◌++◌, length, get_or, take, drop, Bool, true, false, refl, sym, ap, ap₂, ◌∙◌, subst, eq-eqb, eqb-true, arith, if◌then◌else◌}
use Rattle.std.proofs.lemmas.Bool.{false≢true, and_parts}
use Rattle.std.proofs.lemmas.Bool.Decides.{nat_tests}
use Rattle.std.proofs.lemmas.List.{take_rest, drop-drop, get_or-drop, length-drop}
use Rattle.std.proofs.lemmas.Str.{IsCharBoundary-after_ascii}
use Rattle.std.specs.Bool.{IsTrue, IsFalse}
use Rattle.std.specs.List.{starts_with}
use Rattle.std.specs.Str.{IsUtf8, IsCharBoundary}
use Rattle.pgw_notation.specs.Names.{is_name_byte}
use Rattle.pgw_notation.specs.Tokens.{Token, word, question, brackets, opening, closing, comma, at_sign, point, colon, other, token_bytes, joined, mark, behind_letter, behind_bracket, behind_byte, tokens}

-- what holds of a token, whichever way a test goes
either : (P : Token → Type 0) (b : Bool) (x y : Token) → (b ≡ true → P x) → P y → P (if b then x else y)
either P true x y h k = h refl
either P false x y h k = k

mark_has : (P : Token → Type 0) (byte : ℕ) → (byte ≡ 63 → P question) → (byte ≡ 40 → P opening) → (byte ≡ 41 → P closing) → (byte ≡ 44 → P comma)
    → (byte ≡ 64 → P at_sign) → (byte ≡ 46 → P point) → (byte ≡ 58 → P colon) → P (other byte) → P (mark byte)
mark_has P byte q o c m a p l x =
    either P (byte == 63) _ _ (λ e. q (eqb-true byte 63 e))
    (either P (byte == 40) _ _ (λ e. o (eqb-true byte 40 e))
    (either P (byte == 41) _ _ (λ e. c (eqb-true byte 41 e))
    (either P (byte == 44) _ _ (λ e. m (eqb-true byte 44 e))
    (either P (byte == 64) _ _ (λ e. a (eqb-true byte 64 e))
    (either P (byte == 46) _ _ (λ e. p (eqb-true byte 46 e))
    (either P (byte == 58) _ _ (λ e. l (eqb-true byte 58 e)) x))))))

mark_bytes : (byte : ℕ) → token_bytes (mark byte) ≡ byte ∷ []
mark_bytes byte =
    let same = λ (k : ℕ) (e : byte ≡ k). ap (λ b. b ∷ []) (sym e) in
    mark_has (λ t. token_bytes t ≡ byte ∷ []) byte (same 63) (same 40) (same 41) (same 44) (same 64) (same 46) (same 58) refl

letter_joined : (byte : ℕ) (ts : List Token) → joined (behind_letter byte ts) ≡ byte ∷ joined ts
letter_joined byte (word name ∷ ts) = refl
letter_joined byte [] = refl
letter_joined byte (_ ∷ ts) = refl

bracket_joined : (ts : List Token) → joined (behind_bracket ts) ≡ 91 ∷ joined ts
bracket_joined (other byte ∷ ts) = by (byte == 93) refl
  where
    by : (b : Bool) → (byte == 93) ≡ b → joined (if b then brackets ∷ ts else other 91 ∷ other byte ∷ ts) ≡ 91 ∷ byte ∷ joined ts
    by true is = ap (λ b. 91 ∷ b ∷ joined ts) (sym (eqb-true byte 93 is))
    by false is = refl
bracket_joined [] = refl
bracket_joined (_ ∷ ts) = refl

byte_joined : (byte : ℕ) (ts : List Token) → joined (behind_byte byte ts) ≡ byte ∷ joined ts
byte_joined byte ts = by (is_name_byte byte) (byte == 91) refl
  where
    by : (b c : Bool) → (byte == 91) ≡ c → joined (if b then behind_letter byte ts else if c then behind_bracket ts else mark byte ∷ ts) ≡ byte ∷ joined ts
    by true c is = letter_joined byte ts
    by false true is = bracket_joined ts ∙ ap (λ b. b ∷ joined ts) (sym (eqb-true byte 91 is))
    by false false is = ap (λ bs. bs ++ joined ts) (mark_bytes byte)

-- Joined, the tokens of a text are the text.
pub joined_tokens : (bytes : List ℕ) → joined (tokens bytes) ≡ bytes
joined_tokens [] = refl
joined_tokens (byte ∷ bytes) = byte_joined byte (tokens bytes) ∙ ap (λ bs. byte ∷ bs) (joined_tokens bytes)

-- A letter stands by itself in front of these tokens.
abbrev StandsAlone : List Token → Type 0
StandsAlone ts = (byte : ℕ) → behind_letter byte ts ≡ word (byte ∷ []) ∷ ts

bracket_alone : (ts : List Token) → StandsAlone (behind_bracket ts)
bracket_alone (other byte ∷ ts) letter = by (byte == 93) letter
  where
    by : (b : Bool) → StandsAlone (if b then brackets ∷ ts else other 91 ∷ other byte ∷ ts)
    by true l = refl
    by false l = refl
bracket_alone [] letter = refl
bracket_alone (_ ∷ ts) letter = refl

mark_alone : (byte : ℕ) (ts : List Token) → StandsAlone (mark byte ∷ ts)
mark_alone byte ts letter =
    mark_has (λ t. behind_letter letter (t ∷ ts) ≡ word (letter ∷ []) ∷ t ∷ ts) byte (λ e. refl) (λ e. refl) (λ e. refl) (λ e. refl) (λ e. refl) (λ e. refl) (λ e. refl) refl

-- behind another byte than a letter
other_alone : (byte : ℕ) (ts : List Token) → IsFalse (is_name_byte byte) → StandsAlone (behind_byte byte ts)
other_alone byte ts h letter = rw h (by (byte == 91))
  where
    by : (b : Bool) → behind_letter letter (if b then behind_bracket ts else mark byte ∷ ts) ≡ word (letter ∷ []) ∷ (if b then behind_bracket ts else mark byte ∷ ts)
    by true = bracket_alone ts letter
    by false = mark_alone byte ts letter

-- a letter that no other follows
one_letter : (byte : ℕ) (bytes : List ℕ) → IsTrue (is_name_byte byte) → (0 < length bytes → IsFalse (is_name_byte (get_or bytes 0 0))) → tokens (byte ∷ bytes) ≡ word (byte ∷ []) ∷ tokens bytes
one_letter byte [] h ends = rw h refl
one_letter byte (c ∷ bytes) h ends = rw h (other_alone c (tokens bytes) (ends (omega arith)) byte)

-- The longest run of letters is the first token.
pub run_first : (bytes : List ℕ) (n : ℕ) → suc n ≤ length bytes → ((k : ℕ) → k < suc n → IsTrue (is_name_byte (get_or bytes k 0)))
    → (suc n < length bytes → IsFalse (is_name_byte (get_or bytes (suc n) 0))) → tokens bytes ≡ word (take (suc n) bytes) ∷ tokens (drop (suc n) bytes)
run_first [] n within all longest = absurd (omega (arith, within))
run_first (b ∷ bytes) zero within all longest = one_letter b bytes (all 0 (omega arith)) (λ lt. longest (omega (arith, lt)))
run_first (b ∷ bytes) (suc n) within all longest =
    let rest = run_first bytes n (omega (arith, within)) (λ k lt. all (suc k) (omega (arith, lt))) (λ lt. longest (omega (arith, lt))) in
    rw (all 0 (omega arith)) (ap (behind_letter b) rest)

-- `[]` is one token.
pub brackets_first : (bytes : List ℕ) → tokens (91 ∷ 93 ∷ bytes) ≡ brackets ∷ tokens bytes
brackets_first bytes = refl

-- A `[` stands by itself where no `]` is behind it.
open_bracket : (bytes : List ℕ) → (get_or bytes 0 0 ≡ 93 → ⊥) → behind_bracket (tokens bytes) ≡ other 91 ∷ tokens bytes
open_bracket bytes other_behind = by (tokens bytes) (joined_tokens bytes)
  where
    second : (byte : ℕ) (ts : List Token) → byte ∷ joined ts ≡ bytes → (b : Bool) → (byte == 93) ≡ b
        → (if b then brackets ∷ ts else other 91 ∷ other byte ∷ ts) ≡ other 91 ∷ other byte ∷ ts
    second byte ts e true is = absurd (other_behind (ap (λ bs. get_or bs 0 0) (sym e) ∙ eqb-true byte 93 is))
    second byte ts e false is = refl

    by : (ts : List Token) → joined ts ≡ bytes → behind_bracket ts ≡ other 91 ∷ ts
    by (other byte ∷ ts) e = second byte ts e (byte == 93) refl
    by [] e = refl
    by (_ ∷ ts) e = refl

-- Each other byte is a token.
pub mark_first : (byte : ℕ) (bytes : List ℕ) → IsFalse (is_name_byte byte) → (byte ≡ 91 → get_or bytes 0 0 ≡ 93 → ⊥) → tokens (byte ∷ bytes) ≡ mark byte ∷ tokens bytes
mark_first byte bytes h other_behind = rw h (by (byte == 91) refl)
  where
    by : (b : Bool) → (byte == 91) ≡ b → (if b then behind_bracket (tokens bytes) else mark byte ∷ tokens bytes) ≡ mark byte ∷ tokens bytes
    by true is = let same = eqb-true byte 91 is in open_bracket bytes (other_behind same) ∙ ap (λ b. mark b ∷ tokens bytes) (sym same)
    by false is = refl

-- A letter, a digit or `_` is one of ASCII.
name_ascii : (byte : ℕ) → IsTrue (is_name_byte byte) → byte < 128
name_ascii byte h = grind (arith, nat_tests)

starts_brackets : (bytes : List ℕ) → starts_with ◌==◌ bytes (91 ∷ 93 ∷ []) ≡ true → tokens bytes ≡ brackets ∷ tokens (drop 2 bytes)
starts_brackets [] h = absurd (false≢true h)
starts_brackets (b ∷ []) h = absurd (by (91 == b) h)
  where
    by : (t : Bool) → (t && false) ≡ true → ⊥
    by true k = false≢true k
    by false k = false≢true k
starts_brackets (b ∷ c ∷ bytes) h =
    let first = and_parts (91 == b) ((93 == c) && true) h in
    let second = and_parts (93 == c) true first.1 in
    ap₂ (λ x y. tokens (x ∷ y ∷ bytes)) (sym (eqb-true 91 b first.0)) (sym (eqb-true 93 c second.0))

starts_mark : (bytes : List ℕ) (first : ℕ) → 0 < length bytes → first ≡ get_or bytes 0 first → IsFalse (is_name_byte first) → starts_with ◌==◌ bytes (91 ∷ 93 ∷ []) ≡ false
    → tokens bytes ≡ mark first ∷ tokens (drop 1 bytes)
starts_mark [] first some is h other_start = absurd (omega (arith, some))
starts_mark (b ∷ bytes) first some is h other_start =
    ap (λ x. tokens (x ∷ bytes)) (sym is) ∙ mark_first first bytes h (λ e k. false≢true (sym other_start ∙ both bytes (sym is ∙ e) k))
  where
    both : (rest : List ℕ) → b ≡ 91 → get_or rest 0 0 ≡ 93 → starts_with ◌==◌ (b ∷ rest) (91 ∷ 93 ∷ []) ≡ true
    both [] e k = absurd (omega (arith, k))
    both (c ∷ rest) e k = rw (eq-eqb 91 b (sym e), eq-eqb 93 c (sym k)) refl

-- a text from a place on, as the program cuts it
abbrev pub rest_of : List ℕ → ℕ → List ℕ
rest_of bytes place = take (length bytes - place) (drop place bytes)

rest_is : (text bytes : List ℕ) (place : ℕ) → bytes ≡ text → rest_of bytes place ≡ drop place text
rest_is text bytes place e = take_rest bytes place ∙ ap (drop place) e

-- `[]` at a place of a text
pub brackets_at : (text bytes : List ℕ) (place : ℕ) → bytes ≡ text → starts_with ◌==◌ (rest_of bytes place) (91 ∷ 93 ∷ []) ≡ true
    → tokens (drop place text) ≡ brackets ∷ tokens (drop (place + 2) text)
brackets_at text bytes place e h =
    starts_brackets (drop place text) (ap (λ bs. starts_with ◌==◌ bs (91 ∷ 93 ∷ [])) (sym (rest_is text bytes place e)) ∙ h)
    ∙ ap (λ bs. brackets ∷ tokens bs) (drop-drop 2 place text)

-- another byte at a place of a text
pub mark_at : (text bytes : List ℕ) (place first : ℕ) → bytes ≡ text → 0 < length (rest_of bytes place)
    → first ≡ get_or (rest_of bytes place) 0 first → IsFalse (is_name_byte first)
    → starts_with ◌==◌ (rest_of bytes place) (91 ∷ 93 ∷ []) ≡ false
    → tokens (drop place text) ≡ mark first ∷ tokens (drop (place + 1) text)
mark_at text bytes place first e some is h other_start =
    let same = rest_is text bytes place e in
    starts_mark (drop place text) first (rw same at some) (rw same at is) h (rw same at other_start)
    ∙ ap (λ bs. mark first ∷ tokens bs) (drop-drop 1 place text)

-- what `run_len` tells of a run of bytes
pub record IsRun (bytes : List ℕ) (n : ℕ) : Type 0 where
  pub within : n ≤ length bytes
  pub names : (k : ℕ) → k < n → IsTrue (is_name_byte (get_or bytes k 0))
  pub longest : n < length bytes → IsFalse (is_name_byte (get_or bytes n 0))
  pub some : 0 < length bytes
  pub first : IsTrue (is_name_byte (get_or bytes 0 0))

pub run_in : (text bytes : List ℕ) (place n first : ℕ) → bytes ≡ text → n ≤ length (rest_of bytes place)
    → ((k : ℕ) → k < n → IsTrue (is_name_byte (get_or (rest_of bytes place) k 0)))
    → (n < length (rest_of bytes place) → IsFalse (is_name_byte (get_or (rest_of bytes place) n 0)))
    → 0 < length (rest_of bytes place) → first ≡ get_or (rest_of bytes place) 0 0 → true ≡ is_name_byte first → IsRun (drop place text) n
run_in text bytes place n first e within names longest some is letter =
    let run : IsRun (rest_of bytes place) n = record {
      within = within;
      names = names;
      longest = longest;
      some = some;
      first = ap is_name_byte (sym is) ∙ sym letter;
    } in
    subst (λ bs. IsRun bs n) (rest_is text bytes place e) run

-- a word at a place of a text
pub run_at : (text : List ℕ) (place n : ℕ) → IsRun (drop place text) n → tokens (drop place text) ≡ word (take n (drop place text)) ∷ tokens (drop (place + n) text)
run_at text place zero run = absurd (false≢true (sym (run.longest run.some) ∙ run.first))
run_at text place (suc n) run =
    run_first (drop place text) n run.within run.names run.longest
    ∙ ap (λ bs. word (take (suc n) (drop place text)) ∷ tokens bs) (drop-drop (suc n) place text)

-- A run ends where a text may be cut.
pub run_ends : (text : List ℕ) (place n : ℕ) → IsUtf8 text → IsRun (drop place text) n → IsCharBoundary text (place + n)
run_ends text place zero utf8 run = absurd (false≢true (sym (run.longest run.some) ∙ run.first))
run_ends text place (suc n) utf8 run =
    let within = run.within in
    let len = length-drop place text in
    let last : get_or text (place + n) 0 < 128 = subst (λ b. b < 128) (get_or-drop place text n 0) (name_ascii _ (run.names n (omega arith))) in
    let end : place + n + 1 ≡ place + suc n = omega arith in
    subst (IsCharBoundary text) end (IsCharBoundary-after_ascii text (place + n) utf8 (omega (arith, within, len)) last)
