-- The fields of a row, taken apart.
use Rattle.std.proofs.Common.{◌≡◌, ℕ, ◌<◌, ◌≤◌, ◌^◌, List, [], ◌∷◌, ◌++◌, length, None, Some, refl, sym, ap, ◌∙◌, arith, append_assoc, append-nil, length-append, subst, inl, inr, ◌⊎◌, lit<}
use Rattle.std.proofs.Math.Nat.{eq-or-lt_of_le}
use Rattle.std.specs.Int.{to_be_bytes, w32}
use Rattle.pgw_wire.specs.Cell.{Cell}
use Rattle.pgw_copy.specs.Format.{IsField, AreFields}
use Rattle.pgw_copy.specs.Reader.{IsCutField, AreCutFields, AreWholeFields}
use Rattle.pgw_wire.proofs.Lists.{same_front, same_rest}
use Rattle.pgw_wire.proofs.Numbers.{same_number_4}

-- what a length says of the cell and of the bytes behind it
abbrev pub Says : ℕ → Cell → List ℕ → Type 0
Says word None behind = (2 ^ 31 ≤ word) × (behind ≡ [])
Says word (Some p) behind = (word < 2 ^ 31) × (word ≡ length p) × (behind ≡ p)

-- a field is a length, and what it says
pub record IsLengthFirst (cell : Cell) (field : List ℕ) : Type 0 where
  pub word : ℕ
  pub behind : List ℕ
  pub fits : word < 2 ^ 32
  pub is : field ≡ to_be_bytes w32 word ++ behind
  pub says : Says word cell behind

pub length_first : (cell : Cell) (field : List ℕ) → IsField cell field → IsLengthFirst cell field
length_first None field h = record { word = h.0; behind = []; fits = h.2; is = h.3 ∙ sym (append-nil (to_be_bytes w32 h.0)); says = (h.1, refl) }
length_first (Some p) field h = record { word = length p; behind = p; fits = omega (arith, h.0); is = h.1; says = (h.0, refl, refl) }

-- A field begins with its length.
pub begins_length : (cell : Cell) (field : List ℕ) → IsField cell field → (x : List ℕ) × (y : List ℕ) × (length x ≡ 4) × (field ≡ x ++ y)
begins_length cell field h = let f = length_first cell field h in (to_be_bytes w32 f.word, f.behind, refl, f.is)

-- Bytes that begin with a length and with a field begin with the field's length.
pub same_length : (word : ℕ) (x behind rest field : List ℕ) (f : (cell : Cell) × IsLengthFirst cell field) → word < 2 ^ 32 → x ≡ to_be_bytes w32 word → x ++ behind ≡ field ++ rest → word ≡ f.1.word
same_length word x behind rest field f fits is e =
    same_number_4 word f.1.word fits f.1.fits (same_front (to_be_bytes w32 word) (to_be_bytes w32 f.1.word) behind (f.1.behind ++ rest) refl
    (ap (λ l. l ++ behind) (sym is) ∙ e ∙ ap (λ l. l ++ rest) f.1.is ∙ append_assoc (to_be_bytes w32 f.1.word) f.1.behind rest))

said_piece : (word : ℕ) (cell : Cell) (behind : List ℕ) → word < 2 ^ 31 → Says word cell behind → (cell ≡ Some behind) × (length behind ≡ word)
said_piece word None behind short says = absurd (omega (arith, short, says.0))
said_piece word (Some p) behind short says = (ap Some (sym says.2), ap length says.2 ∙ sym says.1)

-- A field that begins with a length that isn't negative is that of a piece, which has as many bytes as it states.
pub field_piece : (word : ℕ) (x behind front rest : List ℕ) (cell : Cell) → word < 2 ^ 31 → x ≡ to_be_bytes w32 word → IsField cell front → x ++ behind ≡ front ++ rest → (y : List ℕ) × (cell ≡ Some y) × (length y ≡ word) × (front ≡ x ++ y)
field_piece word x behind front rest cell short is h e =
    let f = length_first cell front h in
    let same = same_length word x behind rest front (cell, f) (omega (arith, short)) is e in
    let said = said_piece word cell f.behind short (subst (λ (n : ℕ). Says n cell f.behind) (sym same) f.says) in (
      f.behind,
      said.0,
      said.1,
      f.is ∙ ap (λ n. to_be_bytes w32 n ++ f.behind) (sym same) ∙ ap (λ l. l ++ f.behind) (sym is),
    )

-- A length and a piece of that length are the piece's field.
pub field_of_piece : (word : ℕ) (x y : List ℕ) → word < 2 ^ 31 → x ≡ to_be_bytes w32 word → length y ≡ word → IsField (Some y) (x ++ y)
field_of_piece word x y short is long =
    (subst (λ (n : ℕ). n < 2 ^ 31) (sym long) short, ap (λ l. l ++ y) (is ∙ ap (to_be_bytes w32) (sym long)))

pieces_once : (word : ℕ) (c c' : Cell) (b b' behind rest : List ℕ) → Says word c b → Says word c' b' → b ++ behind ≡ b' ++ rest → b ≡ b'
pieces_once word None None b b' behind rest s s' e = s.1 ∙ sym s'.1
pieces_once word None (Some p') b b' behind rest s s' e = absurd (omega (arith, s.0, s'.0))
pieces_once word (Some p) None b b' behind rest s s' e = absurd (omega (arith, s.0, s'.0))
pieces_once word (Some p) (Some p') b b' behind rest s s' e = same_front b b' behind rest (ap length s.2 ∙ sym s.1 ∙ s'.1 ∙ sym (ap length s'.2)) e

-- No field begins another: bytes begin with one field at most.
pub field_once : (c c' : Cell) (x x' behind rest : List ℕ) → IsField c x → IsField c' x' → x ++ behind ≡ x' ++ rest → x ≡ x'
field_once c c' x x' behind rest h h' e =
    let f = length_first c x h in
    let f' = length_first c' x' h' in
    let whole = ap (λ l. l ++ behind) (sym f.is) ∙ e ∙ ap (λ l. l ++ rest) f'.is in
    let whole' = sym (append_assoc (to_be_bytes w32 f.word) f.behind behind) ∙ whole ∙ append_assoc (to_be_bytes w32 f'.word) f'.behind rest in
    let words = same_number_4 f.word f'.word f.fits f'.fits (same_front (to_be_bytes w32 f.word) (to_be_bytes w32 f'.word) (f.behind ++ behind) (f'.behind ++ rest) refl whole') in
    let behinds = same_rest (to_be_bytes w32 f.word) (to_be_bytes w32 f'.word) (f.behind ++ behind) (f'.behind ++ rest) refl whole' in
    let pieces = pieces_once f'.word c c' f.behind f'.behind behind rest (subst (λ (n : ℕ). Says n c f.behind) words f.says) f'.says behinds in
    f.is ∙ ap (λ n. to_be_bytes w32 n ++ f.behind) words ∙ ap (λ l. to_be_bytes w32 f'.word ++ l) pieces ∙ sym f'.is

-- A field has the four bytes of its length.
pub short_field : (bytes : List ℕ) → length bytes < 4 → IsCutField bytes
short_field bytes short cell field behind h e =
    let b = begins_length cell field h in
    omega (arith, short, ap length e, length-append field behind, ap length b.3, length-append b.0 b.1, b.2)

-- A field that states more bytes than there are ends too early.
pub short_piece : (word : ℕ) (x y : List ℕ) → word < 2 ^ 31 → x ≡ to_be_bytes w32 word → length y < word → IsCutField (x ++ y)
short_piece word x y low is short cell field behind h e =
    let p = field_piece word x y field behind cell low is h e in
    omega (arith, short, ap length e, length-append x y, length-append field behind, ap length p.3, length-append x p.0, p.2)

-- Fields, and then the beginning of one, are not so many fields and one more.
pub cut_behind : (cells others : List Cell) (x y fields behind : List ℕ) → length cells < length others → AreFields cells x → IsCutField y → AreFields others fields → x ++ y ≡ fields ++ behind → ⊥
cut_behind [] [] x y fields behind more each cut each' e = omega (arith, more)
cut_behind [] (o ∷ os) x y fields behind more each cut each' e =
    cut o each'.0 (each'.1 ++ behind) each'.2 (ap (λ l. l ++ y) (sym each) ∙ e ∙ ap (λ l. l ++ behind) each'.4 ∙ append_assoc each'.0 each'.1 behind)
cut_behind (c ∷ cs) [] x y fields behind more each cut each' e = omega (arith, more)
cut_behind (c ∷ cs) (o ∷ os) x y fields behind more each cut each' e =
    let whole = sym (append_assoc each.0 each.1 y) ∙ ap (λ l. l ++ y) (sym each.4) ∙ e ∙ ap (λ l. l ++ behind) each'.4 ∙ append_assoc each'.0 each'.1 behind in
    let first = field_once c o each.0 each'.0 (each.1 ++ y) (each'.1 ++ behind) each.2 each'.2 whole in
    cut_behind cs os each.1 y each'.1 behind (omega (arith, more)) each.3 cut each'.3 (same_rest each.0 each'.0 (each.1 ++ y) (each'.1 ++ behind) (ap length first) whole)

pub cut_fields : (count : ℕ) (cells : List Cell) (x y : List ℕ) → length cells < count → AreFields cells x → IsCutField y → AreCutFields count (x ++ y)
cut_fields count cells x y more each cut others fields behind many each' e = cut_behind cells others x y fields behind (omega (arith, more, many)) each cut each' e

-- one field more behind the others
pub fields_append : (cells : List Cell) (c : Cell) (x y : List ℕ) → AreFields cells x → IsField c y → AreFields (cells ++ (c ∷ [])) (x ++ y)
fields_append [] c x y each field = (y, [], field, refl, ap (λ l. l ++ y) each ∙ sym (append-nil y))
fields_append (d ∷ ds) c x y each field =
    (each.0, each.1 ++ y, each.2, fields_append ds c each.1 y each.3 field, ap (λ l. l ++ y) each.4 ∙ append_assoc each.0 each.1 y)

-- Fields, and one more, are all of so many, or fewer.
pub whole_fields : (count : ℕ) (cells : List Cell) (c : Cell) (x y : List ℕ) → length cells < count → AreFields cells x → IsField c y → AreCutFields count (x ++ y) ⊎ AreWholeFields count (x ++ y)
whole_fields count cells c x y more each field = by_number (eq-or-lt_of_le within)
  where
    all : AreFields (cells ++ (c ∷ [])) (x ++ y)
    all = fields_append cells c x y each field

    within : length (cells ++ (c ∷ [])) ≤ count
    within = omega (arith, more, length-append cells (c ∷ []))

    by_number : (length (cells ++ (c ∷ [])) ≡ count) ⊎ (length (cells ++ (c ∷ [])) < count) → AreCutFields count (x ++ y) ⊎ AreWholeFields count (x ++ y)
    by_number (inl many) = inr (cells ++ (c ∷ []), many, all)
    by_number (inr fewer) = inl (subst (λ (l : List ℕ). AreCutFields count l) (append-nil (x ++ y)) (cut_fields count (cells ++ (c ∷ [])) (x ++ y) [] fewer all (short_field [] (omega arith))))

-- Where nothing was taken, no field is whole, or none had to come.
pub no_fields : (count : ℕ) → AreCutFields count [] ⊎ AreWholeFields count []
no_fields count = by_number (eq-or-lt_of_le within)
  where
    within : 0 ≤ count
    within = omega arith

    by_number : (0 ≡ count) ⊎ (0 < count) → AreCutFields count [] ⊎ AreWholeFields count []
    by_number (inl none) = inr ([], none, refl)
    by_number (inr some) = inl (cut_fields count [] [] [] some refl (short_field [] (lit< tt)))
