-- Fields of one size.
use Rattle.std.proofs.Common.{◌≡◌, ◌<◌, ◌≤◌, ◌+◌, ◌*◌, ℕ, zero, suc, List, [], ◌∷◌, ◌++◌, length, map, take, drop, get_or, Some, refl, sym, ap, ◌∙◌, arith, subst, length-take, length-drop, false, Option, None, IfSome, Bor}
use Rattle.std.specs.Int.{to_be_bytes, w32}
use Rattle.std.specs.List.{AllByRecursion}
use Rattle.std.specs.Simd.{first_chunks}
use Rattle.std.proofs.lemmas.List.{take-append-drop, length-map}
use Rattle.pgw_wire.specs.Cell.{frame}
use Rattle.pgw_scalar.proofs.Readers.{IsBytes}
use Rattle.pgw_scalar.proofs.Whole.{size_32}
use Rattle.pgw_nested.specs.Array.{any_null}
use Rattle.pgw_nested.specs.Frames.{frames}
use Rattle.pgw_cell.specs.Equal.{AreEqualFields, length_word}
use Rattle.pgw_cell.specs.Plain.{Passes, PassesElement, ArePlainElements}
use Rattle.pgw_cell.specs.declared.plain.PlainElement.{PlainElement}
use Rattle.pgw_cell.proofs.PlainFields.{bytes_left, bytes_right}

-- how many bytes a field of a piece of this size has
abbrev field_size : ℕ → ℕ
field_size size = suc (suc (suc (suc size)))

-- A field at the front whose length is the size.
record IsFieldOf (size : ℕ) (xs : List ℕ) : Type 0 where
  pub piece : List ℕ
  pub many : length piece ≡ size
  pub is : take (field_size size) xs ≡ frame (Some piece)

field_of : (size : ℕ) (xs : List ℕ) → IsBytes xs → field_size size ≤ length xs → length_word (take (field_size size) xs) ≡ size → IsFieldOf size xs
field_of size (a ∷ b ∷ c ∷ d ∷ ys) bytes many word =
    let piece = take size ys in
    let long : length piece ≡ size = length-take size ys ∙ omega (arith, many) in
    let word_bytes : IsBytes (a ∷ b ∷ c ∷ d ∷ []) = bytes_left (a ∷ b ∷ c ∷ d ∷ []) ys bytes in
    let first : to_be_bytes w32 size ≡ a ∷ b ∷ c ∷ d ∷ [] = ap (to_be_bytes w32) (sym word) ∙ size_32.written (a ∷ b ∷ c ∷ d ∷ []) word_bytes refl in
    record { piece = piece; many = long; is = ap (λ w. w ++ piece) (sym (ap (to_be_bytes w32) long ∙ first)) }
field_of size [] bytes many word = absurd (omega (arith, many))
field_of size (a ∷ []) bytes many word = absurd (omega (arith, many))
field_of size (a ∷ b ∷ []) bytes many word = absurd (omega (arith, many))
field_of size (a ∷ b ∷ c ∷ []) bytes many word = absurd (omega (arith, many))

-- All bytes are fields of the size.
record AreAllFields (size count : ℕ) (bytes : List ℕ) : Type 0 where
  pub pieces : List (List ℕ)
  pub many : length pieces ≡ count
  pub each : AllByRecursion (λ p. length p ≡ size) pieces
  pub is : bytes ≡ frames (map Some pieces)

nothing_left : (xs : List ℕ) → length xs ≡ 0 → xs ≡ []
nothing_left [] e = refl
nothing_left (x ∷ xs) e = absurd (omega (arith, e))

one_and_others : (size count : ℕ) → suc count * field_size size ≡ field_size size + count * field_size size
one_and_others size count = omega arith

fields_of : (size count : ℕ) (xs : List ℕ) → IsBytes xs → length xs ≡ count * field_size size → AllByRecursion (λ f. length_word f ≡ size) (first_chunks (field_size size) count xs) → AreAllFields size count xs
fields_of size zero xs bytes many each = record { pieces = []; many = refl; each = tt; is = nothing_left xs (omega (arith, many)) }
fields_of size (suc count) xs bytes many each =
    let n = field_size size in
    let long = many ∙ one_and_others size count in
    let enough : n ≤ length xs = omega (arith, long) in
    let both = sym (take-append-drop n xs) in
    let rest = drop n xs in
    let one = field_of size xs bytes enough each.0 in
    let others = fields_of size count rest (bytes_right (take n xs) rest (subst IsBytes both bytes)) (omega (arith, long, length-drop n xs)) each.1 in
    record {
      pieces = one.piece ∷ others.pieces;
      many = ap suc others.many;
      each = (one.many, others.each);
      is = both ∙ ap (λ l. l ++ rest) one.is ∙ ap (λ l. frame (Some one.piece) ++ l) others.is;
    }

pub equal_fields : (size n count : ℕ) (bytes fields rest : List ℕ) → n ≡ 4 + size → IsBytes bytes → bytes ≡ fields ++ rest → length fields ≡ count * n → AllByRecursion (λ f. length_word f ≡ size) (first_chunks n count fields) → AreEqualFields size count bytes rest
equal_fields size n count bytes fields rest same byte is many each =
    let as_many : n ≡ field_size size = omega (arith, same) in
    let h = fields_of size count fields (bytes_left fields rest (subst IsBytes is byte)) (subst (λ (k : ℕ). length fields ≡ count * k) as_many many) (subst (λ (k : ℕ). AllByRecursion (λ f. length_word f ≡ size) (first_chunks k count fields)) as_many each) in
    record { pieces = h.pieces; many = h.many; each = h.each; is = is ∙ ap (λ l. l ++ rest) h.is }

-- One more field was looked at.
more : (size : ℕ) (fields : List (List ℕ)) (i : ℕ) (field : List ℕ) → AllByRecursion (λ f. length_word f ≡ size) (take i fields) → i < length fields → field ≡ get_or fields i [] → length_word field ≡ size
    → AllByRecursion (λ f. length_word f ≡ size) (take (suc i) fields)
more size [] i field all small is word = absurd (omega (arith, small))
more size (f ∷ fields) zero field all small is word = (ap length_word (sym is) ∙ word, tt)
more size (f ∷ fields) (suc i) field all small is word = (all.0, more size fields i field all.1 (omega (arith, small)) is word)

pub one_more : (size : ℕ) (fields : List (List ℕ)) (i : ℕ) (field : List ℕ) → AllByRecursion (λ f. length_word f ≡ size) (take i fields) → i < length fields → field ≡ get_or fields i [] → length_word field ≡ size
    → AllByRecursion (λ f. length_word f ≡ size) (take (i + 1) fields)
one_more size fields i field all small is word =
    let next : suc i ≡ i + 1 = omega arith in subst (λ (n : ℕ). AllByRecursion (λ f. length_word f ≡ size) (take n fields)) next (more size fields i field all small is word)

-- ---- elements of arrays

no_null : (pieces : List (List ℕ)) → false ≡ any_null (map Some pieces)
no_null [] = refl
no_null (p ∷ pieces) = no_null pieces

all_pass : (e : PlainElement) (size : ℕ) → ((p : List ℕ) → length p ≡ size → Passes e.rule p) → size ≤ 16 → (pieces : List (List ℕ)) → AllByRecursion (λ p. length p ≡ size) pieces → AllByRecursion (PassesElement e) (map Some pieces)
all_pass e size pass small [] each = tt
all_pass e size pass small (p ∷ pieces) each = ((pass p each.0, omega (arith, each.0, small)), all_pass e size pass small pieces each.1)

-- Where each piece of the size passes, elements of that size do.
pub equal_passed : (e : PlainElement) (size count : ℕ) (bytes : List ℕ) (r : Option (Bor (List ℕ))) → ((p : List ℕ) → length p ≡ size → Passes e.rule p) → size ≤ 16 → IfSome r (λ rest. AreEqualFields size count bytes rest.now)
    → IfSome r (λ rest. ArePlainElements e count bytes false rest.now)
equal_passed e size count bytes None pass small h = tt
equal_passed e size count bytes (Some rest) pass small h = record {
  cells = map Some h.pieces;
  many = length-map h.pieces Some ∙ h.many;
  is = h.is;
  nulls = no_null h.pieces;
  pass = all_pass e size pass small h.pieces h.each;
}
