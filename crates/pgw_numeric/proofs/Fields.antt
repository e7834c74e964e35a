-- The numbers and the digits of a field are read again, and a piece that has as many bytes as it states begins with a field.
use Rattle.std.proofs.Common.{◌≡◌, ℕ, ℤ, zero, suc, ◌+◌, ◌*◌, ◌<◌, ◌≤◌, ◌^◌, List, [], ◌∷◌, ◌++◌, length, take, drop, w16, refl, sym, ap, ◌∙◌, arith, subst}
use Rattle.std.specs.Prelude.{FitsSigned}
use Rattle.std.specs.List.{AllByRecursion}
use Rattle.std.specs.Int.{to_be_bytes, from_be_bytes, cast_signed}
use Rattle.std.proofs.lemmas.Int.{to_z-of_z, of_z-to_z}
use Rattle.std.proofs.lemmas.List.{take-append-drop, length-take-le, length-drop, drop-drop, get_or-drop}
use Rattle.std.proofs.Math.Facts.{Fits-of_z}
use Rattle.pgw_scalar.specs.Whole.{IsSigned, signed_bytes}
use Rattle.pgw_scalar.proofs.Readers.{IsBytes}
use Rattle.pgw_scalar.proofs.Whole.{size_16, signed_bytes_are}
use Rattle.pgw_scalar.proofs.LeadingFields.{bytes_taken}
use Rattle.pgw_numeric.specs.Numeric.{header_bytes, digit_bytes, HasField, word_at, stated_size, digits_at}

-- The last bytes of bytes are bytes.
pub bytes_dropped : (n : ℕ) (p : List ℕ) → IsBytes p → IsBytes (drop n p)
bytes_dropped n p bytes i = subst (λ (x : ℕ). x < 256) (sym (get_or-drop n p i 0)) (bytes (n + i))

-- the number in the first two bytes, and what stands behind it
word_spelled : (p : List ℕ) → IsBytes p → 2 ≤ length p → to_be_bytes w16 (from_be_bytes w16 (take 2 p)) ++ drop 2 p ≡ p
word_spelled p bytes long =
    ap (λ l. l ++ drop 2 p) (size_16.written (take 2 p) (bytes_taken 2 p bytes) (length-take-le 2 p long)) ∙ take-append-drop 2 p

word_below : (p : List ℕ) → IsBytes p → 2 ≤ length p → from_be_bytes w16 (take 2 p) < 2 ^ 16
word_below p bytes long = size_16.below (take 2 p) (bytes_taken 2 p bytes) (length-take-le 2 p long)

-- the same with a sign
signed_word : (p : List ℕ) → IsBytes p → 2 ≤ length p → IsSigned w16 (take 2 p) (cast_signed w16 (from_be_bytes w16 (take 2 p)))
signed_word p bytes long = signed_bytes_are size_16 (take 2 p) (bytes_taken 2 p bytes) (length-take-le 2 p long)

signed_read : (n : ℤ) → FitsSigned w16 n → cast_signed w16 (from_be_bytes w16 (signed_bytes w16 n)) ≡ n
signed_read n fits = ap (cast_signed w16) (size_16.again _ (Fits-of_z fits).fits) ∙ to_z-of_z w16 n fits

-- Digits have two bytes each,
pub length_digits : (digits : List ℤ) → length (digit_bytes digits) ≡ 2 * length digits
length_digits [] = refl
length_digits (d ∷ digits) = omega (arith, length_digits digits)

-- are as many as are asked for,
pub count_digits : (n : ℕ) (p : List ℕ) → length (digits_at n p) ≡ n
count_digits zero p = refl
count_digits (suc n) p = ap suc (count_digits n (drop 2 p))

-- and are read again.
pub digits_again : (digits : List ℤ) (rest : List ℕ) → AllByRecursion (FitsSigned w16) digits → digits_at (length digits) (digit_bytes digits ++ rest) ≡ digits
digits_again [] rest each = refl
digits_again (d ∷ digits) rest each =
    ap (λ x. x ∷ digits_at (length digits) (digit_bytes digits ++ rest)) (signed_read d each.0) ∙ ap (λ l. d ∷ l) (digits_again digits rest each.1)

-- So many digits that stand in front of bytes.
pub record AreFirst (n : ℕ) (p : List ℕ) : Type 0 where
  pub rest : List ℕ
  pub each : AllByRecursion (FitsSigned w16) (digits_at n p)
  pub is : p ≡ digit_bytes (digits_at n p) ++ rest

pub first_digits : (n : ℕ) (p : List ℕ) → IsBytes p → 2 * n ≤ length p → AreFirst n p
first_digits zero p bytes long = record { rest = p; each = tt; is = refl }
first_digits (suc n) p bytes long =
    let two : 2 ≤ length p = omega (arith, long) in
    let s = signed_word p bytes two in
    let more = first_digits n (drop 2 p) (bytes_dropped 2 p bytes) (omega (arith, long, length-drop 2 p)) in
    record {
      rest = more.rest;
      each = (s.fits, more.each);
      is = sym (take-append-drop 2 p) ∙ ap (λ l. l ++ drop 2 p) s.bytes ∙ ap (λ l. signed_bytes w16 (cast_signed w16 (from_be_bytes w16 (take 2 p))) ++ l) more.is;
    }

-- The numbers in front of the digits are read again.
pub record HasWords (p : List ℕ) (count : ℕ) (weight : ℤ) (sign scale : ℕ) (rest : List ℕ) : Type 0 where
  pub count_is : word_at 0 p ≡ count
  pub weight_is : cast_signed w16 (word_at 2 p) ≡ weight
  pub sign_is : word_at 4 p ≡ sign
  pub scale_is : word_at 6 p ≡ scale
  pub rest_is : drop 8 p ≡ rest
  pub long : length p ≡ 8 + length rest

pub words_read : (p rest : List ℕ) (count : ℕ) (weight : ℤ) (sign scale : ℕ) → count < 2 ^ 16 → FitsSigned w16 weight → sign < 2 ^ 16 → scale < 2 ^ 16
    → p ≡ header_bytes count weight sign scale ++ rest → HasWords p count weight sign scale rest
words_read p rest count weight sign scale few weighs signed scaled is = record {
  count_is = ap (word_at 0) is ∙ size_16.again count few;
  weight_is = ap (λ q. cast_signed w16 (word_at 2 q)) is ∙ signed_read weight weighs;
  sign_is = ap (word_at 4) is ∙ size_16.again sign signed;
  scale_is = ap (word_at 6) is ∙ size_16.again scale scaled;
  rest_is = ap (drop 8) is;
  long = omega (arith, ap length is);
}

-- the number of two bytes behind so many others
word_behind : (place : ℕ) (p : List ℕ) → IsBytes p → place + 2 ≤ length p → drop place p ≡ to_be_bytes w16 (word_at place p) ++ drop (place + 2) p
word_behind place p bytes long =
    sym (word_spelled (drop place p) (bytes_dropped place p bytes) (omega (arith, long, length-drop place p)))
    ∙ ap (λ l. to_be_bytes w16 (word_at place p) ++ l) (drop-drop 2 place p)

word_at_below : (place : ℕ) (p : List ℕ) → IsBytes p → place + 2 ≤ length p → word_at place p < 2 ^ 16
word_at_below place p bytes long = word_below (drop place p) (bytes_dropped place p bytes) (omega (arith, long, length-drop place p))

pub header_spelled : (p : List ℕ) → IsBytes p → 8 ≤ length p → p ≡ header_bytes (word_at 0 p) (cast_signed w16 (word_at 2 p)) (word_at 4 p) (word_at 6 p) ++ drop 8 p
header_spelled p bytes long =
    let count = to_be_bytes w16 (word_at 0 p) in
    let weight = to_be_bytes w16 (word_at 2 p) in
    let sign = to_be_bytes w16 (word_at 4 p) in
    let scale = to_be_bytes w16 (word_at 6 p) in
    word_behind 0 p bytes (omega (arith, long))
    ∙ ap (λ l. count ++ l) (word_behind 2 p bytes (omega (arith, long)))
    ∙ ap (λ l. count ++ weight ++ l) (word_behind 4 p bytes (omega (arith, long)))
    ∙ ap (λ l. count ++ weight ++ sign ++ l) (word_behind 6 p bytes (omega (arith, long)))
    ∙ ap (λ l. count ++ l ++ sign ++ scale ++ drop 8 p) (sym (ap (to_be_bytes w16) (of_z-to_z w16 (word_at 2 p) (word_at_below 2 p bytes (omega (arith, long))))))

-- A piece that has as many bytes as it states begins with a field.
pub field_stated : (p : List ℕ) → IsBytes p → stated_size p ≤ length p → HasField p (cast_signed w16 (word_at 2 p)) (word_at 4 p) (word_at 6 p) (digits_at (word_at 0 p) (drop 8 p))
field_stated p bytes long =
    let count = word_at 0 p in
    let weight = cast_signed w16 (word_at 2 p) in
    let behind = drop 8 p in
    let first = first_digits count behind (bytes_dropped 8 p bytes) (omega (arith, long, length-drop 8 p)) in
    let header = header_bytes count weight (word_at 4 p) (word_at 6 p) in
    record {
      rest = first.rest;
      room = record {
        weighs = (signed_word (drop 2 p) (bytes_dropped 2 p bytes) (omega (arith, long, length-drop 2 p))).fits;
        scaled = word_at_below 6 p bytes (omega (arith, long));
        few = omega (arith, count_digits count behind, word_at_below 0 p bytes (omega (arith, long)));
        each = first.each;
      };
      is = header_spelled p bytes (omega (arith, long)) ∙ ap (λ l. header ++ l) first.is
          ∙ ap (λ n. header_bytes n weight (word_at 4 p) (word_at 6 p) ++ digit_bytes (digits_at count behind) ++ first.rest) (sym (count_digits count behind));
    }
