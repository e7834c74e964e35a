-- Big-endian numbers and the bytes that they are read from.
use Rattle.std.proofs.Common.{◌≡◌, ℕ, ◌<◌, ◌^◌, List, [], ◌∷◌, ◌++◌, length, refl, sym, ap, ◌∙◌, arith, length-append, append-nil}
use Rattle.std.specs.Int.{to_be_bytes, from_be_bytes, w16, w32}
use Rattle.std.proofs.lemmas.Nat.{from_be_bytes-to_be_bytes_2, from_be_bytes-to_be_bytes_4}

empty : (xs : List ℕ) → length xs ≡ 0 → xs ≡ []
empty [] e = refl
empty (x ∷ xs) e = absurd (omega (arith, e))

-- Bytes that a number of four bytes is in front of, and that are four, are that number's.
pub whole_4 : (bytes rest : List ℕ) (n : ℕ) → bytes ≡ to_be_bytes w32 n ++ rest → length bytes ≡ 4 → bytes ≡ to_be_bytes w32 n
whole_4 bytes rest n is four =
    let none : rest ≡ [] = empty rest (omega (arith, four, ap length is, length-append (to_be_bytes w32 n) rest)) in
    is ∙ ap (λ r. to_be_bytes w32 n ++ r) none ∙ append-nil (to_be_bytes w32 n)

-- the same of two bytes
pub whole_2 : (bytes rest : List ℕ) (n : ℕ) → bytes ≡ to_be_bytes w16 n ++ rest → length bytes ≡ 2 → bytes ≡ to_be_bytes w16 n
whole_2 bytes rest n is two =
    let none : rest ≡ [] = empty rest (omega (arith, two, ap length is, length-append (to_be_bytes w16 n) rest)) in
    is ∙ ap (λ r. to_be_bytes w16 n ++ r) none ∙ append-nil (to_be_bytes w16 n)

-- Numbers with the same bytes are the same.
pub same_number_2 : (m n : ℕ) → m < 2 ^ 16 → n < 2 ^ 16 → to_be_bytes w16 m ≡ to_be_bytes w16 n → m ≡ n
same_number_2 m n fm fn e = sym (from_be_bytes-to_be_bytes_2 m fm) ∙ ap (from_be_bytes w16) e ∙ from_be_bytes-to_be_bytes_2 n fn

pub same_number_4 : (m n : ℕ) → m < 2 ^ 32 → n < 2 ^ 32 → to_be_bytes w32 m ≡ to_be_bytes w32 n → m ≡ n
same_number_4 m n fm fn e = sym (from_be_bytes-to_be_bytes_4 m fm) ∙ ap (from_be_bytes w32) e ∙ from_be_bytes-to_be_bytes_4 n fn
