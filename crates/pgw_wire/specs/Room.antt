-- What contracts see of a buffer.
use Rattle.std.specs.Prelude.{ℕ, ◌+◌, List, ◌++◌, length, take, drop, refl}
use Rattle.std.specs.Coded.{Coded, code_by, coded×, coded_ℕ, coded_list}

-- its bytes, and how many more it takes without asking for memory
pub record Room : Type 0 where
  pub bytes : List ℕ
  pub spare : ℕ

abbrev pub room_code : Coded Room
room_code =
    code_by (List ℕ × ℕ) (coded× (coded_list coded_ℕ) coded_ℕ) (λ r. (r.bytes, r.spare))
    (λ p. record { bytes = p.0; spare = p.1 }) (λ _. refl)

-- the bytes from a place on are these, and all others are as before
abbrev pub overwritten : List ℕ → ℕ → List ℕ → List ℕ
overwritten bytes place piece = take place bytes ++ piece ++ drop (place + length piece) bytes
