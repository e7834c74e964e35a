-- What is cut from a field: a length, and a piece of this length.
use Rattle.std.proofs.Common.{◌≡◌, ◌≢◌, ◌⊎◌, inl, inr, ℕ, ◌<◌, ◌^◌, ℤ, Bool, true, false, List, ◌++◌, length, Some, Fits, sym, ap, ◌∙◌, arith}
use Rattle.std.proofs.lemmas.Int.{to_z-of_z}
use Rattle.std.proofs.Math.Facts.{sfits_to_z}
use Rattle.std.specs.Int.{w32, to_be_bytes, cast_signed}
use Rattle.pgw_wire.specs.Cell.{frame}
use Rattle.pgw_wire.specs.declared.sql_error.SqlError.{SqlError}
use Rattle.pgw_nested.specs.Frames.{HasNoFrame, negative_length, past_the_end, HasNoPiece}
use mir.Val.{to_z, of_z}

-- A number without sign, told as one with sign, is told so again.
pub told_again : (n : ℕ) (z : ℤ) → n < 2 ^ 32 → z ≡ cast_signed w32 n → to_z w32 (of_z w32 z) ≡ cast_signed w32 n
told_again n z fits is =
    let f : Fits w32 n = record { fits = fits } in
    ap (λ (x : ℤ). to_z w32 (of_z w32 x)) is ∙ to_z-of_z w32 (cast_signed w32 n) (sfits_to_z f)

-- Where a length of -1 was not taken for a null.
pub no_null_length : (nulls : Bool) (n : ℕ) → ((nulls ≡ true) × (n ≡ 4294967295 → ⊥)) ⊎ (nulls ≡ false) → nulls ≡ true → n ≢ 4294967295
no_null_length nulls n (inl w) null = w.1
no_null_length nulls n (inr w) null = absurd (cc)

pub no_piece : (nulls : Bool) (n : ℕ) (bytes rest : List ℕ) (e : SqlError) → bytes ≡ to_be_bytes w32 n ++ rest → n < 2 ^ 32 → (nulls ≡ true → n ≢ 4294967295) → HasNoPiece n rest e → HasNoFrame nulls bytes e
no_piece nulls n bytes rest e is fits other (inl h) = negative_length n rest is h.0 fits other h.1
no_piece nulls n bytes rest e is fits other (inr h) = past_the_end n rest is h.0 h.1 h.2

pub piece_framed : (n : ℕ) (bytes rest piece behind : List ℕ) → bytes ≡ to_be_bytes w32 n ++ rest → (n < 2147483648) × (length piece ≡ n) × (rest ≡ piece ++ behind)
    → (length piece < 2147483648) × (bytes ≡ frame (Some piece) ++ behind)
piece_framed n bytes rest piece behind is h =
    (omega (arith, h.0, h.1), is ∙ ap (λ (x : List ℕ). to_be_bytes w32 n ++ x) h.2 ∙ ap (λ (m : ℕ). to_be_bytes w32 m ++ (piece ++ behind)) (sym h.1))
