-- What a lent writer tells behind its calls.
use Rattle.std.proofs.Common.{◌≡◌, ◌∙◌, ℕ, ◌+◌, ◌-◌, ◌≤◌, List, ◌++◌, length, length-append, take, Option, None, Some, refl, ap, arith}
use Rattle.std.proofs.lemmas.List.{length-take-le}
use Rattle.std.specs.Io.KnownBytes.{Appends, Keeps}
use Rattle.pgcopy.specs.Lent.{marked}

-- A call that takes nothing keeps what a lent writer tells.
pub marked_kept : (name again passed passed_now : ℕ) (a b : Option (List ℕ)) → again ≡ name → passed_now ≡ passed → Keeps a b → Keeps (marked name passed a) (marked again passed_now b)
marked_kept name again passed passed_now None b same count h = tt
marked_kept name again passed passed_now (Some xs) None same count h = absurd h
marked_kept name again passed passed_now (Some xs) (Some ys) same count h = rw (same, count, h) refl

same_base : (xs bytes : List ℕ) (passed n : ℕ) → length bytes ≡ n → length (xs ++ bytes) - (passed + n) ≡ length xs - passed
same_base xs bytes passed n h = omega (arith, h, length-append xs bytes)

-- One that takes some bytes, behind calls that took none, counts them.
pub marked_write : (name again passed passed_mid n : ℕ) (a b c : Option (List ℕ)) (piece : List ℕ) → again ≡ name → passed_mid ≡ passed → n ≤ length piece → Keeps a b → Appends b c (take n piece) → Appends (marked name passed a) (marked again (passed_mid + n) c) (take n piece)
marked_write name again passed passed_mid n None b c piece same count within k h = tt
marked_write name again passed passed_mid n (Some xs) None c piece same count within k h = absurd k
marked_write name again passed passed_mid n (Some xs) (Some ys) None piece same count within k h = absurd h
marked_write name again passed passed_mid n (Some xs) (Some ys) (Some zs) piece same count within k h =
    let is : zs ≡ xs ++ take n piece = h ∙ ap (λ l. l ++ take n piece) k in
    rw (same, count, is, same_base xs (take n piece) passed n (length-take-le n piece within)) refl
