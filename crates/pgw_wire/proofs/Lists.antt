-- What a list begins with, and what stands behind that.
use Rattle.std.proofs.Common.{◌≡◌, ℕ, ◌+◌, ◌-◌, ◌≤◌, List, ◌++◌, length, take, drop, sym, ap, ◌∙◌, arith, length-append}
use Rattle.std.proofs.Math.Seq.{take-append_seam, drop-append_seam}
use Rattle.std.proofs.lemmas.List.{take-append-drop, drop-drop, length-take-le, take_all}

-- The front of a list that a copy was put in front of is that copy.
pub front_copied : (n : ℕ) (copied xs rest buf : List ℕ) → copied ≡ take n xs → buf ≡ copied ++ rest → n ≤ length xs → take n buf ≡ take n xs
front_copied n copied xs rest buf e is fits =
    ap (take n) is ∙ ap (λ k. take k (copied ++ rest)) (sym (length-take-le n xs fits) ∙ ap length (sym e)) ∙ take-append_seam copied rest ∙ e

-- What is taken next and what is left behind it are what was left.
pub drop_more : (t n : ℕ) (xs front : List ℕ) → front ≡ take n (drop t xs) → drop t xs ≡ front ++ drop (t + n) xs
drop_more t n xs front e =
    sym (take-append-drop n (drop t xs)) ∙ ap (λ l. l ++ drop n (drop t xs)) (sym e) ∙ ap (λ l. front ++ l) (drop-drop n t xs)

-- Two lists that begin with lists of one length begin with the same list, and go on alike.
pub same_front : (a b x y : List ℕ) → length a ≡ length b → a ++ x ≡ b ++ y → a ≡ b
same_front a b x y n e = sym (take-append_seam a x) ∙ ap (take (length a)) e ∙ ap (λ k. take k (b ++ y)) n ∙ take-append_seam b y

pub same_rest : (a b x y : List ℕ) → length a ≡ length b → a ++ x ≡ b ++ y → x ≡ y
same_rest a b x y n e = sym (drop-append_seam a x) ∙ ap (drop (length a)) e ∙ ap (λ k. drop k (b ++ y)) n ∙ drop-append_seam b y

-- the piece in front
pub take_piece : (n : ℕ) (piece rest : List ℕ) → length piece ≡ n → take n (piece ++ rest) ≡ piece
take_piece n piece rest long = ap (λ k. take k (piece ++ rest)) (sym long) ∙ take-append_seam piece rest

-- what was appended, cut out from where it begins
pub tail_of : (bytes old x : List ℕ) (start : ℕ) → bytes ≡ old ++ x → start ≡ length old → take (length bytes - start) (drop start bytes) ≡ x
tail_of bytes old x start e s =
    let d : drop start bytes ≡ x = ap (λ k. drop k bytes) s ∙ ap (drop (length old)) e ∙ drop-append_seam old x in
    take_all (length bytes - start) (drop start bytes) (omega (arith, ap length d, ap length e, length-append old x, s)) ∙ d
