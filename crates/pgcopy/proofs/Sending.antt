-- How what a sink got in several calls makes what it got in all.
use Rattle.std.proofs.Common.{◌≡◌, ℕ, ◌<◌, List, ◌∷◌, ◌++◌, length, length-append, length-drop, get_or, take, drop, drop-cons, sym, ap, ◌∙◌, append_assoc, arith, suc, inl, inr}
use Rattle.std.specs.List.{flat_map}
use Rattle.std.proofs.lemmas.List.{take-append-drop}
use Rattle.std.proofs.lemmas.Grind.{flat_map-append}
use Rattle.pgw_wire.specs.Outside.{SinkState, HasFailed, Wrote, Gains}
use Rattle.pgw_wire.proofs.Adding.{wrote_then, wrote_gains}
use Rattle.pgcopy.specs.Report.{WroteUnlessFailed}

-- all pieces, cut at one of them
pub flat_map-cut : {X : Type 0} (f : X → List ℕ) (xs : List X) (i : ℕ) (d : X) → i < length xs → flat_map f xs ≡ flat_map f (take i xs) ++ (f (get_or xs i d) ++ flat_map f (drop (suc i) xs))
flat_map-cut f xs i d within =
    ap (flat_map f) (sym (take-append-drop i xs) ∙ ap (λ l. take i xs ++ l) (drop-cons xs i d within)) ∙ flat_map-append f (take i xs) (get_or xs i d ∷ drop (suc i) xs)

-- Some bytes were written, and then the sink failed in the piece behind them.
pub wrote_part : {O : Type 0} {a b c : SinkState O} {first : List ℕ} (piece rest bytes : List ℕ) (n : ℕ) → Wrote a b first → Wrote b c (take n piece) → n < length piece → HasFailed b c → bytes ≡ first ++ (piece ++ rest) → WroteUnlessFailed a c bytes
wrote_part {first = first} piece rest bytes n w part short failed is = inr (
  record {
    front = first ++ take n piece;
    rest = drop n piece ++ rest;
    is = is ∙ ap (λ l. first ++ (l ++ rest)) (sym (take-append-drop n piece)) ∙ ap (λ l. first ++ l) (append_assoc (take n piece) (drop n piece) rest) ∙ sym (append_assoc first (take n piece) (drop n piece ++ rest));
    missing = omega (arith, short, length-drop n piece, length-append (drop n piece) rest);
    written = wrote_then w part;
  },
  omega (arith, w.goes_on.0, failed),
)

-- Whether all was written or a front, the sink has what it had, and what was written behind it.
pub line_gained : {O : Type 0} {a b : SinkState O} {bytes : List ℕ} → WroteUnlessFailed a b bytes → Gains a b
line_gained (inl w) = wrote_gains w
line_gained (inr f) = wrote_gains f.0.written
