-- What is found among rows as they lie in memory is found among their cells.
use Rattle.std.proofs.Common.{ℕ, zero, suc, ◌<◌, List, [], ◌∷◌, length, map, Option, Some, None, MatchOption, arith, All}
use Rattle.std.specs.List.{AllWithin, HoldsAt, slice_index_or}
use Rattle.std.proofs.lemmas.List.{length-map}

-- what holds of the image of an element, whichever one is read past the end, holds of the element of the image
at_map : {X Y : Type 0} (f : X → Y) (P : Y → Type 0) (xs : List X) (k : ℕ) (d : Y) → k < length xs
    → ((e : X) → P (f (slice_index_or xs k e))) → P (slice_index_or (map f xs) k d)
at_map f P [] k d within h = absurd (omega (arith, within))
at_map f P (x ∷ xs) zero d within h = h x
at_map f P (x ∷ xs) (suc k) d within h = at_map f P xs k d (omega (arith, within)) h

-- the first of the images, as of the elements
pub first_of_images : {X Y : Type 0} (f : X → Y) (Yes No : Y → Type 0) (xs : List X) (r : Option ℕ)
    → MatchOption r (AllWithin (λ x. No (f x)) xs 0 (length xs)) (λ i. (i < length xs) × HoldsAt (λ x. Yes (f x)) xs i × AllWithin (λ x. No (f x)) xs 0 i)
    → MatchOption r (All No (map f xs)) (λ i. (i < length (map f xs)) × HoldsAt Yes (map f xs) i × AllWithin No (map f xs) 0 i)
first_of_images f Yes No xs None h = λ k d within.
    let inside : k < length xs = omega (arith, within, length-map xs f) in
    at_map f No xs k d inside (λ e. h k e (omega arith) inside)
first_of_images f Yes No xs (Some i) h =
    (omega (arith, h.0, length-map xs f), (λ d. at_map f Yes xs i d h.0 h.1), (λ k d low below. at_map f No xs k d (omega (arith, below, h.0)) (λ e. h.2 k e low below)))
