-- What the definitions say of results that are written out.
use Rattle.std.proofs.Common.{◌≡◌, ℕ, zero, suc, ◌<◌, ◌≤◌, List, [], ◌∷◌, length, None, Some, codes, refl, arith, lit<}
use Rattle.std.specs.List.{slice_index_or}
use Rattle.pgw_wire.specs.Cell.{Cell}
use Rattle.pgw_row.specs.Results.{IsFirstRagged, cell_at, SaysCount}

-- two cells, one, and none
abbrev rows : List (List Cell)
rows = (Some (7 ∷ []) ∷ None ∷ []) ∷ (Some [] ∷ []) ∷ [] ∷ []

-- of two columns, the row of one cell is the first that is ragged
ragged : IsFirstRagged 2 rows 1
ragged = (lit< tt, (λ d e. omega (arith, e)), before)
  where
    before : (k : ℕ) (d : List Cell) → 0 ≤ k → k < 1 → length (slice_index_or rows k d) ≡ 2
    before zero d low below = refl
    before (suc k) d low below = absurd (omega (arith, below))

-- where the first row is, no later one is the first
no_later : IsFirstRagged 2 rows 2 → ⊥
no_later h = omega (arith, h.2 1 [] (omega arith) (omega arith))

-- a piece, a null, an empty piece, and what stands past a row's last cell or past the last row
piece : cell_at rows 0 0 ≡ Some (7 ∷ [])
piece = refl

null : cell_at rows 0 1 ≡ None
null = refl

empty_piece : cell_at rows 1 0 ≡ Some []
empty_piece = refl

past_the_cells : cell_at rows 0 2 ≡ None
past_the_cells = refl

past_the_rows : cell_at rows 3 0 ≡ None
past_the_rows = refl

-- counts: no text, digits, digits behind a plus, and zeros in front
no_text : SaysCount [] 0
no_text = refl

twelve : SaysCount (codes "12") 12
twelve = ((lit< tt, (lit< tt, (lit< tt, tt))), refl, lit< tt)

behind_plus : SaysCount (codes "+12") 12
behind_plus = ((lit< tt, (lit< tt, (lit< tt, tt))), refl, lit< tt)

zeros_in_front : SaysCount (codes "007") 7
zeros_in_front = ((lit< tt, (lit< tt, (lit< tt, (lit< tt, tt)))), refl, lit< tt)

-- a plus alone, a minus, a letter, and a number past the last are no count
plus_alone : (n : ℕ) → SaysCount (codes "+") n → ⊥
plus_alone n h = omega (arith, h.0.0)

behind_minus : (n : ℕ) → SaysCount (codes "-1") n → ⊥
behind_minus n h = omega (arith, h.0.1.0)

letter : (n : ℕ) → SaysCount (codes "x") n → ⊥
letter n h = omega (arith, h.0.1.0)

past_the_last : (n : ℕ) → SaysCount (codes "18446744073709551616") n → ⊥
past_the_last n h = omega (arith, h.1, h.2)
