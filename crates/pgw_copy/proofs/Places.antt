-- Cells that are kept as places among bytes.
use Rattle.std.proofs.Common.{◌≡◌, ℕ, ◌-◌, ◌≤◌, List, [], ◌∷◌, ◌++◌, length, take, drop, None, Some, refl, ap, ◌∙◌, arith, length-drop}
use Rattle.std.proofs.lemmas.List.{take-append-le, drop-append-le, map-append}
use Rattle.pgw_copy.specs.declared.row.Place.{Place}
use Rattle.pgw_copy.specs.declared.row.Place.TheVariants.{Null, Piece}
use Rattle.pgw_copy.specs.Places.{cell_at, cells_at, LiesIn, AllLieIn}
use Rattle.pgw_wire.proofs.Lists.{tail_of}

lies_later : (p : Place) (n m : ℕ) → LiesIn n p → n ≤ m → LiesIn m p
lies_later Null n m h more = tt
lies_later (Piece start end) n m h more = (h.0, omega (arith, h.1, more))

pub all_lie_later : (ps : List Place) (n m : ℕ) → AllLieIn n ps → n ≤ m → AllLieIn m ps
all_lie_later [] n m h more = tt
all_lie_later (p ∷ ps) n m h more = (lies_later p n m h.0 more, all_lie_later ps n m h.1 more)

pub all_lie_append : (ps : List Place) (p : Place) (n : ℕ) → AllLieIn n ps → LiesIn n p → AllLieIn n (ps ++ (p ∷ []))
all_lie_append [] p n h last = (last, tt)
all_lie_append (q ∷ ps) p n h last = (h.0, all_lie_append ps p n h.1 last)

cell_later : (p : Place) (bytes more : List ℕ) → LiesIn (length bytes) p → cell_at (bytes ++ more) p ≡ cell_at bytes p
cell_later Null bytes more h = refl
cell_later (Piece start end) bytes more h =
    let n = end - start in
    let within : n ≤ length (drop start bytes) = omega (arith, h.0, h.1, length-drop start bytes) in
    ap Some (ap (take n) (drop-append-le start bytes more (omega (arith, h.0, h.1))) ∙ take-append-le n (drop start bytes) more within)

cells_later : (ps : List Place) (bytes more : List ℕ) → AllLieIn (length bytes) ps → cells_at (bytes ++ more) ps ≡ cells_at bytes ps
cells_later [] bytes more h = refl
cells_later (p ∷ ps) bytes more h = ap (λ c. c ∷ cells_at (bytes ++ more) ps) (cell_later p bytes more h.0) ∙ ap (λ cs. cell_at bytes p ∷ cs) (cells_later ps bytes more h.1)

-- the same, where the bytes that more were appended to have a name of their own
pub cells_grown : (ps : List Place) (old more new : List ℕ) → AllLieIn (length old) ps → new ≡ old ++ more → cells_at new ps ≡ cells_at old ps
cells_grown ps old more new h is = ap (λ b. cells_at b ps) is ∙ cells_later ps old more h

-- A piece that is appended to the bytes, and its place behind the others, are its cell behind theirs.
pub piece_kept : (ps : List Place) (old taken new : List ℕ) (start end : ℕ) → AllLieIn (length old) ps → new ≡ old ++ taken → start ≡ length old → end ≡ length new → cells_at new (ps ++ (Piece start end ∷ [])) ≡ cells_at old ps ++ (Some taken ∷ [])
piece_kept ps old taken new start end h is s e =
    let last : take (end - start) (drop start new) ≡ taken = ap (λ k. take (k - start) (drop start new)) e ∙ tail_of new old taken start is s in
    map-append (cell_at new) ps (Piece start end ∷ []) ∙ ap (λ c. cells_at new ps ++ (Some c ∷ [])) last
    ∙ ap (λ cs. cs ++ (Some taken ∷ [])) (cells_grown ps old taken new h is)

-- The same of a null, whose field alone is appended.
pub null_kept : (ps : List Place) (old taken new : List ℕ) → AllLieIn (length old) ps → new ≡ old ++ taken → cells_at new (ps ++ (Null ∷ [])) ≡ cells_at old ps ++ (None ∷ [])
null_kept ps old taken new h is =
    map-append (cell_at new) ps (Null ∷ []) ∙ ap (λ cs. cs ++ (None ∷ [])) (cells_grown ps old taken new h is)
