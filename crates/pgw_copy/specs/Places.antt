-- How a row is kept: its bytes as they were taken, and where among them each cell lies.
use Rattle.std.specs.Prelude.{ℕ, ◌-◌, ◌≤◌, List, map, take, drop, None, Some, refl}
use Rattle.std.specs.List.{AllByRecursion}
use Rattle.std.specs.Coded.{Coded, code_by, coded×, coded_list, coded_option, coded_ℕ}
use Rattle.pgw_wire.specs.Cell.{Cell}
use Rattle.pgw_copy.specs.declared.row.Place.{Place}
use Rattle.pgw_copy.specs.declared.row.Place.TheVariants.{Null, Piece}

abbrev pub cell_at : List ℕ → Place → Cell
cell_at bytes Null = None
cell_at bytes (Piece start end) = Some (take (end - start) (drop start bytes))

abbrev pub cells_at : List ℕ → List Place → List Cell
cells_at bytes places = map (cell_at bytes) places

-- the place lies among so many bytes
abbrev pub LiesIn : ℕ → Place → Type 0
LiesIn size Null = Unit {0}
LiesIn size (Piece start end) = (start ≤ end) × (end ≤ size)

abbrev pub AllLieIn : ℕ → List Place → Type 0
AllLieIn size places = AllByRecursion (LiesIn size) places

-- what contracts see of a row that is kept
pub record KeptRow : Type 0 where
  pub cells : List Cell
  pub bytes : List ℕ

abbrev pub kept_row_code : Coded KeptRow
kept_row_code =
    code_by (List Cell × List ℕ) (coded× (coded_list (coded_option (coded_list coded_ℕ))) (coded_list coded_ℕ))
    (λ r. (r.cells, r.bytes)) (λ p. record { cells = p.0; bytes = p.1 }) (λ _. refl)
