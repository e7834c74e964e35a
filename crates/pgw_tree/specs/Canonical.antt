-- What rows of values are written as, from the header through the last of them. Behind that the end makes it their
-- canonical stream.
use Rattle.std.specs.Prelude.{ℕ, List, [], ◌∷◌, ◌++◌, length}
use Rattle.std.specs.List.{flat_map}
use Rattle.std.specs.Int.{to_be_bytes, w16}
use Rattle.pgw_wire.specs.Cell.{Cell, frame}
use Rattle.pgw_meta.specs.Shape.{Shape}
use Rattle.pgw_cell.specs.Value.{Value}
use Rattle.pgw_cell.specs.Cells.{canonical_cell, Fits}
use Rattle.pgw_copy.specs.Format.{canonical_header}
use Rattle.pgw_meta.specs.Known.{Known}

-- Each value's canonical cell has at most this many bytes.
abbrev pub FitsRow : ℕ → List Shape → List Value → Type 0
FitsRow most (t ∷ ts) (v ∷ vs) = Fits most t v × FitsRow most ts vs
FitsRow most [] vs = Unit {0}
FitsRow most (t ∷ ts) [] = Unit {0}

-- a cell for each column
abbrev pub canonical_cells : Known → List Shape → List Value → List Cell
canonical_cells known (t ∷ ts) (v ∷ vs) = canonical_cell known t v ∷ canonical_cells known ts vs
canonical_cells known [] vs = []
canonical_cells known (t ∷ ts) [] = []

abbrev pub canonical_row : Known → List Shape → List Value → List ℕ
canonical_row known columns values = to_be_bytes w16 (length columns) ++ flat_map frame (canonical_cells known columns values)

abbrev pub canonical_front : Known → List Shape → List (List Value) → List ℕ
canonical_front known columns rows = canonical_header ++ flat_map (canonical_row known columns) rows
