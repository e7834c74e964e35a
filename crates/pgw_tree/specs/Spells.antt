-- Which values the cells of a row spell, by the types of the columns.
use Rattle.std.specs.Prelude.{List, [], ◌∷◌}
use Rattle.pgw_wire.specs.Cell.{Cell}
use Rattle.pgw_meta.specs.Shape.{Shape}
use Rattle.pgw_cell.specs.Value.{Value}
use Rattle.pgw_cell.specs.Cells.{Spells}

-- The first cells of a row spell the values, column by column. Cells behind the last column say nothing.
abbrev pub SpellsRow : List Shape → List Cell → List Value → Type 0
SpellsRow [] cells [] = Unit {0}
SpellsRow [] cells (v ∷ vs) = ⊥
SpellsRow (t ∷ ts) [] vs = ⊥
SpellsRow (t ∷ ts) (c ∷ cs) [] = ⊥
SpellsRow (t ∷ ts) (c ∷ cs) (v ∷ vs) = Spells t c v × SpellsRow ts cs vs
