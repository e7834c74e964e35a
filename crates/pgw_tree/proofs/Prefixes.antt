-- The first columns of a row and their cells, one column more at a time.
use Rattle.std.proofs.Common.{◌≡◌, ℕ, ◌+◌, ◌<◌, List, [], ◌∷◌, ◌++◌, length, take, drop, get_or, refl, sym, ap, ◌∙◌, arith, append-nil, drop-cons, add-one, subst, zero, suc}
use Rattle.std.specs.List.{flat_map}
use Rattle.std.proofs.lemmas.List.{length-take-le, length-map, get_or-map, take_more}
use Rattle.std.proofs.lemmas.Grind.{flat_map-append}
use Rattle.pgw_wire.specs.Cell.{Cell, frame}
use Rattle.pgw_meta.specs.declared.types.PgType.{PgType}
use Rattle.pgw_meta.specs.Shape.{Shape}
use Rattle.pgw_meta.specs.Types.{shape, column_shapes}
use Rattle.pgw_cell.specs.Built.{IsBuilt}
use Rattle.pgw_cell.specs.Plain.{plain_cell, IsPlainCellOf}
use Rattle.pgw_cell.specs.declared.plain.PlainCell.{PlainCell}
use Rattle.pgw_cell.specs.Value.{Value}
use Rattle.pgw_cell.specs.Cells.{Spells, Fits, canonical_cell}
use Rattle.pgw_tree.specs.Spells.{SpellsRow}
use Rattle.pgw_tree.specs.Canonical.{FitsRow, canonical_cells}
use Rattle.pgw_tree.specs.ColumnTypes.{AreBuilt, plain_cells}
use Rattle.pgw_tree.specs.Appending.{canonical_fields}
use Rattle.pgw_meta.specs.Known.{Known}

pub spells_more : (ts : List Shape) (cells : List Cell) (vs : List Value) (t : Shape) (c : Cell) (v : Value) → length cells ≡ length ts → SpellsRow ts cells vs → Spells t c v → SpellsRow (ts ++ (t ∷ [])) (cells ++ (c ∷ [])) (vs ++ (v ∷ []))
spells_more [] [] [] t c v many spelled one = (one, tt)
spells_more [] [] (w ∷ ws) t c v many spelled one = absurd spelled
spells_more [] (d ∷ ds) vs t c v many spelled one = absurd (omega (arith, many))
spells_more (u ∷ us) [] vs t c v many spelled one = absurd spelled
spells_more (u ∷ us) (d ∷ ds) [] t c v many spelled one = absurd spelled
spells_more (u ∷ us) (d ∷ ds) (w ∷ ws) t c v many spelled one = (spelled.0, spells_more us ds ws t c v (omega (arith, many)) spelled.1 one)

pub fits_more : (most : ℕ) (ts : List Shape) (cells : List Cell) (vs : List Value) (t : Shape) (v : Value) → SpellsRow ts cells vs → FitsRow most ts vs → Fits most t v → FitsRow most (ts ++ (t ∷ [])) (vs ++ (v ∷ []))
fits_more most [] cells [] t v spelled fit one = (one, tt)
fits_more most [] cells (w ∷ ws) t v spelled fit one = absurd spelled
fits_more most (u ∷ us) [] vs t v spelled fit one = absurd spelled
fits_more most (u ∷ us) (d ∷ ds) [] t v spelled fit one = absurd spelled
fits_more most (u ∷ us) (d ∷ ds) (w ∷ ws) t v spelled fit one = (fit.0, fits_more most us ds ws t v spelled.1 fit.1 one)

pub canonical_more : (known : Known) (ts : List Shape) (cells : List Cell) (vs : List Value) (t : Shape) (v : Value) → SpellsRow ts cells vs → canonical_cells known (ts ++ (t ∷ [])) (vs ++ (v ∷ [])) ≡ canonical_cells known ts vs ++ (canonical_cell known t v ∷ [])
canonical_more known [] cells [] t v spelled = refl
canonical_more known [] cells (w ∷ ws) t v spelled = absurd spelled
canonical_more known (u ∷ us) [] vs t v spelled = absurd spelled
canonical_more known (u ∷ us) (d ∷ ds) [] t v spelled = absurd spelled
canonical_more known (u ∷ us) (d ∷ ds) (w ∷ ws) t v spelled = ap (λ cs. canonical_cell known u w ∷ cs) (canonical_more known us ds ws t v spelled.1)

-- The fields of some columns, and that of the next.
pub fields_more : (known : Known) (ts : List Shape) (cells : List Cell) (vs : List Value) (t : Shape) (v : Value) → SpellsRow ts cells vs → canonical_fields known (ts ++ (t ∷ [])) (vs ++ (v ∷ [])) ≡ canonical_fields known ts vs ++ frame (canonical_cell known t v)
fields_more known ts cells vs t v spelled =
    ap (flat_map frame) (canonical_more known ts cells vs t v spelled)
    ∙ flat_map-append frame (canonical_cells known ts vs) (canonical_cell known t v ∷ [])
    ∙ ap (λ l. canonical_fields known ts vs ++ l) (append-nil (frame (canonical_cell known t v)))

-- The type stands at this place, behind so many others.
pub record IsAt (ts : List Shape) (place : ℕ) (t : Shape) : Type 0 where
  pub within : place < length ts
  pub before : length (take place ts) ≡ place
  pub first : take (place + 1) ts ≡ take place ts ++ (t ∷ [])
  pub rest : drop place ts ≡ t ∷ drop (place + 1) ts

pub shape_at : (ts : List Shape) (i : ℕ) (d : Shape) → i < length ts → IsAt ts i (get_or ts i d)
shape_at ts i d within = record {
  within = within;
  before = length-take-le i ts (omega (arith, within));
  first = take_more ts i d within;
  rest = drop-cons ts i d within ∙ ap (λ k. get_or ts i d ∷ drop k ts) (sym (add-one i));
}

pub type_at : (ts : List PgType) (i : ℕ) (t : PgType) → i < length ts → t ≡ get_or ts i t → IsAt (column_shapes ts) i (shape t)
type_at ts i t within is =
    subst (λ (u : Shape). IsAt (column_shapes ts) i u) (get_or-map shape ts i t (shape t) within ∙ ap shape (sym is)) (shape_at (column_shapes ts) i (shape t) (omega (arith, within, length-map ts shape)))

built_behind : (ts : List Shape) (i : ℕ) → AreBuilt ts → AreBuilt (drop i ts)
built_behind ts zero each = each
built_behind [] (suc i) each = each
built_behind (t ∷ ts) (suc i) each = built_behind ts i each.1

pub built_at : (ts : List Shape) (i : ℕ) (t : Shape) → IsAt ts i t → AreBuilt ts → IsBuilt t
built_at ts i t at each = let here = subst AreBuilt at.rest (built_behind ts i each) in here.0

-- What is kept of the columns, at one of them.
pub plain_at : (known : Known) (cells : List PlainCell) (ts : List Shape) (i : ℕ) (none : PlainCell) (d : Shape) → cells ≡ plain_cells known ts → i < length ts → IsPlainCellOf known (get_or cells i none) (get_or ts i d)
plain_at known cells ts i none d each within = ap (λ l. get_or l i none) each ∙ get_or-map (plain_cell known) ts i d none within
