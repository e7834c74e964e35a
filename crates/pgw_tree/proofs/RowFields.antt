-- All fields of a row: those of its columns, and those behind them.
use Rattle.std.proofs.Common.{◌≡◌, ℕ, ◌<◌, ◌≤◌, ◌^◌, List, [], ◌∷◌, ◌++◌, length, None, Some, refl, sym, ap, ◌∙◌, arith, append_assoc, append-nil, drop, lit<, subst}
use Rattle.pgw_wire.proofs.Lists.{same_rest}
use Rattle.pgw_wire.specs.Cell.{Cell, frame, size_of}
use Rattle.pgw_meta.specs.Shape.{Shape}
use Rattle.pgw_cell.specs.Value.{Value}
use Rattle.pgw_tree.specs.Spells.{SpellsRow}
use Rattle.pgw_copy.specs.Format.{IsField, AreFields, IsRow}
use Rattle.pgw_tree.specs.Appending.{HasRowFields}
use Rattle.pgw_copy.proofs.Fields.{field_once}

-- A row spells no more values than it has fields.
pub enough_cells : (ts : List Shape) (cells : List Cell) (values : List Value) → SpellsRow ts cells values → length ts ≤ length cells
enough_cells [] cells values spelled = omega arith
enough_cells (t ∷ ts) [] values spelled = absurd spelled
enough_cells (t ∷ ts) (c ∷ cs) [] spelled = absurd spelled
enough_cells (t ∷ ts) (c ∷ cs) (v ∷ vs) spelled = omega (arith, enough_cells ts cs vs spelled.1)

pub spells-append : (ts : List Shape) (cells more : List Cell) (values : List Value) → SpellsRow ts cells values → SpellsRow ts (cells ++ more) values
spells-append [] cells more [] spelled = tt
spells-append [] cells more (v ∷ vs) spelled = absurd spelled
spells-append (t ∷ ts) [] more values spelled = absurd spelled
spells-append (t ∷ ts) (c ∷ cs) more [] spelled = absurd spelled
spells-append (t ∷ ts) (c ∷ cs) more (v ∷ vs) spelled = (spelled.0, spells-append ts cs more vs spelled.1)

-- Fields behind others.
pub fields_both : (cells others : List Cell) (x y : List ℕ) → AreFields cells x → AreFields others y → AreFields (cells ++ others) (x ++ y)
fields_both [] others x y each more = subst (λ (l : List ℕ). AreFields others l) (ap (λ l. l ++ y) (sym each)) more
fields_both (c ∷ cs) others x y each more = (each.0, each.1 ++ y, each.2, fields_both cs others each.1 y each.3 more, ap (λ l. l ++ y) each.4 ∙ append_assoc each.0 each.1 y)

-- As many fields in front are the same fields.
pub fields_once : (cells others : List Cell) (x x' behind rest : List ℕ) → length cells ≡ length others → AreFields cells x → AreFields others x' → x ++ behind ≡ x' ++ rest → x ≡ x'
fields_once [] [] x x' behind rest many each each' e = each ∙ sym each'
fields_once [] (o ∷ os) x x' behind rest many each each' e = absurd (omega (arith, many))
fields_once (c ∷ cs) [] x x' behind rest many each each' e = absurd (omega (arith, many))
fields_once (c ∷ cs) (o ∷ os) x x' behind rest many each each' e =
    let whole = sym (append_assoc each.0 each.1 behind) ∙ ap (λ l. l ++ behind) (sym each.4) ∙ e ∙ ap (λ l. l ++ rest) each'.4 ∙ append_assoc each'.0 each'.1 rest in
    let field = field_once c o each.0 each'.0 (each.1 ++ behind) (each'.1 ++ rest) each.2 each'.2 whole in
    let others = same_rest each.0 each'.0 (each.1 ++ behind) (each'.1 ++ rest) (ap length field) whole in
    let behind_same = fields_once cs os each.1 each'.1 behind rest (omega (arith, many)) each.3 each'.3 others in
    each.4 ∙ ap (λ l. l ++ each.1) field ∙ ap (λ l. each'.0 ++ l) behind_same ∙ sym each'.4

-- A cell has a field where it is short enough.
pub field_of : (cell : Cell) (most : ℕ) → most < 2 ^ 31 → size_of cell ≤ most → IsField cell (frame cell)
field_of None most max fits = (4294967295, lit< tt, lit< tt, refl)
field_of (Some p) most max fits = (omega (arith, max, fits), refl)

-- The bytes of a row behind its count are its fields.
pub row_fields : (ts : List Shape) (cells : List Cell) (bytes : List ℕ) → IsRow cells bytes → length ts ≤ length cells → HasRowFields ts cells (drop 2 bytes)
row_fields ts cells bytes r enough = record { starts = record { fields = r.fields; behind = []; each = r.each; is = ap (drop 2) r.is ∙ sym (append-nil r.fields) }; enough = enough }
