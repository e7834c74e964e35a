-- A stream spells one list of rows.
use Rattle.std.proofs.Common.{◌≡◌, ℕ, List, [], ◌∷◌, ◌++◌, length, None, Some, refl, sym, ap, ◌∙◌, arith, append_assoc, subst, w32, lit<}
use Rattle.std.specs.Int.{to_be_bytes, w16}
use Rattle.pgw_wire.specs.Cell.{Cell}
use Rattle.pgw_meta.specs.Shape.{Shape}
use Rattle.pgw_cell.specs.Value.{Value}
use Rattle.pgw_tree.specs.Spells.{SpellsRow}
use Rattle.pgw_copy.specs.Format.{IsHeader, IsField, AreFields, IsCount, trailer}
use Rattle.pgw_tree.specs.Stream.{AreRows, IsStream}
use Rattle.pgw_wire.proofs.Lists.{same_front, same_rest}
use Rattle.pgw_wire.proofs.Numbers.{same_number_2, same_number_4}
use Rattle.pgw_copy.proofs.Reading.{length-count}
use Rattle.pgw_copy.proofs.Headers.{header_splits}
use Rattle.pgw_copy.proofs.Fields.{Says, length_first, field_once}
use Rattle.pgw_tree.proofs.RowFields.{fields_once}
use Rattle.pgw_cell.proofs.Reading.{value_once}

-- A count of 0 or more is not the end.
pub count_is_not_end : (count : ℕ) (x behind rest : List ℕ) → IsCount (Some count) x → x ++ behind ≡ trailer ++ rest → ⊥
count_is_not_end count x behind rest is e =
    let same = same_front x trailer behind rest (length-count (Some count) x is) e in
    absurd (omega (arith, is.0, same_number_2 count 65535 (omega (arith, is.0)) (lit< tt) (sym is.1 ∙ same)))

-- Headers in front of the same bytes are the same.
pub header_once : (x y behind rest : List ℕ) → IsHeader x → IsHeader y → x ++ behind ≡ y ++ rest → x ≡ y
header_once x y behind rest h k e =
    let whole = ap (λ l. l ++ behind) (sym h.is) ∙ e in
    let split = header_splits h.fixed (h.extension ++ behind) y rest (length h.extension) h.begins k (sym (append_assoc h.fixed h.extension behind) ∙ whole) in
    let same = same_rest h.fixed h.fixed (h.extension ++ behind) (split.0 ++ rest) refl (sym (append_assoc h.fixed h.extension behind) ∙ whole ∙ ap (λ l. l ++ rest) split.2 ∙ append_assoc h.fixed split.0 rest) in
    h.is ∙ ap (λ l. h.fixed ++ l) (same_front h.extension split.0 behind rest (sym split.1) same) ∙ sym split.2

cell_said : (word : ℕ) (c c' : Cell) (behind : List ℕ) → Says word c behind → Says word c' behind → c ≡ c'
cell_said word None None behind s s' = refl
cell_said word None (Some p') behind s s' = absurd (omega (arith, s.0, s'.0))
cell_said word (Some p) None behind s s' = absurd (omega (arith, s.0, s'.0))
cell_said word (Some p) (Some p') behind s s' = ap Some (sym s.2 ∙ s'.2)

-- A field is the field of one cell.
pub cell_once : (c c' : Cell) (field : List ℕ) → IsField c field → IsField c' field → c ≡ c'
cell_once c c' field h h' =
    let f = length_first c field h in
    let f' = length_first c' field h' in
    let whole = sym f.is ∙ f'.is in
    let words = same_number_4 f.word f'.word f.fits f'.fits (same_front (to_be_bytes w32 f.word) (to_be_bytes w32 f'.word) f.behind f'.behind refl whole) in
    let behinds = same_rest (to_be_bytes w32 f.word) (to_be_bytes w32 f'.word) f.behind f'.behind refl whole in
    cell_said f'.word c c' f'.behind (subst (λ (b : List ℕ). Says f'.word c b) behinds (subst (λ (n : ℕ). Says n c f.behind) words f.says)) f'.says

pub cells_once : (cells others : List Cell) (x behind rest : List ℕ) → length cells ≡ length others → AreFields cells x → (x' : List ℕ) → AreFields others x' → x ++ behind ≡ x' ++ rest → cells ≡ others
cells_once [] [] x behind rest many each x' each' e = refl
cells_once [] (o ∷ os) x behind rest many each x' each' e = absurd (omega (arith, many))
cells_once (c ∷ cs) [] x behind rest many each x' each' e = absurd (omega (arith, many))
cells_once (c ∷ cs) (o ∷ os) x behind rest many each x' each' e =
    let whole = sym (append_assoc each.0 each.1 behind) ∙ ap (λ l. l ++ behind) (sym each.4) ∙ e ∙ ap (λ l. l ++ rest) each'.4 ∙ append_assoc each'.0 each'.1 rest in
    let field = field_once c o each.0 each'.0 (each.1 ++ behind) (each'.1 ++ rest) each.2 each'.2 whole in
    let others = same_rest each.0 each'.0 (each.1 ++ behind) (each'.1 ++ rest) (ap length field) whole in
    let first = cell_once c o each'.0 (subst (λ (l : List ℕ). IsField c l) field each.2) each'.2 in
    let behind_same = cells_once cs os each.1 behind rest (omega (arith, many)) each.3 each'.1 each'.3 others in
    ap (λ d. d ∷ cs) first ∙ ap (λ ds. o ∷ ds) behind_same

values_once : (ts : List Shape) (cells : List Cell) (vs ws : List Value) → SpellsRow ts cells vs → SpellsRow ts cells ws → vs ≡ ws
values_once [] cells [] [] s r = refl
values_once [] cells [] (w ∷ ws) s r = absurd r
values_once [] cells (v ∷ vs) ws s r = absurd s
values_once (t ∷ ts) [] vs ws s r = absurd s
values_once (t ∷ ts) (c ∷ cs) [] ws s r = absurd s
values_once (t ∷ ts) (c ∷ cs) (v ∷ vs) [] s r = absurd r
values_once (t ∷ ts) (c ∷ cs) (v ∷ vs) (w ∷ ws) s r = ap (λ x. x ∷ vs) (value_once t c v w s.0 r.0) ∙ ap (λ xs. w ∷ xs) (values_once ts cs vs ws s.1 r.1)

-- A row is not the end.
row_is_not_end : (ts : List Shape) (other : List ℕ) (ws : List Value) (others : List (List Value)) → AreRows ts other (ws ∷ others) → other ++ trailer ≡ trailer → ⊥
row_is_not_end ts other ws others each e =
    let row = each.3 in
    let count = to_be_bytes w16 (length each.0) in
    let whole = ap (λ l. l ++ trailer) (each.6 ∙ ap (λ l. l ++ each.2) row.is) ∙ append_assoc (count ++ row.fields) each.2 trailer ∙ append_assoc count row.fields (each.2 ++ trailer) in
    count_is_not_end (length each.0) count (row.fields ++ (each.2 ++ trailer)) [] (row.few, refl) (sym whole ∙ e)

-- Rows in front of the end spell one list of values.
rows_once : (ts : List Shape) (body other : List ℕ) (rows others : List (List Value)) → AreRows ts body rows → AreRows ts other others → body ++ trailer ≡ other ++ trailer → rows ≡ others
rows_once ts body other [] [] each each' e = refl
rows_once ts body other [] (ws ∷ others) each each' e = absurd (row_is_not_end ts other ws others each' (sym e ∙ ap (λ l. l ++ trailer) each))
rows_once ts body other (vs ∷ rows) [] each each' e = absurd (row_is_not_end ts body vs rows each (e ∙ ap (λ l. l ++ trailer) each'))
rows_once ts body other (vs ∷ rows) (ws ∷ others) each each' e =
    let r = each.3 in
    let r' = each'.3 in
    let b = to_be_bytes w16 (length each.0) in
    let b' = to_be_bytes w16 (length each'.0) in
    let whole = ap (λ l. l ++ trailer) (each.6 ∙ ap (λ l. l ++ each.2) r.is) ∙ append_assoc (b ++ r.fields) each.2 trailer ∙ append_assoc b r.fields (each.2 ++ trailer) in
    let whole' = ap (λ l. l ++ trailer) (each'.6 ∙ ap (λ l. l ++ each'.2) r'.is) ∙ append_assoc (b' ++ r'.fields) each'.2 trailer ∙ append_assoc b' r'.fields (each'.2 ++ trailer) in
    let both = sym whole ∙ e ∙ whole' in
    let many = same_number_2 (length each.0) (length each'.0) (omega (arith, r.few)) (omega (arith, r'.few)) (same_front b b' (r.fields ++ (each.2 ++ trailer)) (r'.fields ++ (each'.2 ++ trailer)) refl both) in
    let behind = same_rest b b' (r.fields ++ (each.2 ++ trailer)) (r'.fields ++ (each'.2 ++ trailer)) refl both in
    let cells = cells_once each.0 each'.0 r.fields (each.2 ++ trailer) (each'.2 ++ trailer) many r.each r'.fields r'.each behind in
    let fields = fields_once each.0 each'.0 r.fields r'.fields (each.2 ++ trailer) (each'.2 ++ trailer) many r.each r'.each behind in
    let others_behind = same_rest r.fields r'.fields (each.2 ++ trailer) (each'.2 ++ trailer) (ap length fields) behind in
    let values = values_once ts each'.0 vs ws (subst (λ (cs : List Cell). SpellsRow ts cs vs) cells each.4) each'.4 in
    ap (λ x. x ∷ rows) values ∙ ap (λ xs. ws ∷ xs) (rows_once ts each.2 each'.2 rows others each.5 each'.5 others_behind)

-- A stream spells one list of rows.
pub stream_once : (ts : List Shape) (bytes : List ℕ) (rows others : List (List Value)) → IsStream ts bytes rows → IsStream ts bytes others → rows ≡ others
stream_once ts bytes rows others s s' =
    let f = s.begins in
    let f' = s'.begins in
    let whole = s.is ∙ ap (λ l. l ++ trailer) f.is ∙ append_assoc f.header f.body trailer in
    let whole' = s'.is ∙ ap (λ l. l ++ trailer) f'.is ∙ append_assoc f'.header f'.body trailer in
    let both = sym whole ∙ whole' in
    let same = header_once f.header f'.header (f.body ++ trailer) (f'.body ++ trailer) f.begins f'.begins both in
    rows_once ts f.body f'.body rows others f.each f'.each (same_rest f.header f'.header (f.body ++ trailer) (f'.body ++ trailer) (ap length same) both)
