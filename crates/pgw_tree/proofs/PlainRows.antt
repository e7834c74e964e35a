-- Bytes that are canonical as they stand.
use Rattle.std.proofs.Common.{◌≡◌, ℕ, ◌<◌, ◌≤◌, ◌^◌, List, [], ◌∷◌, ◌++◌, length, None, Some, refl, sym, ap, ◌∙◌, arith, append_assoc, append-nil, subst, length-append, Option, take, ◌-◌}
use Rattle.std.specs.Prelude.{IfSome, IsSome, IsNone}
use Rattle.std.proofs.Math.Seq.{take-append_seam, take-length}
use Rattle.std.specs.Io.{StartsWith}
use Rattle.pgw_wire.proofs.Lists.{same_front, same_rest}
use Rattle.pgw_wire.proofs.Numbers.{same_number_2}
use Rattle.pgw_tree.proofs.Unique.{cells_once}
use Rattle.std.specs.List.{flat_map, AllByRecursion}
use Rattle.std.specs.Int.{to_be_bytes, w16}
use Rattle.std.proofs.lemmas.Grind.{flat_map-append}
use Rattle.pgw_wire.specs.Cell.{Cell, frame}
use Rattle.pgw_copy.specs.Format.{IsField, AreFields, IsRow}
use Rattle.pgw_meta.specs.Shape.{Shape}
use Rattle.pgw_cell.specs.Value.{Value}
use Rattle.pgw_cell.specs.Cells.{canonical_cell}
use Rattle.pgw_cell.proofs.Reading.{spelled_has_type, size_counted}
use Rattle.pgw_cell.specs.Plain.{IsPlainField}
use Rattle.pgw_tree.specs.Spells.{SpellsRow}
use Rattle.pgw_tree.specs.Canonical.{FitsRow, canonical_cells, canonical_row}
use Rattle.pgw_tree.specs.Stream.{AreRows}
use Rattle.pgw_tree.specs.Columns.{SpellsFit}
use Rattle.pgw_tree.specs.Plain.{IsPlainFields, IsPlainRow, ArePlainRows}
use Rattle.pgw_copy.proofs.Fields.{fields_append}
use Rattle.pgw_tree.proofs.RowFields.{field_of}
use Rattle.pgw_tree.proofs.Prefixes.{spells_more, fits_more, canonical_more}
use Rattle.pgw_meta.specs.Known.{Known}

pub some_weaker : {A : Type 0} (r : Option A) (P Q : A → Type 0) → IfSome r P → ((x : A) → P x → Q x) → IfSome r Q
some_weaker None P Q h w = tt
some_weaker (Some x) P Q h w = w x h

pub some_at : {A : Type 0} (r : Option A) (x : A) (P : A → Type 0) → r ≡ Some x → IfSome r P → P x
some_at {A = A} r x P is h = subst (λ (o : Option A). IfSome o P) is h

pub some_unless_none : {A : Type 0} (r : Option A) → (IsNone r → ⊥) → IsSome r
some_unless_none None h = absurd (h refl)
some_unless_none (Some x) h = refl

pub plain_none : (known : Known) (most : ℕ) → IsPlainFields known most [] [] []
plain_none known most = record { spelled = tt; fit = tt; each = refl; is = refl }

pub cells_many : (known : Known) (ts : List Shape) (vs : List Value) → SpellsRow ts (canonical_cells known ts vs) vs → length (canonical_cells known ts vs) ≡ length ts
cells_many known [] [] s = refl
cells_many known [] (v ∷ vs) s = absurd s
cells_many known (t ∷ ts) [] s = absurd s
cells_many known (t ∷ ts) (v ∷ vs) s = omega (arith, cells_many known ts vs s.1)

pub plain_more : (known : Known) (most : ℕ) (ts : List Shape) (vs : List Value) (x : List ℕ) (t : Shape) (y : List ℕ) → most < 2 ^ 31 → IsPlainFields known most ts vs x → (f : IsPlainField known most t y) → IsPlainFields known most (ts ++ (t ∷ [])) (vs ++ (f.value ∷ [])) (x ++ y)
plain_more known most ts vs x t y max p f =
    let cells = canonical_cells known ts vs in
    let one = canonical_cell known t f.value in
    let more = canonical_more known ts cells vs t f.value p.spelled in
    let field = field_of one most max (subst (λ (n : ℕ). n ≤ most) (size_counted known t f.value (spelled_has_type t one f.value f.spells)) f.fits) in
    record {
      spelled = subst (λ (cs : List Cell). SpellsRow (ts ++ (t ∷ [])) cs (vs ++ (f.value ∷ []))) (sym more) (spells_more ts cells vs t one f.value (cells_many known ts vs p.spelled) p.spelled f.spells);
      fit = fits_more most ts cells vs t f.value p.spelled p.fit f.fits;
      each = subst (λ (cs : List Cell). AreFields cs (x ++ y)) (sym more) (fields_append cells one x y p.each (subst (λ (l : List ℕ). IsField one l) (sym f.is) field));
      is = ap (λ l. l ++ y) p.is ∙ ap (λ l. flat_map frame cells ++ l) (f.is ∙ sym (append-nil (frame one))) ∙ sym (flat_map-append frame cells (one ∷ [])) ∙ ap (flat_map frame) (sym more);
    }

pub plain_row : (known : Known) (most : ℕ) (ts : List Shape) (vs : List Value) (x : List ℕ) (n : ℕ) → IsPlainFields known most ts vs x → length ts ≡ n → n < 2 ^ 15 → IsPlainRow known most ts (to_be_bytes w16 n ++ x) vs
plain_row known most ts vs x n p many few =
    let cells = canonical_cells known ts vs in
    let as_many : length cells ≡ n = cells_many known ts vs p.spelled ∙ many in
    record {
      row = record {
        cells = cells;
        is = record { fields = x; few = omega (arith, as_many, few); each = p.each; is = ap (λ k. to_be_bytes w16 k ++ x) (sym as_many) };
        spelled = p.spelled;
        fit = p.fit;
      };
      is = ap (λ k. to_be_bytes w16 k ++ x) (sym many) ∙ ap (λ l. to_be_bytes w16 (length ts) ++ l) p.is;
    }

-- one row more behind the others
pub rows_one_more : (known : Known) (most : ℕ) (ts : List Shape) (x y : List ℕ) (rows : List (List Value)) (vs : List Value) → ArePlainRows known most ts x rows → IsPlainRow known most ts y vs → ArePlainRows known most ts (x ++ y) (rows ++ (vs ∷ []))
rows_one_more known most ts x y [] vs each row = (y, [], row, refl, ap (λ l. l ++ y) each ∙ sym (append-nil y))
rows_one_more known most ts x y (ws ∷ rows) vs each row =
    (each.0, each.1 ++ y, each.2, rows_one_more known most ts each.1 y rows vs each.3 row, ap (λ l. l ++ y) each.4 ∙ append_assoc each.0 each.1 y)

-- Canonical rows are rows of their values, which fit, and are written as they stand.
pub plain_rows_each : (known : Known) (most : ℕ) (ts : List Shape) (x : List ℕ) (rows : List (List Value)) → ArePlainRows known most ts x rows → AreRows ts x rows
plain_rows_each known most ts x [] each = each
plain_rows_each known most ts x (vs ∷ rows) each = (each.2.row.cells, each.0, each.1, each.2.row.is, each.2.row.spelled, plain_rows_each known most ts each.1 rows each.3, each.4)

pub plain_rows_fit : (known : Known) (most : ℕ) (ts : List Shape) (x : List ℕ) (rows : List (List Value)) → ArePlainRows known most ts x rows → AllByRecursion (FitsRow most ts) rows
plain_rows_fit known most ts x [] each = tt
plain_rows_fit known most ts x (vs ∷ rows) each = (each.2.row.fit, plain_rows_fit known most ts each.1 rows each.3)

pub plain_rows_are : (known : Known) (most : ℕ) (ts : List Shape) (x : List ℕ) (rows : List (List Value)) → ArePlainRows known most ts x rows → x ≡ flat_map (canonical_row known ts) rows
plain_rows_are known most ts x [] each = each
plain_rows_are known most ts x (vs ∷ rows) each = each.4 ∙ ap (λ l. l ++ each.1) each.2.is ∙ ap (λ l. canonical_row known ts vs ++ l) (plain_rows_are known most ts each.1 rows each.3)

-- the front of bytes, in front of this rest
pub front_of : (bytes front rest : List ℕ) → bytes ≡ front ++ rest → take (length bytes - length rest) bytes ≡ front
front_of bytes front rest e =
    ap (λ k. take k bytes) (omega (arith, ap length e, length-append front rest)) ∙ ap (take (length front)) e ∙ take-append_seam front rest

-- A front that is as long as the whole is the whole.
pub all_of_front : (front bytes : List ℕ) → StartsWith bytes front → length front ≡ length bytes → front ≡ bytes
all_of_front front bytes starts long = sym starts ∙ ap (λ n. take n bytes) long ∙ take-length bytes

-- One canonical row among bytes that are canonical rows.
pub one_plain_row : (known : Known) (most : ℕ) (ts : List Shape) (front bytes : List ℕ) (rows : List (List Value)) → length rows ≡ 1 → ArePlainRows known most ts front rows → front ≡ bytes → (values : List Value) × IsPlainRow known most ts bytes values
one_plain_row known most ts front bytes [] one each all = absurd (omega (arith, one))
one_plain_row known most ts front bytes (vs ∷ []) one each all = (vs, subst (λ (l : List ℕ). IsPlainRow known most ts l vs) (sym (append-nil each.0) ∙ ap (λ l. each.0 ++ l) (sym each.3) ∙ sym each.4 ∙ all) each.2)
one_plain_row known most ts front bytes (vs ∷ ws ∷ rows) one each all = absurd (omega (arith, one))

-- A row that is canonical as it stands, told by its cells.
pub cells_plain : (known : Known) (most : ℕ) (ts : List Shape) (cells : List Cell) (bytes : List ℕ) (values : List Value) → IsRow cells bytes → IsPlainRow known most ts bytes values → SpellsRow ts cells values
cells_plain known most ts cells bytes values row plain =
    let p = plain.row in
    let b = to_be_bytes w16 (length p.cells) in
    let b' = to_be_bytes w16 (length cells) in
    let both = sym p.is.is ∙ row.is in
    let nil : (x : List ℕ) → x ≡ x ++ [] = λ x. sym (append-nil x) in
    let front = same_front b b' p.is.fields row.fields refl both in
    let many = same_number_2 (length p.cells) (length cells) (omega (arith, p.is.few)) (omega (arith, row.few)) front in
    let fields = same_rest b b' p.is.fields row.fields refl both in
    subst (λ (cs : List Cell). SpellsRow ts cs values) (cells_once p.cells cells p.is.fields [] [] many p.is.each row.fields row.each (ap (λ l. l ++ []) fields)) p.spelled

-- The one canonical row that lent bytes are, told by the cells of the row that is lent.
pub plain_told : (known : Known) (most : ℕ) (ts : List Shape) (cells : List Cell) (lent bytes front : List ℕ) (rows : List (List Value)) → IsRow cells lent → bytes ≡ lent → StartsWith bytes front → length front ≡ length bytes → length rows ≡ 1 → ArePlainRows known most ts front rows
    → (values : List Value) × SpellsFit most ts cells values × (bytes ≡ canonical_row known ts values)
plain_told known most ts cells lent bytes front rows row is starts long one each =
    let p = one_plain_row known most ts front bytes rows one each (all_of_front front bytes starts long) in
    (p.0, record { spelled = cells_plain known most ts cells bytes p.0 (subst (λ (l : List ℕ). IsRow cells l) (sym is) row) p.1; fit = p.1.row.fit }, p.1.is)
