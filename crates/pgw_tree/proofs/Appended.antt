-- The fields of a row, one after the other, as their canonical ones are appended.
use Rattle.std.proofs.Common.{◌≡◌, ℕ, ◌+◌, ◌<◌, ◌≤◌, ◌^◌, List, [], ◌∷◌, ◌++◌, length, take, drop, refl, sym, ap, ◌∙◌, arith, subst, append_assoc, append-nil, length-append, Option, None, Some, IfSome, Bor}
use Rattle.std.proofs.lemmas.List.{take-append-drop, take_all}
use Rattle.pgw_wire.specs.Cell.{Cell, frame}
use Rattle.pgw_wire.proofs.Lists.{same_rest}
use Rattle.std.specs.Int.{to_be_bytes, w16}
use Rattle.pgw_copy.specs.Format.{IsField, AreFields}
use Rattle.pgw_copy.specs.Reader.{IsCutField}
use Rattle.pgw_copy.proofs.Fields.{field_once}
use Rattle.pgw_copy.proofs.Reading.{row_of}
use Rattle.pgw_meta.specs.Shape.{Shape}
use Rattle.pgw_cell.specs.Value.{Value}
use Rattle.pgw_cell.specs.Cells.{Spells, Fits, canonical_cell}
use Rattle.pgw_tree.specs.Spells.{SpellsRow}
use Rattle.pgw_tree.specs.Canonical.{FitsRow, canonical_cells, canonical_row}
use Rattle.pgw_tree.specs.Columns.{SpellsFit, IsColumnAt}
use Rattle.pgw_tree.specs.Plain.{IsPlainFields}
use Rattle.pgw_tree.specs.Runs.{RespellsRow}
use Rattle.pgw_tree.specs.Appending.{StartsWithFields, HasRowFields, AppendsFields, canonical_fields}
use Rattle.pgw_tree.proofs.Prefixes.{IsAt, spells_more, fits_more, fields_more}
use Rattle.pgw_tree.proofs.PlainRows.{cells_many}
use Rattle.pgw_tree.proofs.RowFields.{spells-append, fields_both}
use Rattle.pgw_tree.proofs.Unique.{cell_once}
use Rattle.pgw_meta.specs.Known.{Known}

-- Where fields are left, one stands in front.
pub not_cut : (cells : List Cell) (rest : List ℕ) → StartsWithFields cells rest → 0 < length cells → IsCutField rest → ⊥
not_cut [] rest s some cut = omega (arith, some)
not_cut (c ∷ cs) rest s some cut =
    let each = s.each in
    cut c each.0 (each.1 ++ s.behind) each.2 (s.is ∙ ap (λ l. l ++ s.behind) each.4 ∙ append_assoc each.0 each.1 s.behind)

-- The field in front is that of the first cell.
pub first_field : (o : Cell) (os : List Cell) (c : Cell) (rest field behind : List ℕ) → StartsWithFields (o ∷ os) rest → IsField c field → rest ≡ field ++ behind → (o ≡ c) × StartsWithFields os behind
first_field o os c rest field behind s is e =
    let each = s.each in
    let whole : each.0 ++ (each.1 ++ s.behind) ≡ field ++ behind = sym (append_assoc each.0 each.1 s.behind) ∙ ap (λ l. l ++ s.behind) (sym each.4) ∙ sym s.is ∙ e in
    let same = field_once o c each.0 field (each.1 ++ s.behind) behind each.2 is whole in (
      cell_once o c field (subst (λ (l : List ℕ). IsField o l) same each.2) is,
      record { fields = each.1; behind = s.behind; each = each.3; is = sym (same_rest each.0 field (each.1 ++ s.behind) behind (ap length same) whole) },
    )

-- the cell in front, and those behind it
pub record IsCellBefore (cells : List Cell) (c : Cell) (behind : List ℕ) : Type 0 where
  pub others : List Cell
  pub is : cells ≡ c ∷ others
  pub starts : StartsWithFields others behind

pub next_cell : (cells : List Cell) (c : Cell) (rest field behind : List ℕ) → StartsWithFields cells rest → 0 < length cells → IsField c field → rest ≡ field ++ behind → IsCellBefore cells c behind
next_cell [] c rest field behind s some is e = absurd (omega (arith, some))
next_cell (o ∷ os) c rest field behind s some is e =
    let first = first_field o os c rest field behind s is e in record { others = os; is = ap (λ d. d ∷ os) first.0; starts = first.1 }

-- what is left of a row's cells behind some whose fields stand in front
record AreCellsBehind (first cells : List Cell) (rest : List ℕ) : Type 0 where
  pub others : List Cell
  pub is : cells ≡ first ++ others
  pub starts : StartsWithFields others rest

cells_behind : (first cells : List Cell) (fields bytes rest : List ℕ) → AreFields first fields → bytes ≡ fields ++ rest → StartsWithFields cells bytes → length first ≤ length cells → AreCellsBehind first cells rest
cells_behind [] cells fields bytes rest each is s enough = record { others = cells; is = refl; starts = subst (λ (l : List ℕ). StartsWithFields cells l) (is ∙ ap (λ l. l ++ rest) each) s }
cells_behind (c ∷ cs) [] fields bytes rest each is s enough = absurd (omega (arith, enough))
cells_behind (c ∷ cs) (o ∷ os) fields bytes rest each is s enough =
    let here = is ∙ ap (λ l. l ++ rest) each.4 ∙ append_assoc each.0 each.1 rest in
    let first = first_field o os c bytes each.0 (each.1 ++ rest) s each.2 here in
    let next = cells_behind cs os each.1 (each.1 ++ rest) rest each.3 refl first.1 (omega (arith, enough)) in
    record { others = next.others; is = ap (λ d. d ∷ os) first.0 ∙ ap (λ l. c ∷ l) next.is; starts = next.starts }

-- ---- column by column

pub appends_none : (known : Known) (most : ℕ) (ts : List Shape) (bytes old : List ℕ) → AppendsFields known most (take 0 ts) bytes bytes old old
appends_none known most ts bytes old = record { cells = []; values = []; fields = []; many = refl; each = refl; is = refl; first = record { spelled = tt; fit = tt }; wrote = sym (append-nil old) }

-- one column more
pub appends_more : (known : Known) (most : ℕ) (ts : List Shape) (place : ℕ) (bytes rest old now new : List ℕ) (t : Shape) (c : Cell) (field behind : List ℕ) (v : Value)
    → IsAt ts place t → AppendsFields known most (take place ts) bytes rest old now → IsField c field → rest ≡ field ++ behind → Spells t c v → Fits most t v → new ≡ now ++ frame (canonical_cell known t v) → AppendsFields known most (take (place + 1) ts) bytes behind old new
appends_more known most ts place bytes rest old now new t c field behind v at a is e spells fits wrote =
    let values = a.values ++ (v ∷ []) in
    let before = canonical_fields known (take place ts) a.values in
    let fields = ap (λ us. canonical_fields known us values) at.first ∙ fields_more known (take place ts) a.cells a.values t v a.first.spelled in
    record {
      cells = a.cells ++ (c ∷ []);
      values = values;
      fields = a.fields ++ field;
      many = omega (arith, a.many, length-append a.cells (c ∷ []), ap length at.first, length-append (take place ts) (t ∷ []));
      each = fields_both a.cells (c ∷ []) a.fields field a.each (field, [], is, refl, sym (append-nil field));
      is = a.is ∙ ap (λ l. a.fields ++ l) e ∙ sym (append_assoc a.fields field behind);
      first = record {
        spelled = subst (λ (us : List Shape). SpellsRow us (a.cells ++ (c ∷ [])) values) (sym at.first) (spells_more (take place ts) a.cells a.values t c v a.many a.first.spelled spells);
        fit = subst (λ (us : List Shape). FitsRow most us values) (sym at.first) (fits_more most (take place ts) a.cells a.values t v a.first.spelled a.first.fit fits);
      };
      wrote = wrote ∙ ap (λ l. l ++ frame (canonical_cell known t v)) a.wrote ∙ append_assoc old before (frame (canonical_cell known t v)) ∙ ap (λ l. old ++ l) (sym fields);
    }

pub appends_all : (known : Known) (most : ℕ) (ts : List Shape) (place : ℕ) (bytes rest old now : List ℕ) → length ts ≤ place → AppendsFields known most (take place ts) bytes rest old now → AppendsFields known most ts bytes rest old now
appends_all known most ts place bytes rest old now done a = subst (λ (us : List Shape). AppendsFields known most us bytes rest old now) (take_all place ts done) a

-- ---- of a row that has enough fields

-- Behind the columns so far stand the fields of the next, and of others.
record HasNext (most : ℕ) (ts : List Shape) (place : ℕ) (cells first : List Cell) (rest : List ℕ) : Type 0 where
  pub behind : AreCellsBehind first cells rest
  pub some : 0 < length behind.others

has_next : (known : Known) (most : ℕ) (ts : List Shape) (place : ℕ) (cells : List Cell) (bytes rest old now : List ℕ) (t : Shape) → IsAt ts place t → HasRowFields ts cells bytes → (a : AppendsFields known most (take place ts) bytes rest old now) → HasNext most ts place cells a.cells rest
has_next known most ts place cells bytes rest old now t at row a =
    let b = cells_behind a.cells cells a.fields bytes rest a.each a.is row.starts (omega (arith, a.many, at.before, at.within, row.enough)) in
    record { behind = b; some = omega (arith, at.within, row.enough, a.many, at.before, ap length b.is, length-append a.cells b.others) }

pub next_not_cut : (known : Known) (most : ℕ) (ts : List Shape) (place : ℕ) (cells : List Cell) (bytes rest old now : List ℕ) (t : Shape) → IsAt ts place t → HasRowFields ts cells bytes → AppendsFields known most (take place ts) bytes rest old now → IsCutField rest → ⊥
next_not_cut known most ts place cells bytes rest old now t at row a cut =
    let n = has_next known most ts place cells bytes rest old now t at row a in not_cut n.behind.others rest n.behind.starts n.some cut

-- The next column is the first whose cell may be at fault.
pub column_at : (known : Known) (most : ℕ) (ts : List Shape) (place : ℕ) (cells : List Cell) (bytes rest old now : List ℕ) (t : Shape) (c : Cell) (field behind : List ℕ)
    → IsAt ts place t → HasRowFields ts cells bytes → AppendsFields known most (take place ts) bytes rest old now → IsField c field → rest ≡ field ++ behind → IsColumnAt most ts cells place t c
column_at known most ts place cells bytes rest old now t c field behind at row a is e =
    let h = has_next known most ts place cells bytes rest old now t at row a in
    let n = next_cell h.behind.others c rest field behind h.behind.starts h.some is e in
    record {
      before = take place ts;
      after = drop (place + 1) ts;
      spelling = a.cells;
      rest = n.others;
      values = a.values;
      columns_are = sym (take-append-drop place ts) ∙ ap (λ l. take place ts ++ l) at.rest;
      cells_are = h.behind.is ∙ ap (λ l. a.cells ++ l) n.is;
      place = at.before;
      spelled = a.first.spelled;
      each = a.many;
      fit = a.first.fit;
    }

-- The values are those that the first cells of the row spell.
pub spelled_first : (known : Known) (most : ℕ) (ts : List Shape) (cells : List Cell) (bytes rest old now : List ℕ) → HasRowFields ts cells bytes → (a : AppendsFields known most ts bytes rest old now) → SpellsFit most ts cells a.values
spelled_first known most ts cells bytes rest old now row a =
    let b = cells_behind a.cells cells a.fields bytes rest a.each a.is row.starts (omega (arith, a.many, row.enough)) in
    record { spelled = subst (λ (cs : List Cell). SpellsRow ts cs a.values) (sym b.is) (spells-append ts a.cells b.others a.values a.first.spelled); fit = a.first.fit }

-- ---- the canonical row

-- Behind the count of the columns their fields make the row.
pub row_wrote : (known : Known) (ts : List Shape) (many : ℕ) (old new : List ℕ) (vs : List Value) → many ≡ length ts → new ≡ (old ++ to_be_bytes w16 many) ++ canonical_fields known ts vs → new ≡ old ++ canonical_row known ts vs
row_wrote known ts many old new vs same wrote =
    wrote ∙ append_assoc old (to_be_bytes w16 many) (canonical_fields known ts vs) ∙ ap (λ n. old ++ (to_be_bytes w16 n ++ canonical_fields known ts vs)) same

-- Fields that are canonical as they stand.
pub appends_plain : (known : Known) (most : ℕ) (ts : List Shape) (values : List Value) (fields bytes rest old new plain : List ℕ) → IsPlainFields known most ts values fields → bytes ≡ fields ++ rest → plain ≡ fields → new ≡ old ++ plain → AppendsFields known most ts bytes rest old new
appends_plain known most ts values fields bytes rest old new plain p is same wrote = record {
  cells = canonical_cells known ts values;
  values = values;
  fields = fields;
  many = cells_many known ts values p.spelled;
  each = p.each;
  is = is;
  first = record { spelled = p.spelled; fit = p.fit };
  wrote = wrote ∙ ap (λ l. old ++ l) (same ∙ p.is);
}

-- The row that the columns' fields and those behind them make.
pub respells_front : (known : Known) (most : ℕ) (ts : List Shape) (count more many : ℕ) (bytes fields others old new : List ℕ) → count < 2 ^ 15 → bytes ≡ to_be_bytes w16 count ++ fields → many ≡ length ts → count ≡ length ts + more
    → AppendsFields known most ts fields others (old ++ to_be_bytes w16 many) new → (r : Option (Bor (List ℕ))) → IfSome r (λ rest. (cells : List Cell) × (behind : List ℕ) × (length cells ≡ more) × AreFields cells behind × (others ≡ behind ++ rest.now))
    → IfSome r (λ rest. RespellsRow known most ts bytes rest.now old new)
respells_front known most ts count more many bytes fields others old new few front same counts a None f = tt
respells_front known most ts count more many bytes fields others old new few front same counts a (Some rest) f =
    let x = to_be_bytes w16 count in
    let all = a.cells ++ f.0 in
    let both = a.fields ++ f.1 in
    record {
      row = x ++ both;
      values = a.values;
      is_row = record {
        cells = all;
        is = row_of count all x both (few, refl) (omega (arith, length-append a.cells f.0, a.many, f.2, counts)) (fields_both a.cells f.0 a.fields f.1 a.each f.3);
        spelled = spells-append ts a.cells f.0 a.values a.first.spelled;
        fit = a.first.fit;
      };
      is = front ∙ ap (λ l. x ++ l) (a.is ∙ ap (λ l. a.fields ++ l) f.4 ∙ sym (append_assoc a.fields f.1 rest.now)) ∙ sym (append_assoc x both rest.now);
      appended = row_wrote known ts many old new a.values same a.wrote;
    }
