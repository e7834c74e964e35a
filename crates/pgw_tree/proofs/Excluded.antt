-- Where a fault says what it says, no front of the bytes is a stream within the limits.
use Rattle.std.proofs.Common.{◌≡◌, ℕ, ℤ, ◌+◌, ◌<◌, ◌≤◌, List, [], ◌∷◌, ◌++◌, length, Some, refl, sym, ap, ◌∙◌, arith, append_assoc, append-nil, length-append, lit<, subst, inl, inr, ◌⊎◌}
use Rattle.std.specs.List.{AllByRecursion}
use Rattle.std.specs.Int.{to_be_bytes, w16, w32}
use Rattle.pgw_wire.specs.Cell.{Cell}
use Rattle.pgw_wire.specs.declared.kind.Break.{Break}
use Rattle.pgw_copy.specs.Format.{magic, IsFixedHeader, IsHeader, IsCutHeader, IsCount, IsRow, IsCutRow, trailer}
use Rattle.pgw_copy.specs.Reader.{IsBadHeader, HasHighFlags, HasNegativeExtension, IsBadCount}
use Rattle.pgw_tree.specs.declared.fault.CopyFault.{CopyFault}
use Rattle.pgw_tree.specs.declared.fault.CopyFault.TheVariants.{Truncated, ReadFault, WriteFault, NoMemory}
use Rattle.pgw_meta.specs.Shape.{Shape}
use Rattle.pgw_cell.specs.Value.{Value}
use Rattle.pgw_cell.specs.Cells.{Spells, Fits}
use Rattle.pgw_tree.specs.Spells.{SpellsRow}
use Rattle.pgw_tree.specs.Canonical.{FitsRow}
use Rattle.pgw_tree.specs.Columns.{BreaksAt, IsLongAt}
use Rattle.pgw_tree.specs.Stream.{AreRows, IsFront, IsValidStream}
use Rattle.pgw_tree.specs.Limits.{Limits}
use Rattle.pgw_tree.specs.Causes.{Form, HeaderCause, bad_header, bad_flags, truncated_header, read_fault_in_header, no_memory_at_first, RowCause, truncated, bad_field_count, unexpected_end_of_row, bad_value, too_long, row_limit, read_fault, no_memory, fault_says}
use Rattle.pgw_wire.proofs.Lists.{same_front, same_rest}
use Rattle.pgw_wire.proofs.Numbers.{same_number_2, same_number_4}
use Rattle.pgw_copy.proofs.Headers.{IsApart, no_fixed_header, length-fixed, same_fixed, header_splits}
use Rattle.pgw_tree.proofs.RowFields.{enough_cells, fields_once}
use Rattle.pgw_cell.proofs.Reading.{value_once, breaks_or_spells}
use Rattle.pgw_tree.proofs.Unique.{count_is_not_end, header_once, cells_once}

-- the faults that may come of any bytes
abbrev pub IsOutside : CopyFault → Type 0
IsOutside fault = (fault ≡ ReadFault) ⊎ (fault ≡ WriteFault) ⊎ (fault ≡ NoMemory)

-- a row, and what is behind it, by its count
row_parts : (cells : List Cell) (row behind : List ℕ) (h : IsRow cells row) → row ++ behind ≡ to_be_bytes w16 (length cells) ++ (h.fields ++ behind)
row_parts cells row behind h = ap (λ l. l ++ behind) h.is ∙ append_assoc (to_be_bytes w16 (length cells)) h.fields behind

-- A row is not the end.
row_no_end : (cells : List Cell) (row behind rest : List ℕ) → IsRow cells row → row ++ behind ≡ trailer ++ rest → ⊥
row_no_end cells row behind rest h e =
    count_is_not_end (length cells) (to_be_bytes w16 (length cells)) (h.fields ++ behind) rest (h.few, refl) (sym (row_parts cells row behind h) ∙ e)

-- Bytes begin with one row at most.
row_once : (cells others : List Cell) (x y behind rest : List ℕ) → IsRow cells x → IsRow others y → x ++ behind ≡ y ++ rest → (cells ≡ others) × (behind ≡ rest)
row_once cells others x y behind rest h k e =
    let b = to_be_bytes w16 (length cells) in
    let b' = to_be_bytes w16 (length others) in
    let both = sym (row_parts cells x behind h) ∙ e ∙ row_parts others y rest k in
    let many = same_number_2 (length cells) (length others) (omega (arith, h.few)) (omega (arith, k.few)) (same_front b b' (h.fields ++ behind) (k.fields ++ rest) refl both) in
    let after = same_rest b b' (h.fields ++ behind) (k.fields ++ rest) refl both in
    let fields = fields_once cells others h.fields k.fields behind rest many h.each k.each after in
    (cells_once cells others h.fields behind rest many h.each k.fields k.each after, same_rest h.fields k.fields behind rest (ap length fields) after)

-- the rows of a stream that are left behind its first ones
record Left (most : ℕ) (ts : List Shape) (first all : ℕ) (bytes after : List ℕ) : Type 0 where
  pub body : List ℕ
  pub rows : List (List Value)
  pub each : AreRows ts body rows
  pub fit : AllByRecursion (FitsRow most ts) rows
  pub is : bytes ≡ body ++ (trailer ++ after)
  pub many : first + length rows ≡ all

left_of : (most : ℕ) (ts : List Shape) (body other behind after : List ℕ) (rows others : List (List Value)) → AreRows ts body rows → AreRows ts other others → AllByRecursion (FitsRow most ts) others → body ++ behind ≡ other ++ (trailer ++ after) → Left most ts (length rows) (length others) behind after
left_of most ts body other behind after [] others each each' fit e = record {
  body = other;
  rows = others;
  each = each';
  fit = fit;
  is = ap (λ l. l ++ behind) (sym each) ∙ e;
  many = omega arith;
}
left_of most ts body other behind after (vs ∷ rows) [] each each' fit e =
    absurd (row_no_end each.0 each.1 (each.2 ++ behind) after each.3 (sym (ap (λ l. l ++ behind) each.6 ∙ append_assoc each.1 each.2 behind) ∙ e ∙ ap (λ l. l ++ (trailer ++ after)) each'))
left_of most ts body other behind after (vs ∷ rows) (ws ∷ others) each each' fit e =
    let whole = sym (ap (λ l. l ++ behind) each.6 ∙ append_assoc each.1 each.2 behind) ∙ e ∙ ap (λ l. l ++ (trailer ++ after)) each'.6 ∙ append_assoc each'.1 each'.2 (trailer ++ after) in
    let once = row_once each.0 each'.0 each.1 each'.1 (each.2 ++ behind) (each'.2 ++ (trailer ++ after)) each.3 each'.3 whole in
    let left = left_of most ts each.2 each'.2 behind after rows others each.5 each'.5 fit.1 once.1 in
    record { body = left.body; rows = left.rows; each = left.each; fit = left.fit; is = left.is; many = omega (arith, left.many) }

-- a row of values within the limits, behind so many others
record FirstRow (limits : Limits) (ts : List Shape) (before : ℕ) (bytes : List ℕ) : Type 0 where
  pub cells : List Cell
  pub row : List ℕ
  pub rest : List ℕ
  pub values : List Value
  pub is_row : IsRow cells row
  pub spelled : SpellsRow ts cells values
  pub fit : FitsRow limits.field_max ts values
  pub is : bytes ≡ row ++ rest
  pub allowed : before < limits.rows_max

-- what is behind the first rows of a stream
abbrev Goes : Limits → List Shape → ℕ → List ℕ → Type 0
Goes limits ts before bytes = ((after : List ℕ) × (bytes ≡ trailer ++ after)) ⊎ FirstRow limits ts before bytes

goes_rows : (limits : Limits) (ts : List Shape) (before all : ℕ) (bytes after body : List ℕ) (rows : List (List Value)) → AreRows ts body rows → AllByRecursion (FitsRow limits.field_max ts) rows → bytes ≡ body ++ (trailer ++ after) → before + length rows ≡ all → all ≤ limits.rows_max → Goes limits ts before bytes
goes_rows limits ts before all bytes after body [] each fit is many few = inl (after, is ∙ ap (λ l. l ++ (trailer ++ after)) each)
goes_rows limits ts before all bytes after body (vs ∷ rows) each fit is many few =
    inr record {
      cells = each.0;
      row = each.1;
      rest = each.2 ++ (trailer ++ after);
      values = vs;
      is_row = each.3;
      spelled = each.4;
      fit = fit.0;
      is = is ∙ ap (λ l. l ++ (trailer ++ after)) each.6 ∙ append_assoc each.1 each.2 (trailer ++ after);
      allowed = omega (arith, many, few);
    }

-- a stream is a header, and what is behind it
stream_parts : (limits : Limits) (ts : List Shape) (front behind : List ℕ) (v : IsValidStream limits ts front) → front ++ behind ≡ v.1.begins.header ++ (v.1.begins.body ++ (trailer ++ behind))
stream_parts limits ts front behind v =
    let f = v.1.begins in
    ap (λ l. l ++ behind) (v.1.is ∙ ap (λ l. l ++ trailer) f.is) ∙ append_assoc (f.header ++ f.body) trailer behind ∙ append_assoc f.header f.body (trailer ++ behind)

goes : (limits : Limits) (ts : List Shape) (start bytes front behind : List ℕ) (rows : List (List Value)) → IsFront ts start rows → IsValidStream limits ts front → start ++ bytes ≡ front ++ behind → Goes limits ts (length rows) bytes
goes limits ts start bytes front behind rows s v e =
    let f = v.1.begins in
    let rest = f.body ++ (trailer ++ behind) in
    let whole = sym (ap (λ l. l ++ bytes) s.is ∙ append_assoc s.header s.body bytes) ∙ e ∙ stream_parts limits ts front behind v in
    let same = header_once s.header f.header (s.body ++ bytes) rest s.begins f.begins whole in
    let left = left_of limits.field_max ts s.body f.body bytes behind rows v.0 s.each f.each v.2.fit (same_rest s.header f.header (s.body ++ bytes) rest (ap length same) whole) in
    goes_rows limits ts (length rows) (length v.0) bytes behind left.body left.rows left.each left.fit left.is left.many v.2.few

-- A row that is cut short is no row and not the end.
cut_goes : (limits : Limits) (ts : List Shape) (before : ℕ) (bytes : List ℕ) → IsCutRow bytes → Goes limits ts before bytes → ⊥
cut_goes limits ts before bytes (inl short) (inl end) = absurd (omega (arith, short, ap length end.1))
cut_goes limits ts before bytes (inl short) (inr f) = absurd (omega (arith, short, ap length f.is, length-append f.row f.rest, ap length f.is_row.is, length-append (to_be_bytes w16 (length f.cells)) f.is_row.fields))
cut_goes limits ts before bytes (inr cut) (inl end) = count_is_not_end cut.0 (to_be_bytes w16 cut.0) cut.1 end.0 (cut.2, refl) (sym cut.3 ∙ end.1)
cut_goes limits ts before bytes (inr cut) (inr f) = cut.4 f.cells f.row f.rest f.is_row f.is

-- No count below -1 is the end, or in front of a row.
bad_count_goes : (limits : Limits) (ts : List Shape) (before : ℕ) (count : ℤ) (bytes rest : List ℕ) → IsBadCount count bytes → Goes limits ts before (bytes ++ rest) → ⊥
bad_count_goes limits ts before count bytes rest bad (inl end) =
    let n = bad.unsigned in
    let same = same_front (to_be_bytes w16 n) trailer rest end.0 refl (ap (λ l. l ++ rest) (sym bad.is) ∙ end.1) in
    absurd (omega (arith, bad.below, same_number_2 n 65535 (omega (arith, bad.below)) (lit< tt) same))
bad_count_goes limits ts before count bytes rest bad (inr f) =
    let n = bad.unsigned in
    let same = same_front (to_be_bytes w16 n) (to_be_bytes w16 (length f.cells)) rest (f.is_row.fields ++ f.rest) refl (ap (λ l. l ++ rest) (sym bad.is) ∙ f.is ∙ row_parts f.cells f.row f.rest f.is_row) in
    absurd (omega (arith, bad.negative, f.is_row.few, same_number_2 n (length f.cells) (omega (arith, bad.below)) (omega (arith, f.is_row.few)) same))

-- Behind as many rows as may be copied stands no count of a row.
full_goes : (limits : Limits) (ts : List Shape) (before count : ℕ) (bytes rest : List ℕ) → IsCount (Some count) bytes → before ≡ limits.rows_max → Goes limits ts before (bytes ++ rest) → ⊥
full_goes limits ts before count bytes rest is full (inl end) = count_is_not_end count bytes rest end.0 is end.1
full_goes limits ts before count bytes rest is full (inr f) = absurd (omega (arith, full, f.allowed))

-- values that a row of these cells spells, and which fit
abbrev SpellsFit : Limits → List Shape → List Cell → Type 0
SpellsFit limits ts cells = (values : List Value) × SpellsRow ts cells values × FitsRow limits.field_max ts values

-- A row there spells values that fit.
row_goes : (limits : Limits) (ts : List Shape) (before : ℕ) (cells : List Cell) (bytes rest : List ℕ) → IsRow cells bytes → Goes limits ts before (bytes ++ rest) → SpellsFit limits ts cells
row_goes limits ts before cells bytes rest h (inl end) = absurd (row_no_end cells bytes rest end.0 h end.1)
row_goes limits ts before cells bytes rest h (inr f) =
    let once = row_once cells f.cells bytes f.row rest f.rest h f.is_row f.is in
    subst (λ (cs : List Cell). SpellsFit limits ts cs) (sym once.0) (f.values, f.spelled, f.fit)

-- the value of one column
value_at : (most : ℕ) (before after : List Shape) (t : Shape) (spelling rest : List Cell) (cell : Cell) (values : List Value) → length spelling ≡ length before → SpellsRow (before ++ (t ∷ after)) (spelling ++ (cell ∷ rest)) values → FitsRow most (before ++ (t ∷ after)) values → (v : Value) × Spells t cell v × Fits most t v
value_at most [] after t [] rest cell [] each s fit = absurd s
value_at most [] after t [] rest cell (v ∷ vs) each s fit = (v, s.0, fit.0)
value_at most [] after t (c ∷ cs) rest cell values each s fit = absurd (omega (arith, each))
value_at most (u ∷ us) after t [] rest cell values each s fit = absurd (omega (arith, each))
value_at most (u ∷ us) after t (c ∷ cs) rest cell [] each s fit = absurd s
value_at most (u ∷ us) after t (c ∷ cs) rest cell (v ∷ vs) each s fit = value_at most us after t cs rest cell vs (omega (arith, each)) s.1 fit.1

breaks_fit : (limits : Limits) (ts : List Shape) (cells : List Cell) (column : ℕ) (kind : Break) → BreaksAt limits.field_max ts cells column kind → SpellsFit limits ts cells → ⊥
breaks_fit limits ts cells column kind b s =
    let i = b.placed in
    let at = subst (λ (us : List Shape). SpellsFit limits us (i.spelling ++ (b.cell ∷ i.rest))) i.columns_are (subst (λ (cs : List Cell). SpellsFit limits ts cs) i.cells_are s) in
    let v = value_at limits.field_max i.before i.after b.t i.spelling i.rest b.cell at.0 i.each at.1 at.2 in
    breaks_or_spells b.t b.cell v.0 kind v.1 b.breaks

long_fit : (limits : Limits) (ts : List Shape) (cells : List Cell) (column : ℕ) → IsLongAt limits.field_max ts cells column → SpellsFit limits ts cells → ⊥
long_fit limits ts cells column b s =
    let i = b.placed in
    let at = subst (λ (us : List Shape). SpellsFit limits us (i.spelling ++ (b.cell ∷ i.rest))) i.columns_are (subst (λ (cs : List Cell). SpellsFit limits ts cs) i.cells_are s) in
    let v = value_at limits.field_max i.before i.after b.t i.spelling i.rest b.cell at.0 i.each at.1 at.2 in
    b.long (subst (λ (w : Value). Fits limits.field_max b.t w) (value_once b.t b.cell v.0 b.value v.1 b.spells) v.2)

-- what a fault says behind rows
row_excluded : (limits : Limits) (ts : List Shape) (before : ℕ) (fault : CopyFault) (bytes rest : List ℕ) → RowCause limits ts before fault bytes → (fault ≡ Truncated → rest ≡ []) → Goes limits ts before (bytes ++ rest) → IsOutside fault
row_excluded limits ts before fault bytes rest (truncated is cut) end g =
    absurd (cut_goes limits ts before bytes cut.0 (subst (λ (l : List ℕ). Goes limits ts before l) (ap (λ l. bytes ++ l) (end is) ∙ append-nil bytes) g))
row_excluded limits ts before fault bytes rest (bad_field_count count is bad) end g = absurd (bad_count_goes limits ts before count bytes rest bad g)
row_excluded limits ts before fault bytes rest (unexpected_end_of_row cells is row few) end g =
    let s = row_goes limits ts before cells bytes rest row.is g in
    absurd (omega (arith, few, enough_cells ts cells s.0 s.1))
row_excluded limits ts before fault bytes rest (bad_value cells column kind is row breaks) end g = absurd (breaks_fit limits ts cells column kind breaks (row_goes limits ts before cells bytes rest row.is g))
row_excluded limits ts before fault bytes rest (too_long cells column is row long) end g = absurd (long_fit limits ts cells column long (row_goes limits ts before cells bytes rest row.is g))
row_excluded limits ts before fault bytes rest (row_limit count is count_is full) end g = absurd (full_goes limits ts before count bytes rest count_is full g)
row_excluded limits ts before fault bytes rest (read_fault is cut) end g = inl is
row_excluded limits ts before fault bytes rest (no_memory is allowed part) end g = inr (inr is)

-- Bytes that are no fixed part of a header.
negative_fixed : (bytes : List ℕ) (extension : ℕ) → HasNegativeExtension bytes → IsFixedHeader bytes extension → ⊥
negative_fixed bytes extension n h =
    let a : IsApart bytes magic n.flags n.extension = record {
      behind = to_be_bytes w32 n.flags ++ to_be_bytes w32 n.extension;
      numbers = to_be_bytes w32 n.extension;
      rest = [];
      long = refl;
      first = n.is ∙ append_assoc magic (to_be_bytes w32 n.flags) (to_be_bytes w32 n.extension);
      second = refl;
      third = sym (append-nil (to_be_bytes w32 n.extension));
      flags_fit = omega (arith, n.low);
      extension_fits = n.fits;
    } in
    let no = no_fixed_header bytes magic n.flags n.extension extension a h in
    omega (arith, no.2, n.negative)

bad_fixed : (bytes : List ℕ) (extension : ℕ) → IsBadHeader bytes → IsFixedHeader bytes extension → ⊥
bad_fixed bytes extension (nineteen, inl other) h = other (to_be_bytes w32 h.flags ++ to_be_bytes w32 extension) (h.is ∙ append_assoc magic (to_be_bytes w32 h.flags) (to_be_bytes w32 extension))
bad_fixed bytes extension (nineteen, inr n) h = negative_fixed bytes extension n h

flags_fixed : (flags : ℕ) (bytes : List ℕ) (extension : ℕ) → HasHighFlags flags bytes → IsFixedHeader bytes extension → ⊥
flags_fixed flags bytes extension f h =
    let b = to_be_bytes w32 flags in
    let b' = to_be_bytes w32 h.flags in
    let e' = to_be_bytes w32 extension in
    let whole = sym (append_assoc magic b f.rest) ∙ sym f.is ∙ h.is ∙ append_assoc magic b' e' in
    let same = same_number_4 flags h.flags f.fits (omega (arith, h.low)) (same_front b b' f.rest e' refl (same_rest magic magic (b ++ f.rest) (b' ++ e') refl whole)) in
    omega (arith, same, f.high, h.low)

-- what has 19 bytes is the fixed part
fixed_of : (bytes rest header behind : List ℕ) (h : IsHeader header) → length bytes ≡ 19 → bytes ++ rest ≡ header ++ behind → IsFixedHeader bytes (length h.extension)
fixed_of bytes rest header behind h nineteen e = subst (λ (l : List ℕ). IsFixedHeader l (length h.extension)) (sym (same_fixed bytes rest header behind h nineteen e)) h.begins

-- A header that is cut short does not begin with a header.
cut_header : (bytes header behind : List ℕ) → IsCutHeader bytes → IsHeader header → bytes ≡ header ++ behind → ⊥
cut_header bytes header behind (inl short) h e =
    omega (arith, short, ap length e, length-append header behind, ap length h.is, length-append h.fixed h.extension, length-fixed h.fixed (length h.extension) h.begins)
cut_header bytes header behind (inr cut) h e =
    let s = header_splits cut.0 cut.1 header behind cut.2 cut.3 h (sym cut.4 ∙ e) in
    omega (arith, cut.5, s.1, ap length (sym cut.4 ∙ e), length-append cut.0 cut.1, length-append header behind, ap length s.2, length-append cut.0 s.0)

header_excluded : (fault : CopyFault) (bytes rest header behind : List ℕ) → HeaderCause fault bytes → (fault ≡ Truncated → rest ≡ []) → IsHeader header → bytes ++ rest ≡ header ++ behind → IsOutside fault
header_excluded fault bytes rest header behind (bad_header is bad) end h e = absurd (bad_fixed bytes (length h.extension) bad (fixed_of bytes rest header behind h bad.0 e))
header_excluded fault bytes rest header behind (bad_flags flags is high) end h e =
    let nineteen : length bytes ≡ 19 = omega (arith, ap length high.is, length-append (magic ++ to_be_bytes w32 flags) high.rest, high.four) in
    absurd (flags_fixed flags bytes (length h.extension) high (fixed_of bytes rest header behind h nineteen e))
header_excluded fault bytes rest header behind (truncated_header is cut) end h e = absurd (cut_header bytes header behind cut h (sym (ap (λ l. bytes ++ l) (end is) ∙ append-nil bytes) ∙ e))
header_excluded fault bytes rest header behind (read_fault_in_header is cut) end h e = inl is
header_excluded fault bytes rest header behind (no_memory_at_first is none) end h e = inr (inr is)

-- Where a fault of the bytes says what it says, no front of all bytes is a stream within the limits.
pub excluded : (limits : Limits) (ts : List Shape) (form : Form) (fault : CopyFault) (Written : List ℕ → Type 0) (taken rest front behind : List ℕ) → fault_says limits ts form fault Written taken → (fault ≡ Truncated → rest ≡ []) → IsValidStream limits ts front → taken ++ rest ≡ front ++ behind → IsOutside fault
excluded limits ts form fault Written taken rest front behind (inl h) end v e =
    header_excluded fault taken rest v.1.begins.header (v.1.begins.body ++ (trailer ++ behind)) h.0 end v.1.begins.begins (e ∙ stream_parts limits ts front behind v)
excluded limits ts form fault Written taken rest front behind (inr (inl s)) end v e =
    row_excluded limits ts (length s.rows) fault s.behind rest s.cause end
    (goes limits ts s.front (s.behind ++ rest) front behind s.rows s.begins v (sym (ap (λ l. l ++ rest) s.is ∙ append_assoc s.front s.behind rest) ∙ e))
excluded limits ts form fault Written taken rest front behind (inr (inr w)) end v e = inr (inl w.0)
