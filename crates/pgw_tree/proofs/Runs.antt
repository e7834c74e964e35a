-- Rows that were copied from bytes that a source shows, behind those that were copied before.
use Rattle.std.proofs.Common.{◌≡◌, ℕ, length-drop, ◌+◌, ◌-◌, ◌<◌, ◌≤◌, List, [], ◌∷◌, ◌++◌, length, take, drop, Bool, true, false, Result, Ok, Err, inl, inr, refl, sym, ap, ◌∙◌, arith, subst, append_assoc, append-nil, length-append}
use Rattle.std.specs.Int.{to_be_bytes, w16}
use Rattle.std.specs.List.{flat_map, AllByRecursion}
use Rattle.std.proofs.Math.Seq.{take-add, take-append-add}
use Rattle.std.proofs.lemmas.List.{take-append-drop, take-append-le}
use Rattle.std.proofs.lemmas.Grind.{flat_map-append}
use Rattle.std.specs.Option.{ok_or}
use Rattle.std.specs.Io.KnownBytes.{Keeps}
use Rattle.pgw_wire.specs.Outside.{SourceState, SinkState, left, GoesOn, Took, TookReady, HasFailed, Wrote, WroteFront}
use Rattle.pgw_wire.proofs.Taking.{took_consumed, took_kept, takes_done, takes_refused, takes_later}
use Rattle.pgw_wire.proofs.Adding.{wrote_then}
use Rattle.pgw_copy.specs.Reader.{IsWholeRow}
use Rattle.pgw_meta.specs.Shape.{Shape}
use Rattle.pgw_cell.specs.Value.{Value}
use Rattle.pgw_tree.specs.Spells.{SpellsRow}
use Rattle.pgw_tree.specs.Canonical.{FitsRow, canonical_row, canonical_front}
use Rattle.pgw_tree.specs.Stream.{AreRows, IsFront, IsWithin}
use Rattle.pgw_tree.specs.Limits.{Limits}
use Rattle.pgw_tree.specs.Copying.{IsValuesRow, IsCopying, Copies}
use Rattle.pgw_tree.specs.Causes.{fault_says, in_row, RowCause, read_fault}
use Rattle.pgw_tree.specs.declared.fault.CopyFault.{CopyFault}
use Rattle.pgw_tree.specs.declared.fault.CopyFault.TheVariants.{WriteFault}
use Rattle.pgw_wire.specs.Cell.{Cell}
use Rattle.pgw_copy.specs.Format.{IsRow, canonical_header}
use Rattle.pgw_wire.proofs.Lists.{same_front, same_rest}
use Rattle.pgw_wire.proofs.Numbers.{same_number_2}
use Rattle.pgw_tree.specs.Plain.{IsPlainRow, ArePlainRows}
use Rattle.pgw_tree.specs.declared.shown.CopiedFront.{CopiedFront}
use Rattle.pgw_tree.specs.declared.shown.CopiedFront.TheVariants.{Whole, Broken}
use Rattle.pgw_tree.specs.Runs.{AreRespelled, EndsInRow, IsRun, IsBrokenRun, rows_fault, shown_fault, length_of, rows_of, copied_says}
use Rattle.pgw_tree.proofs.Copies.{front_more, within_more, rows_more, canonical_more}
use Rattle.pgw_tree.proofs.RowFields.{fields_once}
use Rattle.pgw_tree.proofs.PlainRows.{rows_one_more, plain_rows_fit, plain_rows_are}
use Rattle.pgw_meta.specs.Known.{Known}

-- Bytes begin with one row at most.
pub row_once : (cells others : List Cell) (x x' behind rest : List ℕ) → IsRow cells x → IsRow others x' → x ++ behind ≡ x' ++ rest → x ≡ x'
row_once cells others x x' behind rest r r' e =
    let b = to_be_bytes w16 (length cells) in
    let b' = to_be_bytes w16 (length others) in
    let both = sym (ap (λ l. l ++ behind) r.is ∙ append_assoc b r.fields behind) ∙ e ∙ ap (λ l. l ++ rest) r'.is ∙ append_assoc b' r'.fields rest in
    let many = same_number_2 (length cells) (length others) (omega (arith, r.few)) (omega (arith, r'.few)) (same_front b b' (r.fields ++ behind) (r'.fields ++ rest) refl both) in
    let fields = fields_once cells others r.fields r'.fields behind rest many r.each r'.each (same_rest b b' (r.fields ++ behind) (r'.fields ++ rest) refl both) in
    r.is ∙ ap (λ n. to_be_bytes w16 n ++ r.fields) many ∙ ap (λ l. b' ++ l) fields ∙ sym r'.is

-- Rows, some of which are the bytes in front and the others the rest, and so is their canonical form.
pub record AreSplit (known : Known) (most : ℕ) (columns : List Shape) (rows : List (List Value)) (canonical rest front behind : List ℕ) : Type 0 where
  pub before : List (List Value)
  pub after : List (List Value)
  pub rows_are : rows ≡ before ++ after
  pub plain : ArePlainRows known most columns canonical before
  pub plain_after : ArePlainRows known most columns rest after
  pub each : AreRows columns front before
  pub each_after : AreRows columns behind after

pub none_before : (known : Known) (most : ℕ) (columns : List Shape) (many : ℕ) (canonical bytes : List ℕ) (all : AreRespelled known most columns many canonical bytes) → AreSplit known most columns all.rows [] canonical [] bytes
none_before known most columns many canonical bytes all = record { before = []; after = all.rows; rows_are = refl; plain = refl; plain_after = all.plain; each = refl; each_after = all.each }

-- The first of the rows that are the rest.
pub record IsNext (known : Known) (most : ℕ) (columns : List Shape) (after : List (List Value)) (rest behind : List ℕ) : Type 0 where
  pub values : List Value
  pub others : List (List Value)
  pub canonical : List ℕ
  pub canonical_rest : List ℕ
  pub cells : List Cell
  pub row : List ℕ
  pub row_rest : List ℕ
  pub after_is : after ≡ values ∷ others
  pub plain : IsPlainRow known most columns canonical values
  pub plain_after : ArePlainRows known most columns canonical_rest others
  pub canonical_is : rest ≡ canonical ++ canonical_rest
  pub is_row : IsRow cells row
  pub spelled : SpellsRow columns cells values
  pub each_after : AreRows columns row_rest others
  pub row_is : behind ≡ row ++ row_rest

pub next_of : (known : Known) (most : ℕ) (columns : List Shape) (after : List (List Value)) (rest behind : List ℕ) → ArePlainRows known most columns rest after → AreRows columns behind after → 0 < length rest → IsNext known most columns after rest behind
next_of known most columns [] rest behind plain each some = absurd (omega (arith, some, ap length plain))
next_of known most columns (vs ∷ after) rest behind plain each some = record {
  values = vs;
  others = after;
  canonical = plain.0;
  canonical_rest = plain.1;
  cells = each.0;
  row = each.1;
  row_rest = each.2;
  after_is = refl;
  plain = plain.2;
  plain_after = plain.3;
  canonical_is = plain.4;
  is_row = each.3;
  spelled = each.4;
  each_after = each.5;
  row_is = each.6;
}

-- what stands behind a row at the front, which is known to be one
cut_at : (cells others : List Cell) (row rest cut behind bytes : List ℕ) → IsRow cells row → IsRow others cut → bytes ≡ row ++ rest → bytes ≡ cut ++ behind → (row ≡ cut) × (rest ≡ behind)
cut_at cells others row rest cut behind bytes r q is e =
    let both = sym is ∙ e in
    let same = row_once cells others row cut rest behind r q both in
    (same, same_rest row cut rest behind (ap length same) both)

-- the row that was walked over in the canonical form, and the one among the bytes
pub record IsCutAt (rest behind canonical canonical_rest row row_rest : List ℕ) : Type 0 where
  pub canonical_row : IsWholeRow canonical
  pub canonical_is : rest ≡ canonical ++ canonical_rest
  pub is_row : IsWholeRow row
  pub row_is : behind ≡ row ++ row_rest

-- The first of the rows that are left is the one that was walked over.
pub record IsWalked (known : Known) (most : ℕ) (columns : List Shape) (after : List (List Value)) (cut cut_rest row row_rest : List ℕ) : Type 0 where
  pub values : List Value
  pub others : List (List Value)
  pub cells : List Cell
  pub after_is : after ≡ values ∷ others
  pub plain : IsPlainRow known most columns cut values
  pub plain_after : ArePlainRows known most columns cut_rest others
  pub is_row : IsRow cells row
  pub spelled : SpellsRow columns cells values
  pub each_after : AreRows columns row_rest others

walked : (known : Known) (most : ℕ) (columns : List Shape) (after : List (List Value)) (rest behind cut cut_rest row row_rest : List ℕ) → IsNext known most columns after rest behind → IsCutAt rest behind cut cut_rest row row_rest → IsWalked known most columns after cut cut_rest row row_rest
walked known most columns after rest behind cut cut_rest row row_rest n at =
    let same = cut_at n.plain.row.cells at.canonical_row.0 n.canonical n.canonical_rest cut cut_rest rest n.plain.row.is at.canonical_row.1 n.canonical_is at.canonical_is in
    let same_row = cut_at n.cells at.is_row.0 n.row n.row_rest row row_rest behind n.is_row at.is_row.1 n.row_is at.row_is in
    record {
      values = n.values;
      others = n.others;
      cells = n.cells;
      after_is = n.after_is;
      plain = subst (λ (l : List ℕ). IsPlainRow known most columns l n.values) same.0 n.plain;
      plain_after = subst (λ (l : List ℕ). ArePlainRows known most columns l n.others) same.1 n.plain_after;
      is_row = subst (λ (l : List ℕ). IsRow n.cells l) same_row.0 n.is_row;
      spelled = n.spelled;
      each_after = subst (λ (l : List ℕ). AreRows columns l n.others) same_row.1 n.each_after;
    }

pub one_before : (known : Known) (most : ℕ) (columns : List Shape) (rows : List (List Value)) (canonical rest front behind cut cut_rest row row_rest : List ℕ) → AreSplit known most columns rows canonical rest front behind → 0 < length rest → IsCutAt rest behind cut cut_rest row row_rest → AreSplit known most columns rows (canonical ++ cut) cut_rest (front ++ row) row_rest
one_before known most columns rows canonical rest front behind cut cut_rest row row_rest s some at =
    let n = walked known most columns s.after rest behind cut cut_rest row row_rest (next_of known most columns s.after rest behind s.plain_after s.each_after some) at in
    record {
      before = s.before ++ (n.values ∷ []);
      after = n.others;
      rows_are = s.rows_are ∙ ap (λ l. s.before ++ l) n.after_is ∙ sym (append_assoc s.before (n.values ∷ []) n.others);
      plain = rows_one_more known most columns canonical cut s.before n.values s.plain n.plain;
      plain_after = n.plain_after;
      each = rows_more columns front row s.before n.cells n.values s.each n.is_row n.spelled;
      each_after = n.each_after;
    }

pub ends_in : (known : Known) (most : ℕ) (columns : List Shape) (rows : List (List Value)) (canonical rest front behind cut cut_rest row row_rest bytes : List ℕ) (sent : ℕ) → AreSplit known most columns rows canonical rest front behind → 0 < length rest → IsCutAt rest behind cut cut_rest row row_rest
    → length canonical ≤ sent → sent < length canonical + length cut → bytes ≡ front ++ row → EndsInRow known most columns rows sent bytes
ends_in known most columns rows canonical rest front behind cut cut_rest row row_rest bytes sent s some at begun ends is =
    let n = walked known most columns s.after rest behind cut cut_rest row row_rest (next_of known most columns s.after rest behind s.plain_after s.each_after some) at in
    let prior = plain_rows_are known most columns canonical s.before s.plain in
    record {
      before = s.before;
      last = n.values;
      after = n.others;
      front = front;
      row = row;
      rows_are = s.rows_are ∙ ap (λ l. s.before ++ l) n.after_is;
      each = s.each;
      is_last = record { cells = n.cells; is = n.is_row; spelled = n.spelled; fit = n.plain.row.fit };
      is = is;
      begun = omega (arith, begun, ap length prior);
      ends = omega (arith, ends, ap length prior, ap length n.plain.is);
    }

-- Where rows are left, one stands in front of them, and so does one in front of their canonical form.
pub no_end : (known : Known) (most : ℕ) (columns : List Shape) (rows : List (List Value)) (canonical rest front behind : List ℕ) → AreSplit known most columns rows canonical rest front behind → 0 < length rest
    → ((cells : List Cell) (row after : List ℕ) → IsRow cells row → rest ≡ row ++ after → ⊥) → ⊥
no_end known most columns rows canonical rest front behind s some none =
    let n = next_of known most columns s.after rest behind s.plain_after s.each_after some in
    none n.plain.row.cells n.canonical n.canonical_rest n.plain.row.is n.canonical_is

pub no_row_end : (known : Known) (most : ℕ) (columns : List Shape) (rows : List (List Value)) (canonical rest front behind : List ℕ) → AreSplit known most columns rows canonical rest front behind → 0 < length rest
    → ((cells : List Cell) (row after : List ℕ) → IsRow cells row → behind ≡ row ++ after → ⊥) → ⊥
no_row_end known most columns rows canonical rest front behind s some none =
    let n = next_of known most columns s.after rest behind s.plain_after s.each_after some in
    none n.cells n.row n.row_rest n.is_row n.row_is

rows_append : (ts : List Shape) (body x : List ℕ) (rows more : List (List Value)) → AreRows ts body rows → AreRows ts x more → AreRows ts (body ++ x) (rows ++ more)
rows_append ts body x [] more each k = subst (λ (l : List ℕ). AreRows ts (l ++ x) more) (sym each) k
rows_append ts body x (ws ∷ rows) more each k =
    (each.0, each.1, each.2 ++ x, each.3, each.4, rows_append ts each.2 x rows more each.5 k, ap (λ l. l ++ x) each.6 ∙ append_assoc each.1 each.2 x)

all_append : {A : Type 0} (P : A → Type 0) (xs ys : List A) → AllByRecursion P xs → AllByRecursion P ys → AllByRecursion P (xs ++ ys)
all_append P [] ys h k = k
all_append P (x ∷ xs) ys h k = (h.0, all_append P xs ys h.1 k)

front_append : (ts : List Shape) (front x : List ℕ) (rows more : List (List Value)) → IsFront ts front rows → AreRows ts x more → IsFront ts (front ++ x) (rows ++ more)
front_append ts front x rows more f each = record {
  header = f.header;
  body = f.body ++ x;
  begins = f.begins;
  each = rows_append ts f.body x rows more f.each each;
  is = ap (λ l. l ++ x) f.is ∙ append_assoc f.header f.body x;
}

canonical_append : (known : Known) (ts : List Shape) (rows more : List (List Value)) → canonical_front known ts (rows ++ more) ≡ canonical_front known ts rows ++ flat_map (canonical_row known ts) more
canonical_append known ts rows more =
    ap (λ l. canonical_header ++ l) (flat_map-append (canonical_row known ts) rows more) ∙ sym (append_assoc canonical_header (flat_map (canonical_row known ts) rows) (flat_map (canonical_row known ts) more))

within_append : (limits : Limits) (ts : List Shape) (rows more : List (List Value)) → IsWithin limits ts rows → AllByRecursion (FitsRow limits.field_max ts) more → length rows + length more ≤ limits.rows_max → IsWithin limits ts (rows ++ more)
within_append limits ts rows more w fit few = record {
  few = omega (arith, few, length-append rows more);
  fit = all_append (FitsRow limits.field_max ts) rows more w.fit fit;
}

-- Nothing was copied.
pub run_none : (known : Known) (limits : Limits) (ts : List Shape) (n : ℕ) (Written : List ℕ → Type 0) → n ≤ limits.rows_max → Written [] → IsRun known limits ts n n Written []
run_none known limits ts n Written few written = record { rows = []; each = refl; fit = tt; counted = omega arith; few = few; written = written }

-- Rows were copied, whose canonical form was written.
pub run_whole : (known : Known) (limits : Limits) (ts : List Shape) (n many : ℕ) (Written : List ℕ → Type 0) (canonical bytes : List ℕ) → n + many ≤ limits.rows_max → AreRespelled known limits.field_max ts many canonical bytes → Written canonical → IsRun known limits ts n (n + many) Written bytes
run_whole known limits ts n many Written canonical bytes few all written = record {
  rows = all.rows;
  each = all.each;
  fit = plain_rows_fit known limits.field_max ts canonical all.rows all.plain;
  counted = omega (arith, all.as_many);
  few = few;
  written = subst Written (plain_rows_are known limits.field_max ts canonical all.rows all.plain) written;
}

-- Rows were copied, and rows behind them.
pub run_more : (known : Known) (limits : Limits) (ts : List Shape) (n m k : ℕ) {O : Type 0} {a b c : SinkState O} (x y : List ℕ) → IsRun known limits ts n m (Wrote a b) x → IsRun known limits ts m k (Wrote b c) y → IsRun known limits ts n k (Wrote a c) (x ++ y)
run_more known limits ts n m k {a = a} {c = c} x y r q = record {
  rows = r.rows ++ q.rows;
  each = rows_append ts x y r.rows q.rows r.each q.each;
  fit = all_append (FitsRow limits.field_max ts) r.rows q.rows r.fit q.fit;
  counted = omega (arith, r.counted, q.counted, length-append r.rows q.rows);
  few = q.few;
  written = subst (λ (l : List ℕ). Wrote a c l) (sym (flat_map-append (canonical_row known ts) r.rows q.rows)) (wrote_then r.written q.written);
}

-- One row was copied.
pub run_one : (known : Known) (limits : Limits) (ts : List Shape) (n : ℕ) (Written : List ℕ → Type 0) (row : List ℕ) (vs : List Value) → n < limits.rows_max → IsValuesRow limits.field_max ts row vs → Written (canonical_row known ts vs) → IsRun known limits ts n (n + 1) Written row
run_one known limits ts n Written row vs more r written = record {
  rows = vs ∷ [];
  each = (r.cells, row, [], r.is, r.spelled, refl, sym (append-nil row));
  fit = (r.fit, tt);
  counted = refl;
  few = omega (arith, more);
  written = subst Written (sym (append-nil (canonical_row known ts vs))) written;
}

-- The sink failed in one row.
pub broken_one : (known : Known) (limits : Limits) (ts : List Shape) (n : ℕ) {O : Type 0} {a b : SinkState O} (row : List ℕ) (vs : List Value) → n < limits.rows_max → IsValuesRow limits.field_max ts row vs → WroteFront (Wrote a b) (canonical_row known ts vs) → IsBrokenRun known limits ts n (Wrote a b) row
broken_one known limits ts n row vs more r w = record {
  rows = [];
  last = vs;
  front = [];
  row = row;
  each = refl;
  fit = tt;
  is_last = r;
  is = refl;
  few = omega (arith, more);
  part = record { front = w.front; rest = w.rest; is = w.is; missing = w.missing; written = w.written };
}

-- so many bytes of some rows, of one row more, and of what is behind
sent_part : (prior last more : List ℕ) (sent : ℕ) → length prior ≤ sent → sent < length prior + length last → take sent (prior ++ (last ++ more)) ≡ prior ++ take (sent - length prior) last
sent_part prior last more sent begun ends =
    let part = sent - length prior in
    let split : sent ≡ length prior + part = omega (arith, begun) in
    ap (λ k. take k (prior ++ (last ++ more))) split ∙ take-append-add prior (last ++ more) part ∙ ap (λ l. prior ++ l) (take-append-le part last more (omega (arith, ends, begun)))

-- The canonical form of rows, of which one is the last that was sent.
form_of : (known : Known) (ts : List Shape) (before after : List (List Value)) (last : List Value) → flat_map (canonical_row known ts) (before ++ (last ∷ after)) ≡ flat_map (canonical_row known ts) before ++ (canonical_row known ts last ++ flat_map (canonical_row known ts) after)
form_of known ts before after last = flat_map-append (canonical_row known ts) before (last ∷ after)

fit_before : {A : Type 0} (P : A → Type 0) (xs ys : List A) → AllByRecursion P (xs ++ ys) → AllByRecursion P xs
fit_before P [] ys h = tt
fit_before P (x ∷ xs) ys h = (h.0, fit_before P xs ys h.1)

-- The sink failed in one of the rows, whose canonical form was written up to there.
pub broken_part : (known : Known) (limits : Limits) (ts : List Shape) (n many sent : ℕ) {O : Type 0} {a b : SinkState O} (canonical run bytes : List ℕ) → n + many ≤ limits.rows_max → (all : AreRespelled known limits.field_max ts many canonical run) → EndsInRow known limits.field_max ts all.rows sent bytes → Wrote a b (take sent canonical) → IsBrokenRun known limits ts n (Wrote a b) bytes
broken_part known limits ts n many sent {a = a} {b = b} canonical run bytes few all ends w =
    let most = limits.field_max in
    let prior = flat_map (canonical_row known ts) ends.before in
    let last = canonical_row known ts ends.last in
    let part = sent - length prior in
    let form = plain_rows_are known most ts canonical all.rows all.plain ∙ ap (flat_map (canonical_row known ts)) ends.rows_are ∙ form_of known ts ends.before ends.after ends.last in
    let sent_is : take sent canonical ≡ prior ++ take part last = ap (take sent) form ∙ sent_part prior last (flat_map (canonical_row known ts) ends.after) sent ends.begun ends.ends in
    record {
      rows = ends.before;
      last = ends.last;
      front = ends.front;
      row = ends.row;
      each = ends.each;
      fit = fit_before (FitsRow most ts) ends.before (ends.last ∷ ends.after) (subst (AllByRecursion (FitsRow most ts)) ends.rows_are (plain_rows_fit known most ts canonical all.rows all.plain));
      is_last = ends.is_last;
      is = ends.is;
      few = omega (arith, few, all.as_many, ap length ends.rows_are, length-append ends.before (ends.last ∷ ends.after));
      part = record { front = take part last; rest = drop part last; is = sym (take-append-drop part last); missing = omega (arith, ends.begun, ends.ends, length-drop part last); written = subst (λ (l : List ℕ). Wrote a b l) sent_is w };
    }

-- Rows were copied, and behind them the sink failed.
pub broken_more : (known : Known) (limits : Limits) (ts : List Shape) (n m : ℕ) {O : Type 0} {a b c : SinkState O} (x y : List ℕ) → IsRun known limits ts n m (Wrote a b) x → IsBrokenRun known limits ts m (Wrote b c) y → IsBrokenRun known limits ts n (Wrote a c) (x ++ y)
broken_more known limits ts n m {a = a} {c = c} x y r q =
    let prior = flat_map (canonical_row known ts) r.rows in
    let more = flat_map (canonical_row known ts) q.rows in
    record {
      rows = r.rows ++ q.rows;
      last = q.last;
      front = x ++ q.front;
      row = q.row;
      each = rows_append ts x q.front r.rows q.rows r.each q.each;
      fit = all_append (FitsRow limits.field_max ts) r.rows q.rows r.fit q.fit;
      is_last = q.is_last;
      is = ap (λ l. x ++ l) q.is ∙ sym (append_assoc x q.front q.row);
      few = omega (arith, r.counted, q.few, length-append r.rows q.rows);
      part = record {
        front = q.part.front;
        rest = q.part.rest;
        is = q.part.is;
        missing = q.part.missing;
        written = subst (λ (l : List ℕ). Wrote a c l) (sym (append_assoc prior more q.part.front) ∙ ap (λ l. l ++ q.part.front) (sym (flat_map-append (canonical_row known ts) r.rows q.rows))) (wrote_then r.written q.part.written);
      };
    }

-- What was copied behind rows that were copied before, as a part of all bytes.
pub run_behind : (known : Known) (limits : Limits) (ts : List Shape) (n m k : ℕ) {O : Type 0} {a b c : SinkState O} (bytes rest : List ℕ) (len more : ℕ) → rest ≡ drop len bytes → IsRun known limits ts n m (Wrote a b) (take len bytes) → IsRun known limits ts m k (Wrote b c) (take more rest) → IsRun known limits ts n k (Wrote a c) (take (len + more) bytes)
run_behind known limits ts n m k {a = a} {c = c} bytes rest len more is r q =
    subst (λ (l : List ℕ). IsRun known limits ts n k (Wrote a c) l) (ap (λ l. take len bytes ++ take more l) is ∙ sym (take-add len more bytes)) (run_more known limits ts n m k (take len bytes) (take more rest) r q)

pub broken_behind : (known : Known) (limits : Limits) (ts : List Shape) (n m : ℕ) {O : Type 0} {a b c : SinkState O} (bytes rest : List ℕ) (len more : ℕ) → rest ≡ drop len bytes → IsRun known limits ts n m (Wrote a b) (take len bytes) → IsBrokenRun known limits ts m (Wrote b c) (take more rest) → IsBrokenRun known limits ts n (Wrote a c) (take (len + more) bytes)
broken_behind known limits ts n m {a = a} {c = c} bytes rest len more is r q =
    subst (λ (l : List ℕ). IsBrokenRun known limits ts n (Wrote a c) l) (ap (λ l. take len bytes ++ take more l) is ∙ sym (take-add len more bytes)) (broken_more known limits ts n m (take len bytes) (take more rest) r q)

-- Rows that were copied behind those that a stream begins with.
pub run_copied : (known : Known) (limits : Limits) (ts : List Shape) (n m : ℕ) {O : Type 0} {a b c : SinkState O} (x y : List ℕ) → IsCopying known limits ts n (Wrote a b) x → IsRun known limits ts n m (Wrote b c) y → IsCopying known limits ts m (Wrote a c) (x ++ y)
run_copied known limits ts n m {a = a} {c = c} x y k r = record {
  rows = k.rows ++ r.rows;
  begins = front_append ts x y k.rows r.rows k.begins r.each;
  within = within_append limits ts k.rows r.rows k.within r.fit (omega (arith, k.many, r.counted, r.few));
  many = omega (arith, k.many, r.counted, length-append k.rows r.rows);
  written = subst (λ (l : List ℕ). Wrote a c l) (sym (canonical_append known ts k.rows r.rows)) (wrote_then k.written r.written);
}

-- At the end nothing was written behind the rows so far.
pub end_copied : (known : Known) (limits : Limits) (ts : List Shape) (n : ℕ) {O : Type 0} {a b c : SinkState O} (x : List ℕ) → IsCopying known limits ts n (Wrote a b) x → Wrote b c [] → IsCopying known limits ts n (Wrote a c) x
end_copied known limits ts n {a = a} {c = c} x k none = record {
  rows = k.rows;
  begins = k.begins;
  within = k.within;
  many = k.many;
  written = subst (λ (l : List ℕ). Wrote a c l) (append-nil (canonical_front known ts k.rows)) (wrote_then k.written none);
}

-- The sink failed in a row behind the rows so far.
pub says_write_fault : (known : Known) (limits : Limits) (ts : List Shape) (n : ℕ) {O : Type 0} {a b c : SinkState O} (x y : List ℕ) → IsCopying known limits ts n (Wrote a b) x → IsBrokenRun known limits ts n (Wrote b c) y → fault_says limits ts (canonical_front known ts) WriteFault (Wrote a c) (x ++ y)
says_write_fault known limits ts n {a = a} {c = c} x y k r =
    let rows = k.rows ++ r.rows in
    let more = flat_map (canonical_row known ts) r.rows in
    let front = front_more limits.field_max ts (x ++ r.front) r.row rows r.last (front_append ts x r.front k.rows r.rows k.begins r.each) r.is_last in
    let whole = append_assoc x r.front r.row ∙ ap (λ l. x ++ l) (sym r.is) in
    let sent = sym (append_assoc (canonical_front known ts k.rows) more r.part.front) ∙ ap (λ l. l ++ r.part.front) (sym (canonical_append known ts k.rows r.rows)) in
    inr (inr (
      refl,
      in_row rows r.last (canonical_row known ts r.last) (subst (λ (l : List ℕ). IsFront ts l (rows ++ (r.last ∷ []))) whole front)
          (within_more limits ts rows r.last (within_append limits ts k.rows r.rows k.within r.fit (omega (arith, k.many, r.few))) (omega (arith, k.many, r.few, length-append k.rows r.rows)) r.is_last.fit)
          (canonical_more known ts rows r.last)
          (record {
            front = r.part.front;
            rest = r.part.rest;
            is = r.part.is;
            missing = r.part.missing;
            written = subst (λ (l : List ℕ). Wrote a c l) sent (wrote_then k.written r.part.written);
          }),
    ))

-- A source that failed where nothing was taken behind rows cut a row short.
is_rows_fault : (known : Known) (limits : Limits) (ts : List Shape) (n : ℕ) (Written : List ℕ → Type 0) (fault : CopyFault) (bytes : List ℕ) → shown_fault known limits ts n Written fault bytes → rows_fault known limits ts n Written fault bytes
is_rows_fault known limits ts n Written fault bytes (inl (is, none, written)) = inl (read_fault is (inl (omega (arith, ap length none)), λ two. omega (arith, two, ap length none)), written)
is_rows_fault known limits ts n Written fault bytes (inr broken) = inr broken

-- what a fault of a call that takes a row or the end says of all bytes that were taken
pub rows_says : (known : Known) (limits : Limits) (ts : List Shape) (n : ℕ) {O : Type 0} {a b c : SinkState O} (f : CopyFault) (x y : List ℕ) → IsCopying known limits ts n (Wrote a b) x → rows_fault known limits ts n (Wrote b c) f y → fault_says limits ts (canonical_front known ts) f (Wrote a c) (x ++ y)
rows_says known limits ts n {a = a} {c = c} f x y k (inl stopped) = inr (inl (record {
  front = x;
  behind = y;
  rows = k.rows;
  begins = k.begins;
  within = k.within;
  is = refl;
  cause = subst (λ (m : ℕ). RowCause limits ts m f y) (sym k.many) stopped.0;
  written = subst (λ (l : List ℕ). Wrote a c l) (append-nil (canonical_front known ts k.rows)) (wrote_then k.written stopped.1);
}))
rows_says known limits ts n {a = a} {c = c} f x y k (inr (is, broken)) =
    subst (λ (e : CopyFault). fault_says limits ts (canonical_front known ts) e (Wrote a c) (x ++ y)) (sym is) (says_write_fault known limits ts n x y k broken)

-- a later call's fault, behind the rows so far
pub rows_later : (known : Known) {S K X Y : Type 0} {a b c : SourceState S} {before mid now : SinkState K} {r : Result X CopyFault} {e : CopyFault} {P1 : Y → List ℕ → Type 0} {P : X → List ℕ → Type 0} (limits : Limits) (ts : List Shape) (n : ℕ) → r ≡ Err e
    → Took a b (IsCopying known limits ts n (Wrote before mid)) → Copies {X = Y} b c (Err e) P1 (rows_fault known limits ts n (Wrote mid now)) → Copies a c r P (λ fault. fault_says limits ts (canonical_front known ts) fault (Wrote before now))
rows_later known {P = P} limits ts n is t u = takes_later P _ is t u (λ d x y k h. rows_says known limits ts n d x y k h)

-- the same of a call that copies what a source shows
pub shown_later : (known : Known) {S K X Y : Type 0} {a b c : SourceState S} {before mid now : SinkState K} {r : Result X CopyFault} {e : CopyFault} {P1 : Y → List ℕ → Type 0} {P : X → List ℕ → Type 0} (limits : Limits) (ts : List Shape) (n : ℕ) → r ≡ Err e
    → Took a b (IsCopying known limits ts n (Wrote before mid)) → Copies {X = Y} b c (Err e) P1 (shown_fault known limits ts n (Wrote mid now)) → Copies a c r P (λ fault. fault_says limits ts (canonical_front known ts) fault (Wrote before now))
shown_later known {mid = mid} {now = now} {P = P} limits ts n is t u = takes_later P _ is t u (λ d x y k h. rows_says known limits ts n d x y k (is_rows_fault known limits ts n (Wrote mid now) d y h))

-- What a source showed was copied, or it showed nothing.
pub shown_answer : (known : Known) {S K : Type 0} {a b : SourceState S} {before now : SinkState K} (limits : Limits) (ts : List Shape) (n : ℕ) (shows : Bool) (copied : CopiedFront) (r : Result ℕ CopyFault) → n ≤ limits.rows_max → r ≡ ok_or (rows_of copied) WriteFault → GoesOn a b
    → (shows ≡ true → (ready : List ℕ) × (k : ℕ) × TookReady (left a) (left b) ready k × ((k ≡ length_of copied) × copied_says known limits ts n (Wrote before now) (HasFailed before now) ready copied))
    → (shows ≡ false → Keeps (left a) (left b) × (copied ≡ Whole n 0) × Wrote before now [])
    → Copies a b r (λ rows. IsRun known limits ts n rows (Wrote before now)) (shown_fault known limits ts n (Wrote before now))
shown_answer known {a = a} {b = b} {before = before} {now = now} limits ts n shows copied r few is on shown none = by_test shows shown none
  where
    by_copied : (copied : CopiedFront) (ready : List ℕ) (k : ℕ) → r ≡ ok_or (rows_of copied) WriteFault → TookReady (left a) (left b) ready k → k ≡ length_of copied → copied_says known limits ts n (Wrote before now) (HasFailed before now) ready copied
        → Copies a b r (λ rows. IsRun known limits ts n rows (Wrote before now)) (shown_fault known limits ts n (Wrote before now))
    by_copied (Whole rows len) ready k e took long says =
        let run = subst (λ (j : ℕ). IsRun known limits ts n rows (Wrote before now) (take j ready)) (sym long) says.1 in
        subst (λ (s : Result ℕ CopyFault). Copies a b s (λ rows. IsRun known limits ts n rows (Wrote before now)) (shown_fault known limits ts n (Wrote before now))) (sym e)
        (takes_done rows _ _ (took_consumed a b (take k ready) _ took.consumed on run))
    by_copied (Broken len) ready k e took long says =
        let broken = subst (λ (j : ℕ). IsBrokenRun known limits ts n (Wrote before now) (take j ready)) (sym long) says.1 in
        takes_refused _ _ e (took_consumed a b (take k ready) _ took.consumed on (inr (refl, broken))) (λ h. absurd (cc)) (λ h. absurd (cc))

    by_test : (shows : Bool) → (shows ≡ true → (ready : List ℕ) × (k : ℕ) × TookReady (left a) (left b) ready k × ((k ≡ length_of copied) × copied_says known limits ts n (Wrote before now) (HasFailed before now) ready copied))
        → (shows ≡ false → Keeps (left a) (left b) × (copied ≡ Whole n 0) × Wrote before now [])
        → Copies a b r (λ rows. IsRun known limits ts n rows (Wrote before now)) (shown_fault known limits ts n (Wrote before now))
    by_test true shown none = let s = shown refl in by_copied copied s.0 s.1 is s.2 s.3.0 s.3.1
    by_test false shown none =
        let k = none refl in
        let same : r ≡ Ok n = is ∙ ap (λ c. ok_or (rows_of c) WriteFault) k.1 in
        subst (λ (s : Result ℕ CopyFault). Copies a b s (λ rows. IsRun known limits ts n rows (Wrote before now)) (shown_fault known limits ts n (Wrote before now))) (sym same)
        (takes_done n _ _ (took_kept a b _ k.0 on (run_none known limits ts n (Wrote before now) few k.2)))
