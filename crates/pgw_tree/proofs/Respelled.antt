-- Rows that are spelled otherwise, and their canonical form.
use Rattle.std.proofs.Common.{◌≡◌, ℕ, ◌+◌, ◌<◌, ◌^◌, List, [], ◌∷◌, ◌++◌, length, refl, sym, ap, arith, subst, length-append, ◌≤◌}
use Rattle.std.specs.List.{flat_map}
use Rattle.std.specs.Int.{to_be_bytes, w16}
use Rattle.pgw_wire.specs.Cell.{Cell, frame}
use Rattle.pgw_copy.specs.Format.{AreFields}
use Rattle.pgw_meta.specs.Shape.{Shape}
use Rattle.pgw_cell.specs.Value.{Value}
use Rattle.pgw_cell.specs.Cells.{canonical_cell}
use Rattle.pgw_cell.proofs.Reading.{spelled_has_type, canonical_spells, size_counted}
use Rattle.pgw_tree.specs.Spells.{SpellsRow}
use Rattle.pgw_tree.specs.Canonical.{FitsRow, canonical_cells, canonical_row}
use Rattle.pgw_tree.specs.Copying.{IsValuesRow}
use Rattle.pgw_tree.specs.Plain.{IsPlainRow, ArePlainRows}
use Rattle.pgw_tree.specs.Runs.{AreRespelled}
use Rattle.pgw_tree.proofs.RowFields.{field_of}
use Rattle.pgw_tree.proofs.Copies.{rows_more}
use Rattle.pgw_tree.proofs.PlainRows.{cells_many, rows_one_more, plain_rows_each}
use Rattle.pgw_meta.specs.Known.{Known}

canonical_row_spelled : (known : Known) (most : ℕ) (ts : List Shape) (cells : List Cell) (vs : List Value) → most < 2 ^ 31 → SpellsRow ts cells vs → FitsRow most ts vs → SpellsRow ts (canonical_cells known ts vs) vs
canonical_row_spelled known most [] cells [] max s fit = tt
canonical_row_spelled known most [] cells (v ∷ vs) max s fit = absurd s
canonical_row_spelled known most (t ∷ ts) [] vs max s fit = absurd s
canonical_row_spelled known most (t ∷ ts) (c ∷ cs) [] max s fit = absurd s
canonical_row_spelled known most (t ∷ ts) (c ∷ cs) (v ∷ vs) max s fit =
    (canonical_spells known t v (spelled_has_type t c v s.0) (omega (arith, max, fit.0)), canonical_row_spelled known most ts cs vs max s.1 fit.1)

canonical_each : (known : Known) (most : ℕ) (ts : List Shape) (cells : List Cell) (vs : List Value) → most < 2 ^ 31 → SpellsRow ts cells vs → FitsRow most ts vs → AreFields (canonical_cells known ts vs) (flat_map frame (canonical_cells known ts vs))
canonical_each known most [] cells [] max s fit = refl
canonical_each known most [] cells (v ∷ vs) max s fit = absurd s
canonical_each known most (t ∷ ts) [] vs max s fit = absurd s
canonical_each known most (t ∷ ts) (c ∷ cs) [] max s fit = absurd s
canonical_each known most (t ∷ ts) (c ∷ cs) (v ∷ vs) max s fit =
    (frame (canonical_cell known t v), flat_map frame (canonical_cells known ts vs), field_of (canonical_cell known t v) most max (subst (λ (n : ℕ). n ≤ most) (size_counted known t v (spelled_has_type t c v s.0)) fit.0), canonical_each known most ts cs vs max s.1 fit.1, refl)

-- The canonical row of values that a row spells, and that fit, is a row of these values.
pub canonical_is_plain : (known : Known) (most : ℕ) (ts : List Shape) (row : List ℕ) (vs : List Value) → most < 2 ^ 31 → length ts < 2 ^ 15 → IsValuesRow most ts row vs → IsPlainRow known most ts (canonical_row known ts vs) vs
canonical_is_plain known most ts row vs max few r =
    let cells = canonical_cells known ts vs in
    let spelled = canonical_row_spelled known most ts r.cells vs max r.spelled r.fit in
    let many = cells_many known ts vs spelled in
    record {
      row = record {
        cells = cells;
        is = record { fields = flat_map frame cells; few = omega (arith, many, few); each = canonical_each known most ts r.cells vs max r.spelled r.fit; is = ap (λ n. to_be_bytes w16 n ++ flat_map frame cells) (sym many) };
        spelled = spelled;
        fit = r.fit;
      };
      is = refl;
    }

-- Canonical rows are their own canonical form.
pub plain_respelled : (known : Known) (most : ℕ) (ts : List Shape) (many : ℕ) (bytes : List ℕ) (rows : List (List Value)) → length rows ≡ many → ArePlainRows known most ts bytes rows → AreRespelled known most ts many bytes bytes
plain_respelled known most ts many bytes rows as_many plain = record { rows = rows; as_many = as_many; each = plain_rows_each known most ts bytes rows plain; plain = plain }

pub respelled_no_rows : (known : Known) (most : ℕ) (ts : List Shape) → AreRespelled known most ts 0 [] []
respelled_no_rows known most ts = record { rows = []; as_many = refl; each = refl; plain = refl }

-- one row more
pub respelled_row_more : (known : Known) (most : ℕ) (ts : List Shape) (many : ℕ) (canonical bytes row new : List ℕ) (vs : List Value) → most < 2 ^ 31 → length ts < 2 ^ 15 → AreRespelled known most ts many canonical bytes → IsValuesRow most ts row vs → new ≡ canonical ++ canonical_row known ts vs → AreRespelled known most ts (many + 1) new (bytes ++ row)
respelled_row_more known most ts many canonical bytes row new vs max few a r is = record {
  rows = a.rows ++ (vs ∷ []);
  as_many = omega (arith, a.as_many, length-append a.rows (vs ∷ []));
  each = rows_more ts bytes row a.rows r.cells vs a.each r.is r.spelled;
  plain = subst (λ (l : List ℕ). ArePlainRows known most ts l (a.rows ++ (vs ∷ []))) (sym is) (rows_one_more known most ts canonical (canonical_row known ts vs) a.rows vs a.plain (canonical_is_plain known most ts row vs max few r));
}
