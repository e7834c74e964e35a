-- What a range is read as whose bounds are written so.
use Rattle.std.proofs.Common.{◌≡◌, ℕ, List, length, Option, None, Some, Ok, Err, refl, sym, ap, ◌∙◌}
use Rattle.pgw_wire.specs.Cell.{Cell}
use Rattle.pgw_wire.specs.declared.kind.Break.{Break}
use Rattle.pgw_meta.specs.Shape.{Shape, range}
use Rattle.pgw_scalar.proofs.Readers.{IsBytes, ok_is}
use Rattle.pgw_nested.specs.Range.{Bounds, range_bytes}
use Rattle.pgw_cell.specs.Value.{Value, range_of}
use Rattle.pgw_cell.specs.Spellings.{read_as}
use Rattle.pgw_cell.specs.Ranges.{bound_cells, default_of, part_spelling, ranges_over, range_spelling, bounds_over, read_bounds}
use Rattle.pgw_cell.specs.Pieces.{piece_size, read_piece}
use Rattle.pgw_cell.specs.Written.{counted, size_read, range_read}
use Rattle.pgw_cell.proofs.RangePieces.{bounds_are, range_told, range_written}
use Rattle.pgw_cell.proofs.RangeBounds.{answer_ok, answer_err}

-- What is read of a piece is the range between the bounds that are read.
pub read_is : (t : Shape) (p : List ℕ) → read_piece (range t) p ≡ read_as range_of (read_bounds t p)
read_is t p = by (default_of t)
  where
    by : (o : Option Value) → (ranges_over (part_spelling t) o).read p ≡ read_as range_of (bounds_over (part_spelling t) o p)
    by None = refl
    by (Some d) = refl

-- It is written as these bounds are.
canonical_is : (t : Shape) (p : List ℕ) (b : Bounds Value) → read_bounds t p ≡ Ok b → (range_spelling t).canonical (range_of b) ≡ range_bytes (bound_cells (part_spelling t).canonical b)
canonical_is t p b e = by (default_of t) e
  where
    by : (o : Option Value) → bounds_over (part_spelling t) o p ≡ Ok b → (ranges_over (part_spelling t) o).canonical (range_of b) ≡ range_bytes (bound_cells (part_spelling t).canonical b)
    by None none = absurd cc
    by (Some d) some = ap (λ (x : Bounds Value). range_bytes (bound_cells (part_spelling t).canonical x)) (bounds_are (range_of b) b refl)

-- the range that was read whose bounds are written as these cells
pub record ReadRange (t : Shape) (p : List ℕ) (cells : Bounds Cell) : Type 0 where
  pub bounds : Bounds Value
  pub bounds_read : read_bounds t p ≡ Ok bounds
  pub cells_are : cells ≡ bound_cells (part_spelling t).canonical bounds
  pub reads : read_piece (range t) p ≡ Ok (range_of bounds)
  pub bytes : (range_spelling t).canonical (range_of bounds) ≡ range_bytes cells

pub range_was_read : (t : Shape) (p : List ℕ) (cells : Bounds Cell) → Ok cells ≡ range_read t p → ReadRange t p cells
range_was_read t p cells e =
    let b = answer_ok (bound_cells (part_spelling t).canonical) (read_bounds t p) cells (sym e) in
    record {
      bounds = b.0;
      bounds_read = b.1;
      cells_are = b.2;
      reads = read_is t p ∙ ap (read_as range_of) b.1;
      bytes = canonical_is t p b.0 b.1 ∙ ap range_bytes (sym b.2);
    }

pub range_was_broken : (t : Shape) (p : List ℕ) (kind : Break) → Err kind ≡ range_read t p → read_piece (range t) p ≡ Err kind
range_was_broken t p kind e = read_is t p ∙ ap (read_as range_of) (answer_err (bound_cells (part_spelling t).canonical) (read_bounds t p) kind (sym e))

-- It has as many bytes as these.
pub range_sizes : (t : Shape) (p : List ℕ) (cells : Bounds Cell) → IsBytes p → ReadRange t p cells → Ok (counted (length (range_bytes cells))) ≡ size_read (piece_size (range t)) (read_piece (range t) p)
range_sizes t p cells bytes r =
    let has = (range_told t).has p (range_of r.bounds) ((range_told t).exact.sound.spelled p (range_of r.bounds) bytes r.reads) in
    ap (λ n. Ok (counted n)) (ap length (sym r.bytes) ∙ sym ((range_written t).counted (range_of r.bounds) has)) ∙ sym (ap (size_read (piece_size (range t))) r.reads)

-- Whatever value is read, it is written as these.
pub range_bytes_are : (t : Shape) (p : List ℕ) (cells : Bounds Cell) (v : Value) → Ok cells ≡ range_read t p → read_piece (range t) p ≡ Ok v → (range_spelling t).canonical v ≡ range_bytes cells
range_bytes_are t p cells v e read =
    let r = range_was_read t p cells e in
    ap (range_spelling t).canonical (ok_is v (range_of r.bounds) (sym read ∙ r.reads)) ∙ r.bytes
