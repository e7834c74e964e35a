-- What multiranges are read and written as, by their ranges.
use Rattle.std.proofs.Common.{◌≡◌, ◌≤◌, ◌+◌, ◌-◌, ◌<◌, ℕ, List, ◌++◌, length, map, Option, None, Some, Result, Ok, Err, w32, refl, sym, ap, subst, ◌∙◌, arith, append_assoc}
use Rattle.std.specs.Borrow.{Bor}
use Rattle.std.specs.Int.{to_be_bytes}
use Rattle.std.proofs.lemmas.List.{length-append, length-map}
use Rattle.std.proofs.lemmas.Bool.{lt-ltb}
use Rattle.pgw_wire.specs.Cell.{Cell, frame}
use Rattle.pgw_wire.specs.declared.kind.Break.{Break}
use Rattle.pgw_wire.specs.declared.sql_error.SqlError.{SqlError}
use Rattle.pgw_wire.specs.declared.sql_error.SqlError.TheVariants.{ShortBuffer}
use Rattle.pgw_meta.specs.Known.{Known}
use Rattle.pgw_meta.specs.Shape.{Shape, range, multirange}
use Rattle.pgw_nested.specs.Frames.{frames}
use Rattle.pgw_nested.specs.Array.{Elements, kind_named}
use Rattle.pgw_nested.specs.Multirange.{BeginsMultirange, multirange_bytes}
use Rattle.pgw_nested.specs.Pieces.{IsNext}
use Rattle.pgw_nested.specs.RangePieces.{GivesRange}
use Rattle.pgw_nested.specs.Reading.{◌>>=◌}
use Rattle.pgw_nested.specs.RangeReading.{read_counted}
use Rattle.pgw_nested.specs.Marks.{null_length}
use Rattle.pgw_nested.proofs.Cutting.{word_again}
use Rattle.pgw_nested.proofs.Steps.{bind_ok}
use Rattle.pgw_nested.proofs.Exact.{ok_is}
use Rattle.pgw_cell.specs.Value.{Value, multirange_of, ranges_in as list_in}
use Rattle.pgw_cell.specs.Spellings.{read_as}
use Rattle.pgw_cell.specs.Arrays.{frames_size}
use Rattle.pgw_cell.specs.Ranges.{multirange_spelling}
use Rattle.pgw_cell.specs.Pieces.{piece_size, read_piece}
use Rattle.pgw_cell.specs.Cells.{canonical_cell, canonical_size, read_value}
use Rattle.pgw_cell.specs.Written.{counted, size_read, cells_read, sizes_read, cells_written, HasRoom}
use Rattle.pgw_cell.proofs.Told.{as_ok}
use Rattle.pgw_cell.proofs.ArrayPieces.{frame_length}
use Rattle.pgw_cell.proofs.RangePieces.{ranges_are}
use Rattle.pgw_cell.proofs.Elements.{elements_many}
use Rattle.pgw_cell.proofs.Rewriting.{element_bytes}

-- The ranges of a multirange state no oids, so that it does not matter what is known of these.
abbrev pub no_oids : Known
no_oids = λ key. None

-- None is left where a reader gave none, and else the one that it gave was the next.
pub given_none : (before : Elements) (r : Option (Bor (List ℕ))) (now : Elements) → r ≡ None → GivesRange before (Ok r) now → before.left ≡ 0
given_none before r now is given = let none = subst (λ (x : Option (Bor (List ℕ))). GivesRange before (Ok x) now) is given in none.0

pub given_range : (before : Elements) (r : Option (Bor (List ℕ))) (p : Bor (List ℕ)) (now : Elements) → r ≡ Some p → GivesRange before (Ok r) now → IsNext (Some p.now) before now
given_range before r p now is given = subst (λ (x : Option (Bor (List ℕ))). GivesRange before (Ok x) now) is given

abbrev list_read : Result (List Value × List ℕ) Break → Result Value Break
list_read r = read_as multirange_of (r >>= λ x. Ok x.0)

-- What is read of a multirange, by its ranges.
pub multirange_read : (t : Shape) (p : List ℕ) (e : Elements) → BeginsMultirange p e → read_piece (multirange t) p ≡ list_read (cells_read (range t) e)
multirange_read t p e b =
    ap (read_piece (multirange t)) b.is ∙ ap (λ (w : Option (ℕ × List ℕ)). read_as multirange_of (read_counted kind_named (λ (c : Cell). read_value (range t) c) w)) (word_again b.count b.rest b.fits)
    ∙ ap (λ (x : Elements). list_read (cells_read (range t) x)) (sym b.ranges_are)

pub multirange_broken : (t : Shape) (p : List ℕ) (error : SqlError) → (length p < 4) × (error ≡ ShortBuffer) → read_piece (multirange t) p ≡ Err (kind_named error)
multirange_broken t p error n = rw (lt-ltb (length p) 4 n.0) (ap (λ (x : SqlError). Err (kind_named x)) (sym n.1))

list_sizes : (size : Value → ℕ) (r : Result (List Value × List ℕ) Break) → sizes_read size 4 r ≡ size_read (λ v. 4 + frames_size size (list_in v)) (list_read r)
list_sizes size (Ok x) = ap (λ vs. Ok (counted (4 + frames_size size vs))) (sym (ranges_are (multirange_of x.0) x.0 refl))
list_sizes size (Err kind) = refl

pub multirange_sizes : (t : Shape) (p : List ℕ) (e : Elements) → BeginsMultirange p e → sizes_read (canonical_size (range t)) 4 (cells_read (range t) e) ≡ size_read (piece_size (multirange t)) (read_piece (multirange t) p)
multirange_sizes t p e begins = list_sizes (canonical_size (range t)) (cells_read (range t) e) ∙ ap (size_read (piece_size (multirange t))) (sym (multirange_read t p e begins))

-- what was read of a multirange's ranges
pub record ReadsMultirange (t : Shape) (p : List ℕ) (e : Elements) (v : Value) : Type 0 where
  pub read : List Value × List ℕ
  pub reads : cells_read (range t) e ≡ Ok read
  pub is : v ≡ multirange_of read.0

pub multirange_reads : (t : Shape) (p : List ℕ) (e : Elements) (v : Value) → BeginsMultirange p e → read_piece (multirange t) p ≡ Ok v → ReadsMultirange t p e v
multirange_reads t p e v begins read =
    let a = as_ok multirange_of (cells_read (range t) e >>= λ x. Ok x.0) v (sym (multirange_read t p e begins) ∙ read) in
    let b = bind_ok (cells_read (range t) e) (λ x. Ok x.0) a.0 a.1 in
    record { read = b.0; reads = b.1; is = a.2 ∙ ap multirange_of (sym (ok_is b.0.0 a.0 b.2)) }

pub multirange_piece_is : (t : Shape) (p : List ℕ) (e : Elements) (v : Value) (r : ReadsMultirange t p e v) → (multirange_spelling t).canonical v ≡ multirange_bytes (cells_written no_oids (range t) r.read)
multirange_piece_is t p e v r = ap (λ (vs : List Value). multirange_bytes (map (canonical_cell no_oids (range t)) vs)) (ranges_are v r.read.0 r.is)

pub multirange_length : (cells : List Cell) → length (multirange_bytes cells) ≡ 4 + length (frames cells)
multirange_length cells = length-append (to_be_bytes w32 (length cells)) (frames cells)

-- Where the ranges are rewritten, there is room for them, and they are not many.
pub record MultirangeRoom (t : Shape) (e : Elements) (spare : ℕ) : Type 0 where
  pub ranges : HasRoom (cells_read (range t) e) (element_bytes no_oids (range t)) (spare - 8)
  pub many : 8 ≤ spare
  pub count : e.left ≡ length (cells_written no_oids (range t) ranges.value)
  pub small : length (multirange_bytes (cells_written no_oids (range t) ranges.value)) ≤ 2147483647

pub multirange_room : (t : Shape) (p : List ℕ) (e : Elements) (spare : ℕ) → BeginsMultirange p e → HasRoom (read_piece (multirange t) p) (λ v. frame (Some ((multirange_spelling t).canonical v))) spare → MultirangeRoom t e spare
multirange_room t p e spare begins h =
    let r = multirange_reads t p e h.value begins h.reads in
    let cells = cells_written no_oids (range t) r.read in
    let is = multirange_piece_is t p e h.value r in
    let long = frame_length (Some ((multirange_spelling t).canonical h.value)) ∙ ap (λ l. 4 + length l) is in
    let many = multirange_length cells in
    record {
      ranges = record { value = r.read; reads = r.reads; room = omega (arith, long, many, h.room); small = omega (arith, long, many, h.small) };
      many = omega (arith, long, many, h.room);
      count = elements_many (λ (x : Cell). read_value (range t) x) e r.read r.reads ∙ sym (length-map r.read.0 (canonical_cell no_oids (range t)));
      small = omega (arith, long, h.small);
    }

-- what stands there where its ranges were written, behind a length that is not set yet
pub multirange_placed : (old begun head now : List ℕ) (n : ℕ) (cells : List Cell) → begun ≡ old ++ null_length → head ≡ begun ++ to_be_bytes w32 n → n ≡ length cells → now ≡ head ++ frames cells
    → now ≡ (old ++ null_length) ++ multirange_bytes cells
multirange_placed old begun head now n cells begins heads many is =
    is ∙ ap (λ l. l ++ frames cells) heads ∙ append_assoc begun (to_be_bytes w32 n) (frames cells)
    ∙ ap (λ (k : ℕ). begun ++ (to_be_bytes w32 k ++ frames cells)) many
    ∙ ap (λ l. l ++ multirange_bytes cells) begins
