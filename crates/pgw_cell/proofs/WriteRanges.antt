-- What is written of the bounds of a range, and of the ranges of a multirange.
use Rattle.std.proofs.Common.{◌≡◌, ◌≤◌, ◌<◌, ◌+◌, ℕ, false, List, [], ◌∷◌, ◌++◌, length, get_or, drop, map, Option, None, Some, refl, sym, ap, ◌∙◌, arith, subst, append_assoc, length-append}
use Rattle.std.specs.List.{AllByRecursion}
use Rattle.std.specs.Int.{to_be_bytes, w32}
use Rattle.std.specs.declared.ops.Bound.{Bound}
use Rattle.std.specs.declared.ops.Bound.TheVariants.{Unbounded, Included, Excluded}
use Rattle.std.proofs.lemmas.List.{drop_more, drop_all}
use Rattle.pgw_wire.specs.Cell.{Cell}
use Rattle.pgw_meta.specs.Known.{Known}
use Rattle.pgw_meta.specs.Shape.{Scalar, Shape, scalar, range, multirange}
use Rattle.pgw_nested.specs.Frames.{frames}
use Rattle.pgw_nested.specs.Range.{Bounds, lower_flags, upper_flags, range_bytes}
use Rattle.pgw_nested.specs.Multirange.{multirange_bytes}
use Rattle.pgw_cell.specs.Value.{Value, BoundValue, range as range_value, bound_in, multirange_of, ranges_in}
use Rattle.pgw_cell.specs.Spellings.{spelling}
use Rattle.pgw_cell.specs.Arrays.{frames_size}
use Rattle.pgw_cell.specs.Ranges.{HasBound, bound_cell, bound_cells, bound_size, scalar_default, ranges_over, range_spelling}
use Rattle.pgw_cell.specs.Pieces.{HasPiece, canonical_piece, piece_size}
use Rattle.pgw_cell.specs.Cells.{HasType, canonical_cell, canonical_size}
use Rattle.pgw_cell.specs.Data.{value_of, value_of_range, ranges_of}
use Rattle.pgw_cell.specs.Written.{kind_of_bound, written_bound}
use Rattle.pgw_cell.specs.declared.datum.Datum.{Datum, Ranges as ranges_datum}
use Rattle.pgw_cell.specs.declared.datum.RangeDatum.{RangeDatum}
use Rattle.pgw_cell.specs.declared.datum.RangeList.{RangeList}
use Rattle.pgw_cell.proofs.ArrayPieces.{frames_length}
use Rattle.pgw_cell.proofs.RangePieces.{bounds_are, ranges_are, range_written, list_counted}
use Rattle.pgw_cell.proofs.Lists.{value_of_ranges}
use Rattle.pgw_cell.proofs.Writing.{item_bytes}

-- What is known of a range over a type, by its bounds.
pub record RangeIs (known : Known) (t : Shape) (lower upper : BoundValue) : Type 0 where
  pub has_lower : HasBound (HasPiece t) (bound_in lower)
  pub has_upper : HasBound (HasPiece t) (bound_in upper)
  pub size : piece_size (range t) (range_value lower upper) ≡ 1 + bound_size (piece_size t) (bound_in lower) + bound_size (piece_size t) (bound_in upper)
  pub piece : canonical_piece known (range t) (range_value lower upper) ≡ range_bytes (bound_cells (canonical_piece known t) (bound_in lower, bound_in upper))
  pub counted : piece_size (range t) (range_value lower upper) ≡ length (canonical_piece known (range t) (range_value lower upper))

record PartIs (s : Scalar) (o : Option Value) (lower upper : BoundValue) : Type 0 where
  pub has_lower : HasBound (spelling s).Has (bound_in lower)
  pub has_upper : HasBound (spelling s).Has (bound_in upper)
  pub size : (ranges_over (spelling s) o).size (range_value lower upper) ≡ 1 + bound_size (spelling s).size (bound_in lower) + bound_size (spelling s).size (bound_in upper)
  pub piece : (ranges_over (spelling s) o).canonical (range_value lower upper) ≡ range_bytes (bound_cells (spelling s).canonical (bound_in lower, bound_in upper))

pub range_is : (known : Known) (t : Shape) (lower upper : BoundValue) → HasPiece (range t) (range_value lower upper) → RangeIs known t lower upper
range_is known (scalar s) lower upper has =
    let p = by (scalar_default s) has in
    record { has_lower = p.has_lower; has_upper = p.has_upper; size = p.size; piece = p.piece; counted = (range_written (scalar s)).counted (range_value lower upper) has }
  where
    -- without the case of the default, which decides nothing else
    by : (o : Option Value) → (ranges_over (spelling s) o).Has (range_value lower upper) → PartIs s o lower upper
    by None h = absurd h
    by (Some d) h =
        let same : h.0 ≡ (bound_in lower, bound_in upper) = sym (bounds_are (range_value lower upper) h.0 h.1) in
        let both = subst (λ (b : Bounds Value). HasBound (spelling s).Has b.0 × HasBound (spelling s).Has b.1) same (h.2, h.3) in
        record { has_lower = both.0; has_upper = both.1; size = refl; piece = refl }
range_is known _ lower upper has = absurd has

-- The field of a range is its flags, and the fields of its bounds.
pub bounds_length : (known : Known) (t : Shape) (lower upper : BoundValue) (r : RangeIs known t lower upper)
    → length (canonical_piece known (range t) (range_value lower upper)) ≡ 1 + length (written_bound known t lower) + length (written_bound known t upper)
bounds_length known t lower upper r =
    let a = written_bound known t lower in
    let b = written_bound known t upper in
    omega (arith, ap length r.piece, length-append a b)

-- A bound and the cell of its value are of the same kind.
lower_same : (f : Value → List ℕ) (b : Bound Value) → lower_flags (kind_of_bound b) ≡ lower_flags (bound_cell f b)
lower_same f Unbounded = refl
lower_same f (Included v) = refl
lower_same f (Excluded v) = refl

upper_same : (f : Value → List ℕ) (b : Bound Value) → upper_flags (kind_of_bound b) ≡ upper_flags (bound_cell f b)
upper_same f Unbounded = refl
upper_same f (Included v) = refl
upper_same f (Excluded v) = refl

-- what stands behind a length where the flags and both bounds were written
pub bounds_behind : (known : Known) (t : Shape) (lower upper : BoundValue) (kl ku : Bound (Unit {0})) (begun flags one two : List ℕ) → RangeIs known t lower upper
    → kl ≡ kind_of_bound (bound_in lower) → ku ≡ kind_of_bound (bound_in upper)
    → flags ≡ begun ++ ((lower_flags kl + upper_flags ku) ∷ []) → one ≡ flags ++ written_bound known t lower → two ≡ one ++ written_bound known t upper
    → two ≡ begun ++ canonical_piece known (range t) (range_value lower upper)
bounds_behind known t lower upper kl ku begun flags one two r l u f a b =
    let x = written_bound known t lower in
    let y = written_bound known t upper in
    let n = lower_flags kl + upper_flags ku in
    let same : lower_flags kl + upper_flags ku ≡ lower_flags (bound_cell (canonical_piece known t) (bound_in lower)) + upper_flags (bound_cell (canonical_piece known t) (bound_in upper)) =
    ap (λ k. lower_flags k + upper_flags ku) l ∙ ap (λ k. lower_flags (kind_of_bound (bound_in lower)) + upper_flags k) u
    ∙ ap (λ k. k + upper_flags (kind_of_bound (bound_in upper))) (lower_same (canonical_piece known t) (bound_in lower))
    ∙ ap (λ k. lower_flags (bound_cell (canonical_piece known t) (bound_in lower)) + k) (upper_same (canonical_piece known t) (bound_in upper)) in
    b ∙ ap (λ k. k ++ y) (a ∙ ap (λ k. k ++ x) f) ∙ append_assoc (begun ++ (n ∷ [])) x y ∙ append_assoc begun (n ∷ []) (x ++ y)
    ∙ ap (λ k. begun ++ (k ∷ (x ++ y))) same ∙ ap (λ k. begun ++ k) (sym r.piece)

-- ---- ranges of a multirange

-- The ranges of a list's value are those in it.
pub list_ranges : (d : Datum) (l : RangeList) (items : List RangeDatum) → d ≡ ranges_datum l → items ≡ ranges_of l → ranges_in (value_of d) ≡ map value_of_range items
list_ranges d l items is same =
    ranges_are (value_of d) (map value_of_range items) (ap value_of is ∙ value_of_ranges l ∙ ap (λ ds. multirange_of (map value_of_range ds)) (sym same))

pub list_has : (t : Shape) (d : Datum) (l : RangeList) (items : List RangeDatum) → d ≡ ranges_datum l → items ≡ ranges_of l → HasPiece (multirange t) (value_of d) → AllByRecursion (HasType (range t)) (map value_of_range items)
list_has t d l items is same has =
    subst (λ (vs : List Value). AllByRecursion (HasType (range t)) vs) (sym (ranges_are (value_of d) has.0 has.1) ∙ list_ranges d l items is same) has.2

pub list_piece : (known : Known) (t : Shape) (d : Datum) (l : RangeList) (items : List RangeDatum) → d ≡ ranges_datum l → items ≡ ranges_of l
    → canonical_piece known (multirange t) (value_of d) ≡ multirange_bytes (map (canonical_cell known (range t)) (map value_of_range items))
list_piece known t d l items is same = ap (λ (vs : List Value). multirange_bytes (map (canonical_cell known (range t)) vs)) (list_ranges d l items is same)

pub ranges_more : (items : List RangeDatum) (i : ℕ) (d : RangeDatum) → i < length items → d ≡ get_or items i d → map value_of_range (drop i items) ≡ value_of_range d ∷ map value_of_range (drop (i + 1) items)
ranges_more items i d lt is = ap (λ (l : List RangeDatum). map value_of_range l) (drop_more items i d lt) ∙ ap (λ (e : RangeDatum). value_of_range e ∷ map value_of_range (drop (i + 1) items)) (sym is)

pub no_ranges : (items : List RangeDatum) (i : ℕ) → length items ≤ i → map value_of_range (drop i items) ≡ []
no_ranges items i done = ap (λ (l : List RangeDatum). map value_of_range l) (drop_all i items done)

-- how long the multirange is, and its ranges
pub record MultirangeSize (known : Known) (t : Shape) (vs : List Value) : Type 0 where
  pub whole : 4 + frames_size (canonical_size (range t)) vs ≡ length (multirange_bytes (map (canonical_cell known (range t)) vs))
  pub ranges : frames_size (canonical_size (range t)) vs ≡ length (item_bytes known (range t) vs)

pub multirange_sizes : (known : Known) (t : Shape) (vs : List Value) → AllByRecursion (HasType (range t)) vs → MultirangeSize known t vs
multirange_sizes known t vs has = record {
  whole = list_counted (range_spelling t) (range_written t) vs has;
  ranges = frames_length false (range_written t) vs has;
}

pub multirange_behind : (begun head now : List ℕ) (n : ℕ) (cells : List Cell) → head ≡ begun ++ to_be_bytes w32 n → n ≡ length cells → now ≡ head ++ frames cells → now ≡ begun ++ multirange_bytes cells
multirange_behind begun head now n cells heads many is =
    is ∙ ap (λ l. l ++ frames cells) heads ∙ append_assoc begun (to_be_bytes w32 n) (frames cells) ∙ ap (λ (k : ℕ). begun ++ (to_be_bytes w32 k ++ frames cells)) many
