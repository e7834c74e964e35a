-- Reading the bounds of a range, and the ranges of a multirange.
use Rattle.std.proofs.Common.{◌≡◌, ◌<◌, ◌||◌, ℕ, Bool, true, false, List, [], ◌∷◌, ◌++◌, length, map, Option, None, Some, Ok, Err, IsTrue, refl, sym, ap, ◌∙◌, arith, subst}
use Rattle.std.proofs.lemmas.List.{map-append}
use Rattle.std.specs.declared.ops.Bound.{Bound}
use Rattle.std.specs.declared.ops.Bound.TheVariants.{Unbounded, Included, Excluded}
use Rattle.pgw_wire.specs.Cell.{Cell}
use Rattle.pgw_meta.specs.Shape.{Shape, scalar, range, multirange}
use Rattle.pgw_scalar.proofs.Readers.{IsBytes}
use Rattle.pgw_nested.specs.Array.{Elements}
use Rattle.pgw_nested.specs.Range.{Bounds}
use Rattle.pgw_nested.specs.Multirange.{BeginsMultirange}
use Rattle.pgw_cell.specs.Value.{Value, range as range_value, bound_value, range_of, multirange_of}
use Rattle.pgw_cell.specs.Spellings.{spelling}
use Rattle.pgw_cell.specs.Ranges.{HasBound, bound_cell, default_of, part_spelling, ranges_over, range_spelling}
use Rattle.pgw_cell.specs.Pieces.{read_piece}
use Rattle.pgw_cell.specs.Data.{value_of, bound_of, value_of_range, has_value, takes_memory, AnswersBy, AnswersBound, AnswersAs}
use Rattle.pgw_cell.specs.Written.{bytes_of, cell_of_bound, cells_read}
use Rattle.pgw_cell.specs.declared.piece.Canonical.{Canonical}
use Rattle.pgw_cell.specs.declared.datum.Datum.{Datum}
use Rattle.pgw_cell.specs.declared.datum.RangeDatum.{RangeDatum}
use Rattle.pgw_cell.specs.declared.datum.BoundDatum.{BoundDatum}
use Rattle.pgw_cell.specs.declared.read.CellFault.{CellFault}
use Rattle.pgw_cell.specs.declared.read.CellFault.TheVariants.{Break as Broken, NoMemory}
use Rattle.pgw_cell.proofs.Spellings.{spelling_whole}
use Rattle.pgw_cell.proofs.RangePieces.{bounds_are, range_told}
use Rattle.pgw_cell.proofs.RangeAnswers.{ReadRange}
use Rattle.pgw_cell.proofs.Elements.{elements_many}
use Rattle.pgw_cell.proofs.Multiranges.{multirange_read}
use Rattle.pgw_cell.specs.Cells.{read_value}

-- ---- bounds

-- The bounds of a range have values of its part.
pub has_bounds : (t : Shape) (b : Bounds Value) → (range_spelling t).Has (range_of b) → HasBound (part_spelling t).Has b.0 × HasBound (part_spelling t).Has b.1
has_bounds t b h = by (default_of t) h
  where
    by : (o : Option Value) → (ranges_over (part_spelling t) o).Has (range_of b) → HasBound (part_spelling t).Has b.0 × HasBound (part_spelling t).Has b.1
    by None has = absurd has
    by (Some d) has =
        let same : has.0 ≡ b = sym (bounds_are (range_of b) has.0 has.1) ∙ bounds_are (range_of b) b refl in
        subst (λ (x : Bounds Value). HasBound (part_spelling t).Has x.0 × HasBound (part_spelling t).Has x.1) same (has.2, has.3)

pub bounds_have : (t : Shape) (p : List ℕ) (cells : Bounds Cell) → IsBytes p → (r : ReadRange t p cells) → HasBound (part_spelling t).Has r.bounds.0 × HasBound (part_spelling t).Has r.bounds.1
bounds_have t p cells bytes r = has_bounds t r.bounds ((range_told t).has p (range_of r.bounds) ((range_told t).exact.sound.spelled p (range_of r.bounds) bytes r.reads))

-- What a value of the part is written as is read as it.
pub part_again : (t : Shape) (v : Value) → (part_spelling t).Has v → read_piece t ((part_spelling t).canonical v) ≡ Ok v
part_again (scalar s) v has = let w = spelling_whole s in w.exact.reads.again ((spelling s).canonical v) v (w.written v has)
part_again _ v has = absurd has

-- The value of an included bound, and of an excluded one.
pub record BoundIs (t : Shape) (w : Canonical) (bound : Value → Bound Value) (b : Bound Value) : Type 0 where
  pub value : Value
  pub is : b ≡ bound value
  pub has : (part_spelling t).Has value
  pub reads : read_piece t (bytes_of w) ≡ Ok value

pub included_is : (t : Shape) (w : Canonical) (b : Bound Value) → HasBound (part_spelling t).Has b → cell_of_bound (Included w) ≡ bound_cell (part_spelling t).canonical b → BoundIs t w (λ v. Included v) b
included_is t w Unbounded has e = absurd cc
included_is t w (Included v) has e =
    let same : bytes_of w ≡ (part_spelling t).canonical v = cc in
    record { value = v; is = refl; has = has; reads = ap (read_piece t) same ∙ part_again t v has }
included_is t w (Excluded v) has e = absurd cc

pub excluded_is : (t : Shape) (w : Canonical) (b : Bound Value) → HasBound (part_spelling t).Has b → cell_of_bound (Excluded w) ≡ bound_cell (part_spelling t).canonical b → BoundIs t w (λ v. Excluded v) b
excluded_is t w Unbounded has e = absurd cc
excluded_is t w (Included v) has e = absurd cc
excluded_is t w (Excluded v) has e =
    let same : bytes_of w ≡ (part_spelling t).canonical v = cc in
    record { value = v; is = refl; has = has; reads = ap (read_piece t) same ∙ part_again t v has }

-- What a value is read as, where it is one, and else the fault, which is want of memory.
pub value_answered : (t : Shape) (p : List ℕ) (v : Value) (d : Datum) → read_piece t p ≡ Ok v → AnswersAs (Ok d) (read_piece t p) → value_of d ≡ v
value_answered t p v d e a = let same : Ok v ≡ Ok (value_of d) = sym e ∙ a in cc

pub value_refused : (t : Shape) (p : List ℕ) (v : Value) (fault : CellFault) → read_piece t p ≡ Ok v → AnswersAs (Err fault) (read_piece t p) → fault ≡ NoMemory
value_refused t p v (Broken kind) e a = let both : Ok v ≡ Err kind = sym e ∙ a in absurd cc
value_refused t p v NoMemory e a = refl

-- ---- ranges

pub lower_refused : (t : Shape) (p : List ℕ) (cells : Bounds Cell) (fault : CellFault) (r : ReadRange t p cells) → AnswersBound r.bounds.0 (Err fault) → AnswersBy value_of_range (Err fault) (read_piece (range t) p)
lower_refused t p cells fault r h =
    let wanted : AnswersBy value_of_range (Err NoMemory) (read_piece (range t) p) = (range_of r.bounds, r.reads, rw h.1 refl) in
    subst (λ (f : CellFault). AnswersBy value_of_range (Err f) (read_piece (range t) p)) (sym h.0) wanted

or_true : (b : Bool) → (b || true) ≡ true
or_true true = refl
or_true false = refl

pub upper_refused : (t : Shape) (p : List ℕ) (cells : Bounds Cell) (fault : CellFault) (r : ReadRange t p cells) → AnswersBound r.bounds.1 (Err fault) → AnswersBy value_of_range (Err fault) (read_piece (range t) p)
upper_refused t p cells fault r h =
    let wanted : AnswersBy value_of_range (Err NoMemory) (read_piece (range t) p) = (range_of r.bounds, r.reads, rw h.1 (or_true (has_value (bound_value r.bounds.0)))) in
    subst (λ (f : CellFault). AnswersBy value_of_range (Err f) (read_piece (range t) p)) (sym h.0) wanted

pub both_answered : (t : Shape) (p : List ℕ) (cells : Bounds Cell) (lower upper : BoundDatum) (r : ReadRange t p cells) → AnswersBound r.bounds.0 (Ok lower) → AnswersBound r.bounds.1 (Ok upper)
    → read_piece (range t) p ≡ Ok (range_value (bound_of lower) (bound_of upper))
both_answered t p cells lower upper r l u =
    r.reads ∙ ap (λ x. Ok (range_value x (bound_value r.bounds.1))) (sym l) ∙ ap (λ x. Ok (range_value (bound_of lower) x)) (sym u)

-- ---- ranges of a multirange

pub range_more : (items more : List RangeDatum) (d : RangeDatum) → more ≡ items ++ (d ∷ []) → map value_of_range more ≡ map value_of_range items ++ (value_of_range d ∷ [])
range_more items more d is = ap (λ (l : List RangeDatum). map value_of_range l) is ∙ map-append value_of_range items (d ∷ [])

pub multirange_of_read : (t : Shape) (p : List ℕ) (e : Elements) (vs : List Value) (rest : List ℕ) → BeginsMultirange p e → cells_read (range t) e ≡ Ok (vs, rest) → read_piece (multirange t) p ≡ Ok (multirange_of vs)
multirange_of_read t p e vs rest begins read = multirange_read t p e begins ∙ rw read refl

some_takes : (vs : List Value) → 0 < length vs → IsTrue (takes_memory (multirange_of vs))
some_takes [] some = absurd (omega (arith, some))
some_takes (v ∷ vs) some = refl

pub multirange_refused : (t : Shape) (p : List ℕ) (e : Elements) (x : List Value × List ℕ) (fault : CellFault) → BeginsMultirange p e → cells_read (range t) e ≡ Ok x → (fault ≡ NoMemory) × (0 < e.left) → AnswersAs (Err fault) (read_piece (multirange t) p)
multirange_refused t p e x fault begins read h =
    let wanted : AnswersAs (Err NoMemory) (read_piece (multirange t) p) =
    (multirange_of x.0, multirange_of_read t p e x.0 x.1 begins read, some_takes x.0 (omega (arith, h.1, elements_many (λ (c : Cell). read_value (range t) c) e x read))) in
    subst (λ (f : CellFault). AnswersAs (Err f) (read_piece (multirange t) p)) (sym h.0) wanted
