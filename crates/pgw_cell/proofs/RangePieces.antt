-- Pieces of ranges and of multiranges, where the pieces of their bounds are read and written as is told.
use Rattle.std.proofs.Common.{rules, ◌≡◌, ◌≤◌, ◌+◌, ℕ, pos, false, List, [], ◌∷◌, length, map, Option, None, Some, w32, refl, sym, ap, ◌∙◌, subst, arith}
use Rattle.std.specs.List.{AllByRecursion}
use Rattle.std.specs.Int.{to_be_bytes}
use Rattle.std.specs.Range.Bound.{bound_map}
use Rattle.std.specs.declared.ops.Bound.{Bound}
use Rattle.std.specs.declared.ops.Bound.TheVariants.{Unbounded, Included, Excluded}
use Rattle.std.proofs.lemmas.List.{length-append, length-map}
use Rattle.pgw_meta.specs.Shape.{Scalar, int4, int8, date, timestamp, timestamptz, numeric, Shape, scalar}
use Rattle.pgw_nested.specs.Frames.{frames, IsFramed, AreFramed}
use Rattle.pgw_nested.specs.Range.{Bounds, SpellsBound, SpellParts, IsRange, bound_bytes, range_bytes}
use Rattle.pgw_nested.specs.Multirange.{IsMultirange, multirange_bytes}
use Rattle.pgw_nested.proofs.RangeFields.{range_exact}
use Rattle.pgw_nested.proofs.MultirangeFields.{multirange_exact}
use Rattle.pgw_nested.proofs.RangeCanonical.{cell_of_bound, FitsBound, written_range, written_multirange}
use Rattle.pgw_numeric.specs.Numeric.{not_a_number}
use Rattle.pgw_cell.specs.Value.{Value, null, natural, numeric as numeric_value, bound_value, bound_in, range_of, bounds_in, multirange_of, ranges_in}
use Rattle.pgw_cell.specs.Spellings.{Spelling, spelling, no_spelling}
use Rattle.pgw_cell.specs.Nulls.{HasCell, SpellsCell, BreaksCell, cell_by, size_by, read_by}
use Rattle.pgw_cell.specs.Arrays.{frames_size}
use Rattle.pgw_cell.specs.Ranges.{HasBound, bound_cell, bound_cells, bound_size, range_size, ranges, multiranges, scalar_default, ranges_over, range_spelling, multirange_spelling}
use Rattle.pgw_cell.proofs.Told.{IsToldSpelling, IsWrittenSpelling, told_whole, written_whole, no_spelling_whole, exact_as}
use Rattle.pgw_cell.proofs.Spellings.{spelling_told, spelling_written}
use Rattle.pgw_cell.proofs.NullCells.{cell_exact, cell_has}
use Rattle.pgw_cell.proofs.ArrayPieces.{of_cells, each_has, frames_length, each_written, frames_many, frame_length, listed_values}

-- The bounds of a range are those that it was made of, and so are the ranges of a multirange.
bound_again : (b : Bound Value) → bound_in (bound_value b) ≡ b
bound_again Unbounded = refl
bound_again (Included v) = refl
bound_again (Excluded v) = refl

pub bounds_are : (v : Value) (bounds : Bounds Value) → v ≡ range_of bounds → bounds_in v ≡ bounds
bounds_are v bounds is = ap bounds_in is ∙ rw (bound_again bounds.0, bound_again bounds.1) refl

pub ranges_are : (v : Value) (vs : List Value) → v ≡ multirange_of vs → ranges_in v ≡ vs
ranges_are v vs is = ap ranges_in is ∙ listed_values vs

no_range : (bounds : Bounds Value) → range_of bounds ≡ null → ⊥
no_range bounds e = absurd (cc)

no_multirange : (vs : List Value) → multirange_of vs ≡ null → ⊥
no_multirange vs e = absurd (cc)

-- ---- how they are read

module _ (part : Spelling) (told : IsToldSpelling part) where
  bound_has : (p : Bound (List ℕ)) (b : Bound Value) → SpellsBound (SpellsCell false part.Spells) p b → HasBound part.Has b
  bound_has Unbounded Unbounded s = tt
  bound_has Unbounded (Included v) s = absurd s
  bound_has Unbounded (Excluded v) s = absurd s
  bound_has (Included p) Unbounded s = absurd s
  bound_has (Included p) (Included v) s = told.has p v s
  bound_has (Included p) (Excluded v) s = absurd s
  bound_has (Excluded p) Unbounded s = absurd s
  bound_has (Excluded p) (Included v) s = absurd s
  bound_has (Excluded p) (Excluded v) s = told.has p v s

  bounds_have : (default : Value) → part.Has default → (parts : Option (Bounds (List ℕ))) (bounds : Bounds Value) → SpellParts (SpellsCell false part.Spells) default parts bounds → HasBound part.Has bounds.0 × HasBound part.Has bounds.1
  bounds_have default has None bounds s = subst (λ (b : Bounds Value). HasBound part.Has b.0 × HasBound part.Has b.1) (sym s) (has, has)
  bounds_have default has (Some p) bounds s = (bound_has p.0 bounds.0 s.0, bound_has p.1 bounds.1 s.1)

  ranges_told : (default : Value) → part.Has default → IsToldSpelling (ranges part default)
  ranges_told default has = record {
    exact = exact_as range_of (of_cells (range_exact (SpellsCell false part.Spells) (BreaksCell false part.Breaks) (read_by false part.read) default (cell_exact false told)));
    has = λ p v s. let h = bounds_have default has s.1.parts s.0 s.1.spelled in (s.0, s.2, h.0, h.1);
    some = λ v h e. no_range h.0 (sym h.1 ∙ e);
  }

  multiranges_told : IsToldSpelling (multiranges part)
  multiranges_told = record {
    exact = exact_as multirange_of (of_cells (multirange_exact (SpellsCell false part.Spells) (BreaksCell false part.Breaks) (read_by false part.read) (cell_exact false told)));
    has = λ p v s. (s.0, s.2, each_has (SpellsCell false part.Spells) (HasCell false part.Has) (cell_has false told) s.1.cells s.0 s.1.spelled);
    some = λ v h e. no_multirange h.0 (sym h.1 ∙ e);
  }

-- ---- how they are written

module _ (part : Spelling) (w : IsWrittenSpelling part) where
  cell_is : (b : Bound Value) → cell_of_bound (bound_map part.canonical b) ≡ bound_cell part.canonical b
  cell_is Unbounded = refl
  cell_is (Included v) = refl
  cell_is (Excluded v) = refl

  bound_fits : (b : Bound Value) → HasBound part.Has b → bound_size part.size b ≤ 2147483647 → FitsBound (bound_map part.canonical b)
  bound_fits Unbounded has fits = tt
  bound_fits (Included v) has fits = omega (arith, fits, w.counted v has)
  bound_fits (Excluded v) has fits = omega (arith, fits, w.counted v has)

  bound_spelled : (b : Bound Value) → HasBound part.Has b → bound_size part.size b ≤ 2147483647 → SpellsBound (SpellsCell false part.Spells) (bound_map part.canonical b) b
  bound_spelled Unbounded has fits = tt
  bound_spelled (Included v) has fits = w.written v has (omega (arith, fits))
  bound_spelled (Excluded v) has fits = w.written v has (omega (arith, fits))

  bound_counted : (b : Bound Value) → HasBound part.Has b → bound_size part.size b ≡ length (bound_bytes (bound_cell part.canonical b))
  bound_counted Unbounded has = refl
  bound_counted (Included v) has = omega (arith, w.counted v has, frame_length (Some (part.canonical v)))
  bound_counted (Excluded v) has = omega (arith, w.counted v has, frame_length (Some (part.canonical v)))

  bounds_written : (default : Value) (b : Bounds Value) → HasBound part.Has b.0 → HasBound part.Has b.1 → range_size part.size b ≤ 2147483647 → IsRange (SpellsCell false part.Spells) default (range_bytes (bound_cells part.canonical b)) b
  bounds_written default b lower upper fits =
      let l : bound_size part.size b.0 ≤ 2147483647 = omega (arith, fits) in
      let u : bound_size part.size b.1 ≤ 2147483647 = omega (arith, fits) in
      let one = written_range (SpellsCell false part.Spells) default (bound_map part.canonical b.0) (bound_map part.canonical b.1) b (bound_fits b.0 lower l) (bound_spelled b.0 lower l) (bound_spelled b.1 upper u) in
      let two = subst (λ (c : Bound _). IsRange (SpellsCell false part.Spells) default (range_bytes (c, cell_of_bound (bound_map part.canonical b.1))) b) (cell_is b.0) one in
      subst (λ (c : Bound _). IsRange (SpellsCell false part.Spells) default (range_bytes (bound_cell part.canonical b.0, c)) b) (cell_is b.1) two

  bounds_counted : (b : Bounds Value) → HasBound part.Has b.0 → HasBound part.Has b.1 → range_size part.size b ≡ length (range_bytes (bound_cells part.canonical b))
  bounds_counted b lower upper =
      let l = bound_bytes (bound_cell part.canonical b.0) in
      let u = bound_bytes (bound_cell part.canonical b.1) in
      omega (arith, bound_counted b.0 lower, bound_counted b.1 upper, length-append l u)

  ranges_written : (default : Value) → IsWrittenSpelling (ranges part default)
  ranges_written default = record {
    written = λ v has fits.
        let same = bounds_are v has.0 has.1 in
        let short = subst (λ (b : Bounds Value). range_size part.size b ≤ 2147483647) same fits in
        (has.0, subst (λ (b : Bounds Value). IsRange (SpellsCell false part.Spells) default (range_bytes (bound_cells part.canonical b)) has.0) (sym same) (bounds_written default has.0 has.2 has.3 short), has.1);
    counted = λ v has. subst (λ (b : Bounds Value). range_size part.size b ≡ length (range_bytes (bound_cells part.canonical b))) (sym (bounds_are v has.0 has.1)) (bounds_counted has.0 has.2 has.3);
  }

  one_framed : (v : Value) → HasCell false part.Has v → size_by part.size v ≤ 2147483647 → IsFramed false (cell_by part.canonical v)
  one_framed null has fits = absurd (cc)
  one_framed v has fits = omega (arith, fits, w.counted v has)

  pieces_framed : (vs : List Value) → AllByRecursion (HasCell false part.Has) vs → frames_size (size_by part.size) vs ≤ 2147483647 → AreFramed false (map (cell_by part.canonical) vs)
  pieces_framed [] has fits = tt
  pieces_framed (v ∷ vs) has fits = (one_framed v has.0 (omega (arith, fits)), pieces_framed vs has.1 (omega (arith, fits)))

  list_written : (vs : List Value) → AllByRecursion (HasCell false part.Has) vs → 4 + frames_size (size_by part.size) vs ≤ 2147483647 → IsMultirange (SpellsCell false part.Spells) (multirange_bytes (map (cell_by part.canonical) vs)) vs
  list_written vs has fits =
      let short : frames_size (size_by part.size) vs ≤ 2147483647 = omega (arith, fits) in
      written_multirange (SpellsCell false part.Spells) (map (cell_by part.canonical) vs) vs (pieces_framed vs has short)
      (omega (arith, fits, frames_many (size_by part.size) vs, length-map vs (cell_by part.canonical))) (each_written false w vs has short)

  pub list_counted : (vs : List Value) → AllByRecursion (HasCell false part.Has) vs → 4 + frames_size (size_by part.size) vs ≡ length (multirange_bytes (map (cell_by part.canonical) vs))
  list_counted vs has =
      let cells = map (cell_by part.canonical) vs in
      omega (arith, frames_length false w vs has, length-append (to_be_bytes w32 (length cells)) (frames cells))

  multiranges_written : IsWrittenSpelling (multiranges part)
  multiranges_written = record {
    written = λ v has fits.
        let same = ranges_are v has.0 has.1 in
        let short = subst (λ (us : List Value). 4 + frames_size (size_by part.size) us ≤ 2147483647) same fits in
        (has.0, subst (λ (us : List Value). IsMultirange (SpellsCell false part.Spells) (multirange_bytes (map (cell_by part.canonical) us)) has.0) (sym same) (list_written has.0 has.2 short), has.1);
    counted = λ v has. subst (λ (us : List Value). 4 + frames_size (size_by part.size) us ≡ length (multirange_bytes (map (cell_by part.canonical) us))) (sym (ranges_are v has.0 has.1)) (list_counted has.0 has.2);
  }

-- ---- over the types that PostgreSQL has ranges over

-- What an empty range excludes is a value of the type.
default_has : (s : Scalar) (d : Value) → scalar_default s ≡ Some d → (spelling s).Has d
default_has int4 d is = let same : natural 0 ≡ d = cc in subst (λ (v : Value). (spelling int4).Has v) same (pos 0, refl, search rules)
default_has int8 d is = let same : natural 0 ≡ d = cc in subst (λ (v : Value). (spelling int8).Has v) same (pos 0, refl, search rules)
default_has numeric d is = let same : numeric_value not_a_number ≡ d = cc in subst (λ (v : Value). (spelling numeric).Has v) same (not_a_number, refl, search rules)
default_has date d is = let same : natural 0 ≡ d = cc in subst (λ (v : Value). (spelling date).Has v) same (pos 0, refl, search rules)
default_has timestamp d is = let same : natural 0 ≡ d = cc in subst (λ (v : Value). (spelling timestamp).Has v) same (pos 0, refl, search rules)
default_has timestamptz d is = let same : natural 0 ≡ d = cc in subst (λ (v : Value). (spelling timestamptz).Has v) same (pos 0, refl, search rules)
default_has _ d is = absurd cc

over_told : (part : Spelling) (default : Option Value) → IsToldSpelling part → ((d : Value) → default ≡ Some d → part.Has d) → IsToldSpelling (ranges_over part default)
over_told part None told has = told_whole no_spelling no_spelling_whole
over_told part (Some d) told has = ranges_told part told d (has d refl)

over_written : (part : Spelling) (default : Option Value) → IsWrittenSpelling part → IsWrittenSpelling (ranges_over part default)
over_written part None w = written_whole no_spelling no_spelling_whole
over_written part (Some d) w = ranges_written part w d

pub range_told : (t : Shape) → IsToldSpelling (range_spelling t)
range_told (scalar s) = over_told (spelling s) (scalar_default s) (spelling_told s) (default_has s)
range_told _ = told_whole no_spelling no_spelling_whole

pub range_written : (t : Shape) → IsWrittenSpelling (range_spelling t)
range_written (scalar s) = over_written (spelling s) (scalar_default s) (spelling_written s)
range_written _ = written_whole no_spelling no_spelling_whole

pub multirange_told : (t : Shape) → IsToldSpelling (multirange_spelling t)
multirange_told t = multiranges_told (range_spelling t) (range_told t)

pub multirange_written : (t : Shape) → IsWrittenSpelling (multirange_spelling t)
multirange_written t = multiranges_written (range_spelling t) (range_written t)
