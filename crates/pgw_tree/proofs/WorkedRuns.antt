-- What the definitions say of rows that are canonical as they stand, and of rows that are spelled otherwise.
use Rattle.std.proofs.Common.{◌≡◌, ℕ, pos, List, [], ◌∷◌, ◌++◌, length, get_or, None, Some, refl, ap, ◌∙◌, arith, lit<, lit≤, length-append, append-nil, subst, sym}
use Rattle.std.specs.List.{flat_map}
use Rattle.std.proofs.lemmas.Grind.{flat_map-append}
use Rattle.pgw_copy.specs.Format.{IsField}
use Rattle.pgw_meta.specs.Shape.{Shape, scalar, int4, text, nullable}
use Rattle.pgw_cell.specs.Value.{Value, null, truth, number, bytes, string, network, interval, numeric, list, range, multirange}
use Rattle.pgw_tree.specs.Canonical.{canonical_row}
use Rattle.pgw_tree.specs.Copying.{IsValuesRow}
use Rattle.pgw_tree.specs.Plain.{IsPlainRow, ArePlainRows}
use Rattle.pgw_tree.specs.Runs.{AreRespelled, EndsInRow}
use Rattle.pgw_tree.proofs.Worked.{int4_42, no_bytes, e_acute}
use Rattle.pgw_meta.specs.Known.{Known}

-- No named type is known.
abbrev unknown : Known
unknown key = None

abbrev columns : List Shape
columns = nullable (scalar int4) ∷ scalar text ∷ []

-- the row of 42 and "é", of 16 bytes, and that of a null and an empty text, of 10
abbrev first_values : List Value
first_values = number (pos 42) ∷ string (195 ∷ 169 ∷ []) ∷ []

abbrev first_row : List ℕ
first_row = 0 ∷ 2 ∷ 0 ∷ 0 ∷ 0 ∷ 4 ∷ 0 ∷ 0 ∷ 0 ∷ 42 ∷ 0 ∷ 0 ∷ 0 ∷ 2 ∷ 195 ∷ 169 ∷ []

abbrev second_values : List Value
second_values = null ∷ string [] ∷ []

abbrev second_row : List ℕ
second_row = 0 ∷ 2 ∷ 255 ∷ 255 ∷ 255 ∷ 255 ∷ 0 ∷ 0 ∷ 0 ∷ 0 ∷ []

abbrev both : List (List Value)
both = first_values ∷ second_values ∷ []

empty_field : IsField (Some []) (0 ∷ 0 ∷ 0 ∷ 0 ∷ [])
empty_field = (lit< tt, refl)

first_valid : IsValuesRow 4 columns first_row first_values
first_valid = record {
  cells = Some (0 ∷ 0 ∷ 0 ∷ 42 ∷ []) ∷ Some (195 ∷ 169 ∷ []) ∷ [];
  is = record { fields = _; few = lit< tt; each = (0 ∷ 0 ∷ 0 ∷ 4 ∷ 0 ∷ 0 ∷ 0 ∷ 42 ∷ [], 0 ∷ 0 ∷ 0 ∷ 2 ∷ 195 ∷ 169 ∷ [], (lit< tt, refl), (_, [], (lit< tt, refl), refl, refl), refl); is = refl };
  spelled = ((pos 42, int4_42, refl), ((195 ∷ 169 ∷ [], e_acute, refl), tt));
  fit = (lit≤ tt, (lit≤ tt, tt));
}

-- A row of a null, whose length is given as a field of 32 bits, and an empty text.
null_row : (null_field : List ℕ) → IsField None null_field → IsValuesRow 4 columns (0 ∷ 2 ∷ null_field ++ (0 ∷ 0 ∷ 0 ∷ 0 ∷ [])) second_values
null_row null_field is = record {
  cells = None ∷ Some [] ∷ [];
  is = record { fields = null_field ++ (0 ∷ 0 ∷ 0 ∷ 0 ∷ []); few = lit< tt; each = (null_field, 0 ∷ 0 ∷ 0 ∷ 0 ∷ [], is, (_, [], empty_field, refl, refl), refl); is = refl };
  spelled = ((refl, refl), (([], no_bytes, refl), tt));
  fit = (lit≤ tt, (lit≤ tt, tt));
}

minus_one : IsField None (255 ∷ 255 ∷ 255 ∷ 255 ∷ [])
minus_one = (4294967295, lit≤ tt, lit< tt, refl)

minus_two : IsField None (255 ∷ 255 ∷ 255 ∷ 254 ∷ [])
minus_two = (4294967294, lit≤ tt, lit< tt, refl)

first_plain : IsPlainRow unknown 4 columns first_row first_values
first_plain = record { row = first_valid; is = refl }

second_plain : IsPlainRow unknown 4 columns second_row second_values
second_plain = record { row = null_row (255 ∷ 255 ∷ 255 ∷ 255 ∷ []) minus_one; is = refl }

-- Both are canonical as they stand.
pub two_plain : ArePlainRows unknown 4 columns (first_row ++ second_row) both
two_plain = (first_row, second_row, first_plain, (second_row, [], second_plain, refl, refl), refl)

-- The row whose null has the length -2 is not, whatever its values are.
abbrev other_row : List ℕ
other_row = 0 ∷ 2 ∷ 255 ∷ 255 ∷ 255 ∷ 254 ∷ 0 ∷ 0 ∷ 0 ∷ 0 ∷ []

pub other_not_plain : (values : List Value) → IsPlainRow unknown 4 columns other_row values → ⊥
other_not_plain values p = none values p.is
  where
    none : (values : List Value) → other_row ≡ canonical_row unknown columns values → ⊥
    none [] e = omega (arith, ap length e)
    none (null ∷ vs) e = omega (arith, ap (λ l. get_or l 5 0) e)
    none (truth b ∷ vs) e = omega (arith, ap (λ l. get_or l 2 0) e)
    none (number n ∷ vs) e = omega (arith, ap (λ l. get_or l 2 0) e)
    none (bytes b ∷ vs) e = omega (arith, ap (λ l. get_or l 2 0) e)
    none (string s ∷ vs) e = omega (arith, ap (λ l. get_or l 2 0) e)
    none (network x ∷ vs) e = omega (arith, ap (λ l. get_or l 2 0) e)
    none (interval x ∷ vs) e = omega (arith, ap (λ l. get_or l 2 0) e)
    none (numeric x ∷ vs) e = omega (arith, ap (λ l. get_or l 2 0) e)
    none (list x ∷ vs) e = omega (arith, ap (λ l. get_or l 2 0) e)
    none (range lower upper ∷ vs) e = omega (arith, ap (λ l. get_or l 2 0) e)
    none (multirange x ∷ vs) e = omega (arith, ap (λ l. get_or l 2 0) e)

-- It is respelled as the second row.
pub respelled : AreRespelled unknown 4 columns 1 second_row other_row
respelled = record {
  rows = second_values ∷ [];
  as_many = refl;
  each = let r = null_row (255 ∷ 255 ∷ 255 ∷ 254 ∷ []) minus_two in (r.cells, other_row, [], r.is, r.spelled, refl, refl);
  plain = (second_row, [], second_plain, refl, refl);
}

-- not as itself
pub not_as_it_stands : AreRespelled unknown 4 columns 1 other_row other_row → ⊥
not_as_it_stands h = none h.rows h.as_many h.plain
  where
    none : (rows : List (List Value)) → length rows ≡ 1 → ArePlainRows unknown 4 columns other_row rows → ⊥
    none [] one plain = omega (arith, one)
    none (vs ∷ ws ∷ rows) one plain = omega (arith, one)
    none (vs ∷ []) one plain = other_not_plain vs (subst (λ (l : List ℕ). IsPlainRow unknown 4 columns l vs) (sym (append-nil plain.0) ∙ ap (λ l. plain.0 ++ l) (sym plain.3) ∙ sym plain.4) plain.2)

-- Behind 15 of the canonical bytes the next byte is in the first row, and behind 16 in the second; behind all 26 in none.
-- Here the second row is read with the length -2.
pub ends_in_first : EndsInRow unknown 4 columns both 15 first_row
ends_in_first = record {
  before = [];
  after = second_values ∷ [];
  last = first_values;
  rows_are = refl;
  begun = lit≤ tt;
  front = [];
  row = first_row;
  ends = lit< tt;
  each = refl;
  is_last = first_valid;
  is = refl;
}

pub ends_in_second : EndsInRow unknown 4 columns both 16 (first_row ++ other_row)
ends_in_second = record {
  before = first_values ∷ [];
  after = [];
  last = second_values;
  rows_are = refl;
  begun = lit≤ tt;
  front = first_row;
  row = other_row;
  ends = lit< tt;
  each = (first_valid.cells, first_row, [], first_valid.is, first_valid.spelled, refl, refl);
  is_last = null_row (255 ∷ 255 ∷ 255 ∷ 254 ∷ []) minus_two;
  is = refl;
}

pub ends_in_none : (run : List ℕ) → EndsInRow unknown 4 columns both 26 run → ⊥
ends_in_none run h =
    let form = canonical_row unknown columns in
    let all = ap (λ rows. length (flat_map form rows)) h.rows_are ∙ ap length (flat_map-append form h.before (h.last ∷ h.after)) in
    omega (arith, h.ends, all, length-append (flat_map form h.before) (flat_map form (h.last ∷ h.after)), length-append (form h.last) (flat_map form h.after))
