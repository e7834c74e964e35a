-- What the definitions say of headers, rows and streams that are written out byte by byte.
use Rattle.std.proofs.Common.{◌≡◌, ℕ, pos, negsuc, List, [], ◌∷◌, ◌++◌, length, get_or, drop, Some, None, refl, ap, ◌∙◌, lit<, lit≤, append-nil, subst, arith}
use Rattle.std.specs.Str.{IsUtf8}
use Rattle.std.specs.Int.{w32}
use lib.Utf8.{encode}
use Rattle.pgw_wire.specs.Cell.{Cell}
use Rattle.pgw_meta.specs.Shape.{Shape, scalar, int4, text, nullable}
use Rattle.pgw_cell.specs.Value.{Value, null, number, string}
use Rattle.pgw_cell.specs.Cells.{canonical_cell}
use Rattle.pgw_tree.specs.Spells.{SpellsRow}
use Rattle.pgw_tree.specs.Canonical.{canonical_front}
use Rattle.pgw_scalar.specs.Whole.{IsSigned}
use Rattle.pgw_scalar.specs.Text.{IsText}
use Rattle.pgw_copy.specs.Format.{IsHeader, IsField, IsRow, trailer}
use Rattle.pgw_tree.specs.Stream.{IsFront, IsStream, IsWithin}
use Rattle.pgw_tree.specs.Limits.{default_limits}
use Rattle.pgw_meta.specs.Known.{Known}

-- No named type is known.
abbrev unknown : Known
unknown key = None

-- a header with no flag and no extension
abbrev pub plain : List ℕ
plain = 80 ∷ 71 ∷ 67 ∷ 79 ∷ 80 ∷ 89 ∷ 10 ∷ 255 ∷ 13 ∷ 10 ∷ 0 ∷ 0 ∷ 0 ∷ 0 ∷ 0 ∷ 0 ∷ 0 ∷ 0 ∷ 0 ∷ []

abbrev pub columns : List Shape
columns = scalar int4 ∷ []

-- the row of one value, 42
abbrev pub values : List Value
values = number (pos 42) ∷ []

-- the field of 42, a null field and a field of one byte
abbrev pub field_42 : List ℕ
field_42 = 0 ∷ 0 ∷ 0 ∷ 4 ∷ 0 ∷ 0 ∷ 0 ∷ 42 ∷ []

abbrev pub field_null : List ℕ
field_null = 255 ∷ 255 ∷ 255 ∷ 255 ∷ []

abbrev field_byte : List ℕ
field_byte = 0 ∷ 0 ∷ 0 ∷ 1 ∷ 170 ∷ []

cell_42 : IsField (Some (0 ∷ 0 ∷ 0 ∷ 42 ∷ [])) field_42
cell_42 = (lit< tt, refl)

-- All negative lengths are nulls, -1 and the least one too.
cell_null : IsField None field_null
cell_null = (4294967295, lit≤ tt, lit< tt, refl)

pub cell_least : IsField None (128 ∷ 0 ∷ 0 ∷ 0 ∷ [])
cell_least = (2147483648, lit≤ tt, lit< tt, refl)

pub plain_is_header : IsHeader plain
plain_is_header = record { fixed = plain; extension = []; begins = record { flags = 0; low = lit< tt; short = lit< tt; is = refl }; is = refl }

pub int4_42 : IsSigned w32 (0 ∷ 0 ∷ 0 ∷ 42 ∷ []) (pos 42)
int4_42 = record { fits = record { sfits = lit< tt }; bytes = refl }

pub spelled_42 : (cells : List Cell) → SpellsRow columns (Some (0 ∷ 0 ∷ 0 ∷ 42 ∷ []) ∷ cells) values
spelled_42 cells = ((pos 42, int4_42, refl), tt)

-- A header and the end are a stream of no rows, and the canonical one.
pub empty_stream : IsStream columns (plain ++ 255 ∷ 255 ∷ []) []
empty_stream = record { front = plain; begins = record { header = plain; body = []; begins = plain_is_header; each = refl; is = refl }; is = refl }

pub empty_canonical : canonical_front unknown columns [] ++ trailer ≡ plain ++ 255 ∷ 255 ∷ []
empty_canonical = refl

-- A header and a row of one field of four bytes are the front of a stream of one value. With the end behind them they are
-- a stream, and so the canonical stream writes it.
row_42 : IsRow (Some (0 ∷ 0 ∷ 0 ∷ 42 ∷ []) ∷ []) (0 ∷ 1 ∷ field_42)
row_42 = record { fields = field_42; few = lit< tt; each = (field_42, [], cell_42, refl, refl); is = refl }

pub front_42 : IsFront columns (plain ++ 0 ∷ 1 ∷ field_42) (values ∷ [])
front_42 = record { header = plain; body = 0 ∷ 1 ∷ field_42; begins = plain_is_header; each = (_, _, [], row_42, spelled_42 [], refl, refl); is = refl }

pub row_stream : IsStream columns (plain ++ 0 ∷ 1 ∷ 0 ∷ 0 ∷ 0 ∷ 4 ∷ 0 ∷ 0 ∷ 0 ∷ 42 ∷ 255 ∷ 255 ∷ []) (values ∷ [])
row_stream = record { front = plain ++ 0 ∷ 1 ∷ field_42; begins = front_42; is = refl }

pub row_canonical : canonical_front unknown columns (values ∷ []) ++ trailer ≡ plain ++ 0 ∷ 1 ∷ 0 ∷ 0 ∷ 0 ∷ 4 ∷ 0 ∷ 0 ∷ 0 ∷ 42 ∷ 255 ∷ 255 ∷ []
row_canonical = refl

-- Fields behind the last column change nothing, null or not.
pub wide_stream : IsStream columns (plain ++ 0 ∷ 3 ∷ 0 ∷ 0 ∷ 0 ∷ 4 ∷ 0 ∷ 0 ∷ 0 ∷ 42 ∷ 255 ∷ 255 ∷ 255 ∷ 255 ∷ 0 ∷ 0 ∷ 0 ∷ 1 ∷ 170 ∷ 255 ∷ 255 ∷ []) (values ∷ [])
wide_stream = record { front = plain ++ 0 ∷ 3 ∷ fields; begins = front; is = refl }
  where
    fields : List ℕ
    fields = field_42 ++ field_null ++ field_byte

    row : IsRow (Some (0 ∷ 0 ∷ 0 ∷ 42 ∷ []) ∷ None ∷ Some (170 ∷ []) ∷ []) (0 ∷ 3 ∷ fields)
    row = record { fields = fields; few = lit< tt; each = (field_42, field_null ++ field_byte, cell_42, (field_null, field_byte, cell_null, (field_byte, [], (lit< tt, refl), refl, refl), refl), refl); is = refl }

    front : IsFront columns (plain ++ 0 ∷ 3 ∷ fields) (values ∷ [])
    front = record { header = plain; body = 0 ∷ 3 ∷ fields; begins = plain_is_header; each = (_, _, [], row, spelled_42 (None ∷ Some (170 ∷ []) ∷ []), refl, refl); is = refl }

-- Both are within the limits that hold where none are named.
pub none_within : IsWithin default_limits columns []
none_within = record { few = lit≤ tt; fit = tt }

pub one_within : IsWithin default_limits columns (values ∷ [])
one_within = record { few = lit≤ tt; fit = ((lit≤ tt, tt), tt) }

-- -1 is written in two's complement.
pub minus_one : canonical_cell unknown (scalar int4) (number (negsuc 0)) ≡ Some (255 ∷ 255 ∷ 255 ∷ 255 ∷ [])
minus_one = refl

-- A row whose count is 1 is that and the field of one cell.
one_count : (rest behind row : List ℕ) (cells : List Cell) → IsRow cells row → 0 ∷ 1 ∷ rest ≡ row ++ behind → length cells ≡ 1
one_count rest behind row cells h e =
    let byte = λ (i : ℕ). ap (λ l. get_or l i 0) (e ∙ ap (λ r. r ++ behind) h.is) in
    let few = h.few in
    omega (arith, byte 0, byte 1, few)

one_field : (rest behind row : List ℕ) (cells : List Cell) → IsRow cells row → 0 ∷ 1 ∷ rest ≡ row ++ behind → (c : Cell) × (field : List ℕ) × (cells ≡ c ∷ []) × IsField c field × (rest ≡ field ++ behind)
one_field rest behind row [] h e = absurd (omega (arith, one_count rest behind row [] h e))
one_field rest behind row (c ∷ d ∷ cs) h e = absurd (omega (arith, one_count rest behind row (c ∷ d ∷ cs) h e))
one_field rest behind row (c ∷ []) h e =
    let fields = h.each.4 ∙ ap (λ r. h.each.0 ++ r) h.each.3 ∙ append-nil h.each.0 in
    (c, h.each.0, refl, h.each.2, ap (drop 2) (e ∙ ap (λ r. r ++ behind) h.is) ∙ ap (λ f. f ++ behind) fields)

-- A null is a field of a row, but spells no value of the column, however the row is read.
pub null_row : IsRow (None ∷ []) (0 ∷ 1 ∷ field_null)
null_row = record { fields = field_null; few = lit< tt; each = (field_null, [], cell_null, refl, refl); is = refl }

pub null_spells_none : (cells : List Cell) (vs : List Value) → IsRow cells (0 ∷ 1 ∷ field_null) → SpellsRow columns cells vs → ⊥
null_spells_none cells vs row spelled =
    let one = one_field field_null [] (0 ∷ 1 ∷ field_null) cells row refl in
    none one.0 one.1 vs one.3 one.4 (let P : List Cell → Type 0 = λ cs. SpellsRow columns cs vs in subst P one.2 spelled)
  where
    none : (c : Cell) (field : List ℕ) (vs : List Value) → IsField c field → field_null ≡ field ++ [] → SpellsRow columns (c ∷ []) vs → ⊥
    none c field [] f e h = h
    none None field (v ∷ vs) f e h = absurd (cc)
    none (Some p) field (v ∷ vs) (short, is) e h = omega (arith, ap (λ l. get_or l 0 0) (e ∙ ap (λ f. f ++ []) is), short)

-- A null where a column allows one, by any negative length, and a text: the canonical stream writes -1 for the null.
abbrev wide_columns : List Shape
wide_columns = nullable (scalar int4) ∷ nullable (scalar text) ∷ scalar text ∷ []

abbrev wide_values : List Value
wide_values = null ∷ null ∷ string (195 ∷ 169 ∷ []) ∷ []

abbrev text_field : List ℕ
text_field = 0 ∷ 0 ∷ 0 ∷ 2 ∷ 195 ∷ 169 ∷ []

pub letter_e_acute : IsUtf8 (195 ∷ 169 ∷ [])
unfolding encode
letter_e_acute = (233 ∷ [], (refl, refl))

-- Two bytes that are one character, and no byte, are a text.
pub e_acute : IsText (195 ∷ 169 ∷ []) (195 ∷ 169 ∷ [])
e_acute = record { utf8 = letter_e_acute; bytes = refl }

pub no_bytes : IsText [] []
unfolding encode
no_bytes = record { utf8 = ([], (refl, refl)); bytes = refl }

spelled_wide : SpellsRow wide_columns (None ∷ None ∷ Some (195 ∷ 169 ∷ []) ∷ []) wide_values
spelled_wide = ((refl, refl), ((refl, refl), ((195 ∷ 169 ∷ [], e_acute, refl), tt)))

pub null_stream : IsStream wide_columns (plain ++ 0 ∷ 3 ∷ 128 ∷ 0 ∷ 0 ∷ 0 ∷ 255 ∷ 255 ∷ 255 ∷ 254 ∷ 0 ∷ 0 ∷ 0 ∷ 2 ∷ 195 ∷ 169 ∷ 255 ∷ 255 ∷ []) (wide_values ∷ [])
null_stream = record { front = plain ++ 0 ∷ 3 ∷ fields; begins = front; is = refl }
  where
    fields : List ℕ
    fields = 128 ∷ 0 ∷ 0 ∷ 0 ∷ 255 ∷ 255 ∷ 255 ∷ 254 ∷ text_field

    other_null : IsField None (255 ∷ 255 ∷ 255 ∷ 254 ∷ [])
    other_null = (4294967294, lit≤ tt, lit< tt, refl)

    row : IsRow (None ∷ None ∷ Some (195 ∷ 169 ∷ []) ∷ []) (0 ∷ 3 ∷ fields)
    row = record { fields = fields; few = lit< tt; each = (128 ∷ 0 ∷ 0 ∷ 0 ∷ [], 255 ∷ 255 ∷ 255 ∷ 254 ∷ text_field, cell_least, (255 ∷ 255 ∷ 255 ∷ 254 ∷ [], text_field, other_null, (text_field, [], (lit< tt, refl), refl, refl), refl), refl); is = refl }

    front : IsFront wide_columns (plain ++ 0 ∷ 3 ∷ fields) (wide_values ∷ [])
    front = record { header = plain; body = 0 ∷ 3 ∷ fields; begins = plain_is_header; each = (_, _, [], row, spelled_wide, refl, refl); is = refl }

pub null_canonical : canonical_front unknown wide_columns (wide_values ∷ []) ++ trailer ≡ plain ++ 0 ∷ 3 ∷ 255 ∷ 255 ∷ 255 ∷ 255 ∷ 255 ∷ 255 ∷ 255 ∷ 255 ∷ 0 ∷ 0 ∷ 0 ∷ 2 ∷ 195 ∷ 169 ∷ 255 ∷ 255 ∷ []
null_canonical = refl
