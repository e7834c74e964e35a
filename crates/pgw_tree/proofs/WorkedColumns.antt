-- What the definitions say of cells that spell no value of a column, or one that is too long.
use Rattle.std.specs.Str.{IsUtf8, chars, is_utf8}
use Rattle.std.proofs.Common.{◌≡◌, pos, List, [], ◌∷◌, ◌++◌, length, Some, None, true, false, refl, ap, ◌∙◌, lit≤, arith}
use lib.Utf8.{encode}
use Rattle.pgw_wire.specs.Cell.{Cell}
use Rattle.pgw_wire.specs.declared.kind.Break.{Break}
use Rattle.pgw_wire.specs.declared.kind.Break.TheVariants.{Null, Size, Utf8}
use Rattle.pgw_meta.specs.Shape.{Shape, scalar, int4, text, nullable}
use Rattle.pgw_meta.specs.Schema.{is_nullable}
use Rattle.pgw_cell.specs.Value.{Value, null, number, string}
use Rattle.pgw_cell.specs.Cells.{Fits, Breaks}
use Rattle.pgw_tree.specs.Spells.{SpellsRow}
use Rattle.pgw_tree.specs.Columns.{IsColumnAt, BreaksAt, IsLongAt}
use Rattle.pgw_scalar.proofs.TextFields.{no_utf8}
use Rattle.pgw_tree.proofs.Worked.{spelled_42, letter_e_acute}

-- A null breaks as null where the type allows none, and else in no kind.
pub null_breaks : Breaks (scalar int4) Null None
null_breaks = (refl, refl)

pub null_allowed : (kind : Break) → Breaks (nullable (scalar int4)) kind None → ⊥
null_allowed kind h = absurd (cc)

-- Three bytes break as the size of an int4, nullable or not. Four bytes break in no kind.
pub three_bytes : Breaks (scalar int4) Size (Some (0 ∷ 0 ∷ 42 ∷ []))
three_bytes = (refl, λ e. omega (arith, e))

pub three_bytes_nullable : Breaks (nullable (scalar int4)) Size (Some (0 ∷ 0 ∷ 42 ∷ []))
three_bytes_nullable = (refl, λ e. omega (arith, e))

pub four_bytes : (kind : Break) → Breaks (scalar int4) kind (Some (0 ∷ 0 ∷ 0 ∷ 42 ∷ [])) → ⊥
four_bytes kind h = h.1 refl

-- C3 begins a character of two bytes, and 28 ends none: the text breaks. With A9 behind it, it does not.
tested : is_utf8 (195 ∷ 40 ∷ []) ≡ false
unfolding is_utf8 chars encode
tested = refl

pub broken_text : Breaks (scalar text) Utf8 (Some (195 ∷ 40 ∷ []))
broken_text = (refl, no_utf8 (195 ∷ 40 ∷ []) tested)

pub whole_text : (kind : Break) → Breaks (scalar text) kind (Some (195 ∷ 169 ∷ [])) → ⊥
whole_text kind h = h.1 letter_e_acute

-- A row of 42 and such a text breaks at column 1.
pub second_column : BreaksAt 4 (scalar int4 ∷ scalar text ∷ []) (Some (0 ∷ 0 ∷ 0 ∷ 42 ∷ []) ∷ Some (195 ∷ 40 ∷ []) ∷ []) 1 Utf8
second_column = record { enough = lit≤ tt; t = scalar text; cell = Some (195 ∷ 40 ∷ []); placed = placed; breaks = broken_text }
  where
    placed : IsColumnAt 4 (scalar int4 ∷ scalar text ∷ []) (Some (0 ∷ 0 ∷ 0 ∷ 42 ∷ []) ∷ Some (195 ∷ 40 ∷ []) ∷ []) 1 (scalar text) (Some (195 ∷ 40 ∷ []))
    placed = record {
      before = scalar int4 ∷ [];
      after = [];
      spelling = Some (0 ∷ 0 ∷ 0 ∷ 42 ∷ []) ∷ [];
      rest = [];
      values = number (pos 42) ∷ [];
      columns_are = refl;
      cells_are = refl;
      place = refl;
      spelled = spelled_42 [];
      each = refl;
      fit = (lit≤ tt, tt);
    }

-- Where the number is a null, column 1 is not the first that breaks.
pub not_second : BreaksAt 4 (scalar int4 ∷ scalar text ∷ []) (None ∷ Some (195 ∷ 40 ∷ []) ∷ []) 1 Utf8 → ⊥
not_second h = let b = h.placed in none b.before _ b.spelling _ b.values b.place b.each b.columns_are b.cells_are b.spelled
  where
    none : (before after : List Shape) (spelling rest : List Cell) (values : List Value) → length before ≡ 1 → length spelling ≡ length before → scalar int4 ∷ scalar text ∷ [] ≡ before ++ after → None ∷ Some (195 ∷ 40 ∷ []) ∷ [] ≡ spelling ++ rest → SpellsRow before spelling values → ⊥
    none [] after spelling rest values one each columns cells spelled = omega (arith, one)
    none (t ∷ before) after [] rest values one each columns cells spelled = spelled
    none (t ∷ before) after (c ∷ spelling) rest [] one each columns cells spelled = spelled
    none (t ∷ before) after (Some p ∷ spelling) rest (v ∷ values) one each columns cells spelled = absurd (cc)
    none (t ∷ before) after (None ∷ spelling) rest (v ∷ values) one each columns cells spelled =
        let first : scalar int4 ≡ t = cc in
        let no : is_nullable (scalar int4) ≡ true = ap is_nullable first ∙ spelled.0.0 in
        absurd (cc)

-- A text of two bytes fits a limit of 2, and a null one of 0. A text of three bytes is too long for a limit of 2.
pub short_text : Fits 2 (scalar text) (string (97 ∷ 98 ∷ []))
short_text = lit≤ tt

pub null_fits : Fits 0 (nullable (scalar text)) null
null_fits = lit≤ tt

pub letters : IsUtf8 (97 ∷ 98 ∷ 99 ∷ [])
unfolding encode
letters = (97 ∷ 98 ∷ 99 ∷ [], (refl, refl))

pub long_text : IsLongAt 2 (scalar text ∷ []) (Some (97 ∷ 98 ∷ 99 ∷ []) ∷ []) 0
long_text = record {
  enough = lit≤ tt;
  t = scalar text;
  cell = Some (97 ∷ 98 ∷ 99 ∷ []);
  value = string (97 ∷ 98 ∷ 99 ∷ []);
  placed = record { before = []; after = []; spelling = []; rest = []; values = []; columns_are = refl; cells_are = refl; place = refl; spelled = tt; each = refl; fit = tt };
  spells = (97 ∷ 98 ∷ 99 ∷ [], record { utf8 = letters; bytes = refl }, refl);
  long = λ fits. omega (arith, fits);
}
