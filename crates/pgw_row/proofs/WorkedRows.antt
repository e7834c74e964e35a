-- What the definitions say of a row that is written out: its fields by place and by name, and those of windows on it.
use Rattle.std.proofs.Common.{◌≡◌, ℕ, List, [], ◌∷◌, Some, None, refl}
use Rattle.std.specs.declared.num.NonZeroU32.{NonZeroU32}
use Rattle.pgw_row.specs.Rows.{FieldParts, RowParts, whole_row, window_on, fields_in, cells_in, place_named, finds_in, inner_place, inner_place_named}

-- the names `a` and `b`
abbrev a : List ℕ
a = 97 ∷ []

abbrev b : List ℕ
b = 98 ∷ []

-- fields of the columns a, b, a and one without a name, of which the second is null
abbrev fields : NonZeroU32 → List FieldParts
fields oid = record { name = Some a; cell = Some (1 ∷ []); oid = oid }
    ∷ record { name = Some b; cell = None; oid = oid }
    ∷ record { name = Some a; cell = Some (3 ∷ []); oid = oid }
    ∷ record { name = None; cell = Some (4 ∷ []); oid = oid } ∷ []

abbrev row : NonZeroU32 → RowParts
row oid = whole_row (fields oid)

pub all_cells : (oid : NonZeroU32) → cells_in (row oid) ≡ Some (1 ∷ []) ∷ None ∷ Some (3 ∷ []) ∷ Some (4 ∷ []) ∷ []
all_cells oid = refl

-- Of two columns of one name the first is found.
pub first_a : (oid : NonZeroU32) → place_named (row oid) a ≡ Some 0
first_a oid = refl

pub b_is_null : (oid : NonZeroU32) → finds_in (row oid) b ≡ Some None
b_is_null oid = refl

pub no_c : (oid : NonZeroU32) → place_named (row oid) (99 ∷ []) ≡ None
no_c oid = refl

-- the window on the places 1 and 2, and in it one on the places from its second on
abbrev middle : NonZeroU32 → RowParts
middle oid = window_on (row oid) 1 3

abbrev third : NonZeroU32 → RowParts
third oid = window_on (middle oid) 1 9

pub middle_cells : (oid : NonZeroU32) → cells_in (middle oid) ≡ None ∷ Some (3 ∷ []) ∷ []
middle_cells oid = refl

pub third_cells : (oid : NonZeroU32) → cells_in (third oid) ≡ Some (3 ∷ []) ∷ []
third_cells oid = refl

-- The name a finds the field at 0 of the whole row, so it finds none in these windows.
pub a_outside : (oid : NonZeroU32) → place_named (middle oid) a ≡ None
a_outside oid = refl

pub a_outside_too : (oid : NonZeroU32) → place_named (third oid) a ≡ None
a_outside_too oid = refl

-- b stands at 1 in the row, and at 0 in the window, in which it is counted for windows on the window.
pub b_in_middle : (oid : NonZeroU32) → place_named (middle oid) b ≡ Some 0
b_in_middle oid = refl

pub b_in_row : (oid : NonZeroU32) → inner_place_named 1 (middle oid) b ≡ Some 1
b_in_row oid = refl

pub second_of_middle : (oid : NonZeroU32) → inner_place 1 (middle oid) 1 ≡ Some 2
second_of_middle oid = refl

pub past_middle : (oid : NonZeroU32) → inner_place 1 (middle oid) 2 ≡ None
past_middle oid = refl

-- windows whose range begins past the end, or ends in front of its begin
pub past_the_end : (oid : NonZeroU32) → fields_in (window_on (row oid) 5 9) ≡ []
past_the_end oid = refl

pub backwards : (oid : NonZeroU32) → fields_in (window_on (row oid) 3 1) ≡ []
backwards oid = refl
