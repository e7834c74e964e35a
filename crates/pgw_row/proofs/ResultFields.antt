-- The fields of a row of a result by its columns and its cells.
use Rattle.std.proofs.Common.{◌≡◌, ◌<◌, ◌≤◌, ◌+◌, ◌∙◌, ap, zero, suc, ℕ, true, false, cond, not, min, List, [], ◌∷◌, length, get_or, Option, None, Some, refl, sym, arith}
use Rattle.std.specs.Prelude.{slice_get, position, map, option_map, IfSome}
use Rattle.std.specs.List.{position_or_len}
use Rattle.std.specs.declared.alloc.Global.{Global}
use Rattle.std.specs.declared.vec.Vec.{Vec}
use Rattle.std.proofs.lemmas.Option.{slice_get_past, slice_get_read}
use Rattle.std.proofs.lemmas.Grind.{common_steps}
use Rattle.pgw_row.specs.Rows.{FieldParts, is_named, whole_row, fields_in, inner_place_named}
use Rattle.pgw_row.specs.ResultRows.{fields_of_columns, field_in_column, column_is_named, row_fields}
use Rattle.pgw_row.specs.Results.{column_of, row_of}
use Rattle.pgw_row.specs.declared.result.ResultColumn.{ResultColumn}

abbrev Cells : Type 0
Cells = List (Option (Vec ℕ Global))

count_of_pairs : (columns : List ResultColumn) (cells : Cells)
    → length (fields_of_columns columns cells) ≡ min (length columns) (length cells)
count_of_pairs [] cells = omega arith
count_of_pairs (c ∷ cs) [] = omega arith
count_of_pairs (c ∷ cs) (x ∷ xs) = let h = count_of_pairs cs xs in omega (arith, h)

pub count_of_fields : (columns : List ResultColumn) (cells : Cells)
    → length (fields_in (whole_row (fields_of_columns columns cells))) ≡ min (length columns) (length cells)
count_of_fields columns cells = let h = count_of_pairs columns cells in grind (arith, common_steps, h)

at_place : (columns : List ResultColumn) (cells : Cells) (i : ℕ) (c : ResultColumn) (x : Option (Vec ℕ Global))
    → slice_get columns i ≡ Some c → slice_get cells i ≡ Some x
    → slice_get (fields_of_columns columns cells) i ≡ Some (field_in_column c x)
at_place [] cells i c x h k = cc
at_place (d ∷ ds) [] i c x h k = cc
at_place (d ∷ ds) (y ∷ ys) zero c x h k = grind (arith, h, k)
at_place (d ∷ ds) (y ∷ ys) (suc i) c x h k = at_place ds ys i c x h k

all : (fields : List FieldParts) → fields_in (whole_row fields) ≡ fields
all fields = grind (arith, common_steps)

pub field_at_place : (columns : List ResultColumn) (cells : Cells) (i : ℕ)
    (c : ResultColumn) (x : Option (Vec ℕ Global))
    → i < length columns → c ≡ get_or columns i c → i < length cells → x ≡ get_or cells i x
    → slice_get (fields_in (whole_row (fields_of_columns columns cells))) i ≡ Some (field_in_column c x)
field_at_place columns cells i c x in_columns is_column in_cells is_cell =
    ap (λ fs. slice_get fs i) (all (fields_of_columns columns cells))
    ∙ at_place columns cells i c x (slice_get_read columns (length columns) i c refl in_columns is_column)
    (slice_get_read cells (length cells) i x refl in_cells is_cell)

none_at_place : (columns : List ResultColumn) (cells : Cells) (i : ℕ) → min (length columns) (length cells) ≤ i
    → slice_get (fields_of_columns columns cells) i ≡ None
none_at_place columns cells i h =
    slice_get_past (fields_of_columns columns cells) i (let n = count_of_pairs columns cells in omega (arith, h, n))

pub no_field : (columns : List ResultColumn) (cells : Cells) (i : ℕ) → min (length columns) (length cells) ≤ i
    → slice_get (fields_in (whole_row (fields_of_columns columns cells))) i ≡ None
no_field columns cells i h =
    ap (λ fs. slice_get fs i) (all (fields_of_columns columns cells)) ∙ none_at_place columns cells i h

first_of : (columns : List ResultColumn) (cells : Cells) (name : List ℕ)
    → position_or_len (is_named name) (fields_of_columns columns cells)
    ≡ min (position_or_len (column_is_named name) columns) (length (fields_of_columns columns cells))
first_of [] cells name = refl
first_of (c ∷ cs) [] name = omega arith
first_of (c ∷ cs) (x ∷ xs) name =
    let h = first_of cs xs name in
    elim (column_is_named name c) as (λ b.
    cond (not b) (1 + position_or_len (is_named name) (fields_of_columns cs xs)) 0
    ≡ min (cond (not b) (1 + position_or_len (column_is_named name) cs) 0) (suc (length (fields_of_columns cs xs))))
    [ true ↦ omega arith | false ↦ omega (arith, h) ]

place_of : (columns : List ResultColumn) (cells : Cells) (name : List ℕ) (place : Option ℕ)
    → position (is_named name) (fields_of_columns columns cells) ≡ place
    → IfSome place (λ p. p < length (fields_of_columns columns cells))
    → inner_place_named 0 (whole_row (fields_of_columns columns cells)) name ≡ place
place_of columns cells name None h k = rw h refl
place_of columns cells name (Some p) h k = rw h (grind (arith, k))

pub place_in_fields : (columns : List ResultColumn) (cells : Cells) (name : List ℕ) (place : ℕ)
    → position (column_is_named name) columns ≡ Some place
    → place < length (fields_in (whole_row (fields_of_columns columns cells)))
    → inner_place_named 0 (whole_row (fields_of_columns columns cells)) name ≡ Some place
place_in_fields columns cells name place h k =
    let f = first_of columns cells name in
    let n = count_of_pairs columns cells in
    place_of columns cells name (Some place) (grind (arith, common_steps, f, n, h, k)) (grind (arith, common_steps, k))

pub place_outside : (columns : List ResultColumn) (cells : Cells) (name : List ℕ) (place : ℕ)
    → position (column_is_named name) columns ≡ Some place
    → length (fields_in (whole_row (fields_of_columns columns cells))) ≤ place
    → inner_place_named 0 (whole_row (fields_of_columns columns cells)) name ≡ None
place_outside columns cells name place h k =
    let f = first_of columns cells name in
    let n = count_of_pairs columns cells in
    place_of columns cells name None (grind (arith, common_steps, f, n, h, k)) tt

pub no_place : (columns : List ResultColumn) (cells : Cells) (name : List ℕ)
    → position (column_is_named name) columns ≡ None
    → inner_place_named 0 (whole_row (fields_of_columns columns cells)) name ≡ None
no_place columns cells name h =
    let f = first_of columns cells name in
    let n = count_of_pairs columns cells in
    place_of columns cells name None (grind (arith, common_steps, f, n, h)) tt

-- The fields of a row are those that contracts see.
pub fields_seen : (columns : List ResultColumn) (cells : Cells)
    → fields_of_columns columns cells ≡ row_fields (map column_of columns) (map (λ cell. option_map (λ piece. piece.items) cell) cells)
fields_seen [] cells = refl
fields_seen (c ∷ cs) [] = refl
fields_seen (c ∷ cs) (x ∷ xs) = ap (λ fs. field_in_column c x ∷ fs) (fields_seen cs xs)

row_at : (rows : List (Vec (Option (Vec ℕ Global)) Global)) (i : ℕ) (row : Vec (Option (Vec ℕ Global)) Global)
    → slice_get rows i ≡ Some row → slice_get (map row_of rows) i ≡ Some (row_of row)
row_at [] i row h = cc
row_at (r ∷ rs) zero row h = grind (arith, h)
row_at (r ∷ rs) (suc i) row h = row_at rs i row h

-- The row at a place of a result.
pub row_seen : (columns cs : List ResultColumn) (rows : List (Vec (Option (Vec ℕ Global)) Global)) (i : ℕ)
    (row : Vec (Option (Vec ℕ Global)) Global) (xs : Cells)
    → cs ≡ columns → xs ≡ row.items → i < length rows → row ≡ get_or rows i row
    → Some (fields_of_columns cs xs) ≡ option_map (row_fields (map column_of columns)) (slice_get (map row_of rows) i)
row_seen columns cs rows i row xs are is within at =
    ap (λ l. Some (fields_of_columns l xs)) are ∙ ap (λ l. Some (fields_of_columns columns l)) is
    ∙ ap Some (fields_seen columns row.items)
    ∙ ap (option_map (row_fields (map column_of columns))) (sym (row_at rows i row (slice_get_read rows (length rows) i row refl within at)))
