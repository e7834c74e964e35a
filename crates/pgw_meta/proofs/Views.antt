-- The tree of a record is over those of its components.
use Rattle.std.proofs.Common.{◌≡◌, ℕ, suc, ◌+◌, ◌<◌, ◌≤◌, List, [], ◌∷◌, length, get_or, drop, Option, Some, None, refl, sym, ap, ◌∙◌}
use Rattle.std.proofs.lemmas.List.{drop_more, drop_all}
use mathlib.Core.Former.{Count}
use Rattle.pgw_meta.specs.Shape.{composite, shape_then, count_shapes}
use Rattle.pgw_meta.specs.Types.{shape, shapes, row_shapes, types_of}
use Rattle.std.specs.Option.{option_or}
use Rattle.pgw_meta.specs.Schema.{part_fault, width_fault, fault_at}
use Rattle.pgw_meta.proofs.Faults.{of_parts}
use Rattle.pgw_meta.specs.Walk.{type_fault, parts_fault}
use Rattle.pgw_meta.specs.declared.schema.SchemaError.{SchemaError}
use Rattle.pgw_meta.specs.declared.types.TypeList.{TypeList}
use Rattle.pgw_meta.specs.declared.types.PgType.{PgType, Record, Record', Row_of-PgType, end_of-PgType, more_of-PgType, items-the_row-PgType, items_hidden-the_row-PgType-0}

row_of : PgType → (n : Count) × Row_of-PgType n
row_of (Record' _ row) = (_, row)
row_of _ = (_, end_of-PgType)

row_is : (n : Count) (row : Row_of-PgType n) → row_shapes row ≡ shapes (items-the_row-PgType n row)
row_is n end_of-PgType = refl
row_is n (more_of-PgType t rest) = ap (shape_then (shape t)) (row_is _ rest)

pub shape_record : (l : TypeList) → shape (Record l) ≡ composite (shapes (types_of l))
unfolding row_of
shape_record l =
    let row = row_of (Record l) in
    ap composite (row_is row.0 row.1 ∙ ap shapes (items_hidden-the_row-PgType-0 (types_of l)))

pub count_of_shapes : (ts : List PgType) → count_shapes (shapes ts) ≡ length ts
count_of_shapes [] = refl
count_of_shapes (t ∷ ts) = ap suc (count_of_shapes ts)

pub record_width : (column n : ℕ) (l : TypeList) → n ≡ length (types_of l) → width_fault column n ≡ part_fault column (shape (Record l))
record_width column n l e = ap (width_fault column) (e ∙ sym (count_of_shapes (types_of l))) ∙ ap (part_fault column) (sym (shape_record l))

-- The first fault of the parts from one on: that of this part, or else of those behind it.
pub parts_more : (column d : ℕ) (ts : List PgType) (i : ℕ) (t : PgType) → i < length ts → t ≡ get_or ts i t → parts_fault column d (shapes (drop i ts)) ≡ option_or (type_fault column d (shape t)) (parts_fault column d (shapes (drop (i + 1) ts)))
parts_more column d ts i t lt is =
    ap (λ us. parts_fault column d (shapes us)) (drop_more ts i t lt)
    ∙ ap (λ (u : PgType). option_or (type_fault column d (shape u)) (parts_fault column d (shapes (drop (i + 1) ts)))) (sym is)

pub parts_done : (column d : ℕ) (ts : List PgType) (i : ℕ) → length ts ≤ i → parts_fault column d (shapes (drop i ts)) ≡ None
parts_done column d ts i le = ap (λ us. parts_fault column d (shapes us)) (drop_all i ts le)

-- The fault of one part is the first, where none came before.
pub parts_err : (column d : ℕ) (ts : List PgType) (i : ℕ) (t : PgType) (e : SchemaError) → i < length ts → t ≡ get_or ts i t → type_fault column d (shape t) ≡ Some e → parts_fault column d (shapes (drop i ts)) ≡ parts_fault column d (shapes ts) → Some e ≡ parts_fault column d (shapes ts)
parts_err column d ts i t e lt is h inv =
    sym (parts_more column d ts i t lt is ∙ ap (λ a. option_or a (parts_fault column d (shapes (drop (i + 1) ts)))) h) ∙ inv

-- Where a part has none, the first is that of the parts behind it.
pub parts_ok : (column d : ℕ) (ts : List PgType) (i : ℕ) (t : PgType) → i < length ts → t ≡ get_or ts i t → type_fault column d (shape t) ≡ None → parts_fault column d (shapes (drop i ts)) ≡ parts_fault column d (shapes ts) → parts_fault column d (shapes (drop (i + 1) ts)) ≡ parts_fault column d (shapes ts)
parts_ok column d ts i t lt is h inv =
    sym (parts_more column d ts i t lt is ∙ ap (λ a. option_or a (parts_fault column d (shapes (drop (i + 1) ts)))) h) ∙ inv

-- A record without a fault of its own has that of its components.
pub record_fault : (column d : ℕ) (t : PgType) (l : TypeList) (ts : List PgType) (r : Option SchemaError) → t ≡ Record l → ts ≡ types_of l → fault_at column (record { depth = d; tree = shape t }) ≡ None → r ≡ parts_fault column (d + 1) (shapes ts) → r ≡ type_fault column d (shape t)
record_fault column d t l ts r is same none e =
    let tree : shape t ≡ composite (shapes (types_of l)) = ap shape is ∙ shape_record l in
    of_parts column d (composite (shapes (types_of l))) r (parts_fault column (d + 1) (shapes (types_of l)))
    (ap (λ u. fault_at column (record { depth = d; tree = u })) (sym tree) ∙ none)
    (e ∙ ap (λ us. parts_fault column (d + 1) (shapes us)) same)
    ∙ ap (type_fault column d) (sym tree)
