-- The first fault of columns, from one column to the next.
use Rattle.std.proofs.Common.{◌≡◌, ℕ, ◌+◌, ◌<◌, ◌≤◌, Bool, false, nat_lt, List, length, get_or, drop, Some, None, refl, sym, ap, ◌∙◌, subst}
use Rattle.std.specs.Prelude.{◌==◌, if◌then◌else◌}
use Rattle.std.specs.Option.{option_or}
use Rattle.std.proofs.lemmas.Bool.{le-ltb}
use Rattle.std.proofs.lemmas.List.{drop_more, drop_all, length-map}
use Rattle.pgw_meta.specs.declared.schema.SchemaError.{SchemaError}
use Rattle.pgw_meta.specs.declared.schema.SchemaError.TheVariants.{NoColumns, TooManyColumns}
use Rattle.pgw_meta.specs.declared.types.PgType.{PgType}
use Rattle.pgw_meta.specs.Shape.{Shape}
use Rattle.pgw_meta.specs.Types.{shape, column_shapes}
use Rattle.pgw_meta.specs.Schema.{walk, first_fault, columns_fault, schema_fault}
use Rattle.pgw_meta.specs.Walk.{type_fault}
use Rattle.pgw_meta.proofs.Faults.{type_fault_is}

bounded : (cs : List Shape) → (length cs == 0) ≡ false → length cs ≤ 32767 → columns_fault 0 cs ≡ schema_fault cs
bounded cs some few =
    subst (λ (b : Bool). columns_fault 0 cs ≡ (if b then Some NoColumns else if nat_lt 32767 (length cs) then Some TooManyColumns else columns_fault 0 cs)) (sym some)
    (subst (λ (b : Bool). columns_fault 0 cs ≡ (if b then Some TooManyColumns else columns_fault 0 cs)) (sym (le-ltb 32767 (length cs) few)) refl)

-- Of 1 to 32767 columns the first fault is that of a column.
pub columns_bounded : (ts : List PgType) → (length ts == 0) ≡ false → length ts ≤ 32767 → columns_fault 0 (column_shapes ts) ≡ schema_fault (column_shapes ts)
columns_bounded ts some few =
    let same = sym (length-map ts shape) in
    bounded (column_shapes ts) (subst (λ (n : ℕ). (n == 0) ≡ false) same some) (subst (λ (n : ℕ). n ≤ 32767) same few)

-- The first fault of the columns from one on: that of this column, or else of those behind it.
columns_more : (ts : List PgType) (i : ℕ) (t : PgType) → i < length ts → t ≡ get_or ts i t → columns_fault i (column_shapes (drop i ts)) ≡ option_or (type_fault i 1 (shape t)) (columns_fault (i + 1) (column_shapes (drop (i + 1) ts)))
columns_more ts i t lt is =
    ap (λ us. columns_fault i (column_shapes us)) (drop_more ts i t lt)
    ∙ ap (λ (u : PgType). option_or (first_fault i (walk 1 (shape u))) (columns_fault (i + 1) (column_shapes (drop (i + 1) ts)))) (sym is)
    ∙ ap (λ a. option_or a (columns_fault (i + 1) (column_shapes (drop (i + 1) ts)))) (sym (type_fault_is i 1 (shape t)))

-- The fault of one column is the first, where none came before.
pub columns_err : (ts : List PgType) (i : ℕ) (t : PgType) (e : SchemaError) → i < length ts → t ≡ get_or ts i t → type_fault i 1 (shape t) ≡ Some e → columns_fault i (column_shapes (drop i ts)) ≡ columns_fault 0 (column_shapes ts) → Some e ≡ columns_fault 0 (column_shapes ts)
columns_err ts i t e lt is h inv =
    sym (columns_more ts i t lt is ∙ ap (λ a. option_or a (columns_fault (i + 1) (column_shapes (drop (i + 1) ts)))) h) ∙ inv

-- Where a column has none, the first is that of the columns behind it.
pub columns_ok : (ts : List PgType) (i : ℕ) (t : PgType) → i < length ts → t ≡ get_or ts i t → type_fault i 1 (shape t) ≡ None → columns_fault i (column_shapes (drop i ts)) ≡ columns_fault 0 (column_shapes ts) → columns_fault (i + 1) (column_shapes (drop (i + 1) ts)) ≡ columns_fault 0 (column_shapes ts)
columns_ok ts i t lt is h inv =
    sym (columns_more ts i t lt is ∙ ap (λ a. option_or a (columns_fault (i + 1) (column_shapes (drop (i + 1) ts)))) h) ∙ inv

pub columns_done : (ts : List PgType) (i : ℕ) → length ts ≤ i → columns_fault i (column_shapes (drop i ts)) ≡ None
columns_done ts i le = ap (λ us. columns_fault i (column_shapes us)) (drop_all i ts le)
