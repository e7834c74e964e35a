-- Columns are valid exactly where their walk meets no fault.
use Rattle.std.proofs.Common.{◌≡◌, ℕ, ◌+◌, ◌≤◌, Bool, true, false, nat_lt, List, [], ◌∷◌, ◌++◌, length, Option, Some, None, refl, sym, ap, ◌∙◌, subst, arith}
use Rattle.std.specs.Prelude.{◌==◌, if◌then◌else◌}
use Rattle.std.specs.Option.{option_or}
use Rattle.std.specs.List.{AllByRecursion}
use Rattle.std.proofs.lemmas.Bool.{ltb-false, le-ltb, eqb-false, ne_eqb}
use Rattle.std.proofs.lemmas.Option.{none-some}
use Rattle.pgw_meta.specs.declared.schema.SchemaError.{SchemaError}
use Rattle.pgw_meta.specs.declared.schema.SchemaError.TheVariants.{NoColumns, TooManyColumns, NestedNullable, NestedArray, BadRange, EmptyRecord, WideRecord, BadNamed, TooDeep}
use Rattle.pgw_meta.specs.Shape.{Shape, scalar, nullable, array, range, multirange, composite, named, Shapes, no_shapes, shape_then, count_shapes}
use Rattle.pgw_meta.specs.Schema.{is_nullable, is_array, without_null, has_ranges, may_be_named, depth_of, greatest_depth, IsWellFormed, AreWellFormed, IsValidColumn, IsValidSchema, Placed, walk, walk_parts, part_fault, fault_at, first_fault, columns_fault, schema_fault}
use Rattle.pgw_meta.specs.Walk.{type_fault, parts_fault}

-- Options in a row, of which the first `Some` counts.
or_assoc : {A : Type 0} (a b c : Option A) → option_or (option_or a b) c ≡ option_or a (option_or b c)
or_assoc None b c = refl
or_assoc (Some x) b c = refl

or_none : {A : Type 0} (a b : Option A) → option_or a b ≡ None → (a ≡ None) × (b ≡ None)
or_none None b e = (refl, e)
or_none (Some x) b e = absurd (none-some x (sym e))

or_nothing : {A : Type 0} (a : Option A) → a ≡ option_or a None
or_nothing None = refl
or_nothing (Some x) = refl

none_or : {A : Type 0} (a b : Option A) → a ≡ None → b ≡ None → option_or a b ≡ None
none_or a b e f = ap (λ x. option_or x b) e ∙ f

-- A test that is a fault where it is true, and one that is a fault where it is false.
passed : {A : Type 0} (b : Bool) (x : A) (o : Option A) → (if b then Some x else o) ≡ None → (b ≡ false) × (o ≡ None)
passed true x o e = absurd (none-some x (sym e))
passed false x o e = (refl, e)

met : {A : Type 0} (b : Bool) (x : A) → (if b then None else Some x) ≡ None → b ≡ true
met true x e = refl
met false x e = absurd (none-some x (sym e))

passes : {A : Type 0} (b : Bool) (x : A) (o : Option A) → b ≡ false → o ≡ None → (if b then Some x else o) ≡ None
passes b x o e f = subst (λ (c : Bool). (if c then Some x else o) ≡ None) (sym e) f

meets : {A : Type 0} (b : Bool) (x : A) → b ≡ true → (if b then None else Some x) ≡ None
meets b x e = subst (λ (c : Bool). (if c then None else Some x) ≡ None) (sym e) refl

-- From part to part the first fault is that of the walk.
first_fault-append : (column : ℕ) (ps qs : List Placed) → first_fault column (ps ++ qs) ≡ option_or (first_fault column ps) (first_fault column qs)
first_fault-append column [] qs = refl
first_fault-append column (p ∷ ps) qs =
    ap (option_or (fault_at column p)) (first_fault-append column ps qs)
    ∙ sym (or_assoc (fault_at column p) (first_fault column ps) (first_fault column qs))

behind : (column d : ℕ) (t : Shape) (a b : Option SchemaError) → a ≡ b → option_or (fault_at column (record { depth = d; tree = t })) a ≡ option_or (fault_at column (record { depth = d; tree = t })) b
behind column d t a b e = ap (option_or (fault_at column (record { depth = d; tree = t }))) e

mutual
  pub type_fault_is : (column d : ℕ) (t : Shape) → type_fault column d t ≡ first_fault column (walk d t)
  type_fault_is column d (scalar s) = or_nothing (fault_at column (record { depth = d; tree = scalar s }))
  type_fault_is column d (nullable t) = behind column d (nullable t) _ _ (type_fault_is column (d + 1) t)
  type_fault_is column d (array t) = behind column d (array t) _ _ (type_fault_is column (d + 1) t)
  type_fault_is column d (range t) = behind column d (range t) _ _ (type_fault_is column (d + 1) t)
  type_fault_is column d (multirange t) = behind column d (multirange t) _ _ (type_fault_is column (d + 1) t)
  type_fault_is column d (composite ts) = behind column d (composite ts) _ _ (parts_fault_is column (d + 1) ts)
  type_fault_is column d (named k t) = behind column d (named k t) _ _ (type_fault_is column (d + 1) t)

  parts_fault_is : (column d : ℕ) (ts : Shapes) → parts_fault column d ts ≡ first_fault column (walk_parts d ts)
  parts_fault_is column d no_shapes = refl
  parts_fault_is column d (shape_then t ts) =
      ap (λ a. option_or a (parts_fault column d ts)) (type_fault_is column d t)
      ∙ ap (option_or (first_fault column (walk d t))) (parts_fault_is column d ts)
      ∙ sym (first_fault-append column (walk d t) (walk_parts d ts))

-- The fault of a type by itself is its first, and where there is none, the first is that of its parts.
pub own_first : (column d : ℕ) (t : Shape) (e : SchemaError) → fault_at column (record { depth = d; tree = t }) ≡ Some e → type_fault column d t ≡ Some e
own_first column d (scalar s) e h = h
own_first column d (nullable t) e h = ap (λ a. option_or a (type_fault column (d + 1) t)) h
own_first column d (array t) e h = ap (λ a. option_or a (type_fault column (d + 1) t)) h
own_first column d (range t) e h = ap (λ a. option_or a (type_fault column (d + 1) t)) h
own_first column d (multirange t) e h = ap (λ a. option_or a (type_fault column (d + 1) t)) h
own_first column d (composite ts) e h = ap (λ a. option_or a (parts_fault column (d + 1) ts)) h
own_first column d (named k t) e h = ap (λ a. option_or a (type_fault column (d + 1) t)) h

pub of_parts : (column d : ℕ) (t : Shape) (r of : Option SchemaError) → fault_at column (record { depth = d; tree = t }) ≡ None → r ≡ of → r ≡ option_or (fault_at column (record { depth = d; tree = t })) of
of_parts column d t r of h e = e ∙ ap (λ a. option_or a of) (sym h)

-- A type by itself has no fault: it stands at depth 32 at most, and its parts have none.
own_free : (column d : ℕ) (t : Shape) (of_parts : Option SchemaError) → option_or (fault_at column (record { depth = d; tree = t })) of_parts ≡ None → (d ≤ 32) × (part_fault column t ≡ None) × (of_parts ≡ None)
own_free column d t of_parts e =
    let both = or_none _ _ e in
    let own = passed (nat_lt 32 d) (TooDeep column) (part_fault column t) both.0 in
    (ltb-false 32 d own.0, own.1, both.1)

own_frees : (column d : ℕ) (t : Shape) (of_parts : Option SchemaError) → d ≤ 32 → part_fault column t ≡ None → of_parts ≡ None → option_or (fault_at column (record { depth = d; tree = t })) of_parts ≡ None
own_frees column d t of_parts le e f = none_or _ _ (passes (nat_lt 32 d) (TooDeep column) (part_fault column t) (le-ltb 32 d le) e) f

pub not_deep : (column d : ℕ) (t : Shape) → d ≤ 32 → part_fault column t ≡ fault_at column (record { depth = d; tree = t })
not_deep column d t le = subst (λ (b : Bool). part_fault column t ≡ (if b then Some (TooDeep column) else part_fault column t)) (sym (le-ltb 32 d le)) refl

record_free : (column : ℕ) (ts : Shapes) → part_fault column (composite ts) ≡ None → (1 ≤ count_shapes ts) × (count_shapes ts ≤ 32767)
record_free column ts e =
    let some = passed (count_shapes ts == 0) (EmptyRecord column) _ e in
    let few = passed (nat_lt 32767 (count_shapes ts)) (WideRecord column) None some.1 in
    (omega (arith, eqb-false (count_shapes ts) 0 some.0), ltb-false 32767 (count_shapes ts) few.0)

record_frees : (column : ℕ) (ts : Shapes) → 1 ≤ count_shapes ts → count_shapes ts ≤ 32767 → part_fault column (composite ts) ≡ None
record_frees column ts some few =
    passes (count_shapes ts == 0) (EmptyRecord column) _ (ne_eqb (count_shapes ts) 0 (λ e. omega (arith, e, some)))
    (passes (nat_lt 32767 (count_shapes ts)) (WideRecord column) None (le-ltb 32767 (count_shapes ts) few) refl)

mutual
  formed : (column d : ℕ) (t : Shape) → type_fault column d t ≡ None → (d + depth_of t ≤ 33) × IsWellFormed t
  formed column d (scalar s) e =
      let own = own_free column d (scalar s) None (sym (or_nothing (fault_at column (record { depth = d; tree = scalar s }))) ∙ e) in
      (omega (arith, own.0), tt)
  formed column d (nullable t) e =
      let own = own_free column d (nullable t) (type_fault column (d + 1) t) e in
      let part = formed column (d + 1) t own.2 in
      (omega (arith, part.0), ((passed (is_nullable t) (NestedNullable column) None own.1).0, part.1))
  formed column d (array t) e =
      let own = own_free column d (array t) (type_fault column (d + 1) t) e in
      let part = formed column (d + 1) t own.2 in
      (omega (arith, part.0), ((passed (is_array (without_null t)) (NestedArray column) None own.1).0, part.1))
  formed column d (range t) e =
      let own = own_free column d (range t) (type_fault column (d + 1) t) e in
      let part = formed column (d + 1) t own.2 in
      (omega (arith, part.0), (met (has_ranges t) (BadRange column) own.1, part.1))
  formed column d (multirange t) e =
      let own = own_free column d (multirange t) (type_fault column (d + 1) t) e in
      let part = formed column (d + 1) t own.2 in
      (omega (arith, part.0), (met (has_ranges t) (BadRange column) own.1, part.1))
  formed column d (composite ts) e =
      let own = own_free column d (composite ts) (parts_fault column (d + 1) ts) e in
      let each = formed_parts column (d + 1) ts (omega (arith, own.0)) own.2 in
      let many = record_free column ts own.1 in
      (omega (arith, each.0), (many.0, many.1, each.1))
  formed column d (named k t) e =
      let own = own_free column d (named k t) (type_fault column (d + 1) t) e in
      let part = formed column (d + 1) t own.2 in
      (omega (arith, part.0), (met (may_be_named t) (BadNamed column) own.1, part.1))

  formed_parts : (column d : ℕ) (ts : Shapes) → d ≤ 33 → parts_fault column d ts ≡ None → (d + greatest_depth ts ≤ 33) × AreWellFormed ts
  formed_parts column d no_shapes le e = (omega (arith, le), tt)
  formed_parts column d (shape_then t ts) le e =
      let both = or_none _ _ e in
      let one = formed column d t both.0 in
      let rest = formed_parts column d ts le both.1 in
      (omega (arith, one.0, rest.0), (one.1, rest.1))

mutual
  free : (column d : ℕ) (t : Shape) → d + depth_of t ≤ 33 → IsWellFormed t → type_fault column d t ≡ None
  free column d (scalar s) le w = or_nothing (fault_at column (record { depth = d; tree = scalar s })) ∙ own_frees column d (scalar s) None (omega (arith, le)) refl refl
  free column d (nullable t) le w =
      own_frees column d (nullable t) _ (omega (arith, le)) (passes (is_nullable t) (NestedNullable column) None w.0 refl) (free column (d + 1) t (omega (arith, le)) w.1)
  free column d (array t) le w =
      own_frees column d (array t) _ (omega (arith, le)) (passes (is_array (without_null t)) (NestedArray column) None w.0 refl) (free column (d + 1) t (omega (arith, le)) w.1)
  free column d (range t) le w =
      own_frees column d (range t) _ (omega (arith, le)) (meets (has_ranges t) (BadRange column) w.0) (free column (d + 1) t (omega (arith, le)) w.1)
  free column d (multirange t) le w =
      own_frees column d (multirange t) _ (omega (arith, le)) (meets (has_ranges t) (BadRange column) w.0) (free column (d + 1) t (omega (arith, le)) w.1)
  free column d (composite ts) le w =
      own_frees column d (composite ts) _ (omega (arith, le)) (record_frees column ts w.0 w.1) (free_parts column (d + 1) ts (omega (arith, le)) w.2)
  free column d (named k t) le w =
      own_frees column d (named k t) _ (omega (arith, le)) (meets (may_be_named t) (BadNamed column) w.0) (free column (d + 1) t (omega (arith, le)) w.1)

  free_parts : (column d : ℕ) (ts : Shapes) → d + greatest_depth ts ≤ 33 → AreWellFormed ts → parts_fault column d ts ≡ None
  free_parts column d no_shapes le w = refl
  free_parts column d (shape_then t ts) le w =
      none_or _ _ (free column d t (omega (arith, le)) w.0) (free_parts column d ts (omega (arith, le)) w.1)

columns_formed : (column : ℕ) (ts : List Shape) → columns_fault column ts ≡ None → AllByRecursion IsValidColumn ts
columns_formed column [] e = tt
columns_formed column (t ∷ ts) e =
    let both = or_none _ _ e in
    let one = formed column 1 t (type_fault_is column 1 t ∙ both.0) in
    (record { shallow = omega (arith, one.0); formed = one.1 }, columns_formed (column + 1) ts both.1)

columns_free : (column : ℕ) (ts : List Shape) → AllByRecursion IsValidColumn ts → columns_fault column ts ≡ None
columns_free column [] w = refl
columns_free column (t ∷ ts) w =
    none_or _ _ (sym (type_fault_is column 1 t) ∙ free column 1 t (let s = w.0.shallow in omega (arith, s)) w.0.formed) (columns_free (column + 1) ts w.1)

pub valid_without_fault : (columns : List Shape) → schema_fault columns ≡ None → IsValidSchema columns
valid_without_fault columns e =
    let some = passed (length columns == 0) NoColumns _ e in
    let few = passed (nat_lt 32767 (length columns)) TooManyColumns (columns_fault 0 columns) some.1 in
    record {
      some = omega (arith, eqb-false (length columns) 0 some.0);
      few = ltb-false 32767 (length columns) few.0;
      each = columns_formed 0 columns few.1;
    }

pub no_fault_where_valid : (columns : List Shape) → IsValidSchema columns → schema_fault columns ≡ None
no_fault_where_valid columns v =
    passes (length columns == 0) NoColumns _ (ne_eqb (length columns) 0 (λ e. let s = v.some in omega (arith, e, s)))
    (passes (nat_lt 32767 (length columns)) TooManyColumns (columns_fault 0 columns) (le-ltb 32767 (length columns) v.few) (columns_free 0 columns v.each))
