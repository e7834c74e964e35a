-- What is wrong with the columns of words together, and where.
use Rattle.std.proofs.Common.{◌≡◌, ◌≢◌, ◌+◌, ◌<◌, ◌≤◌, ◌==◌, nat_lt, ℕ, List, [], ◌∷◌, length, Option, None, Some, Bool, true, false, refl, sym, subst, ◌∙◌, arith, if◌then◌else◌}
use Rattle.std.proofs.lemmas.Bool.{eqb-true, ne_eqb, ltb-true, lt-ltb}
use Rattle.std.proofs.lemmas.Option.{none-some}
use Rattle.pgw_meta.specs.Shape.{Shape, scalar, nullable, array, range, multirange, composite, named, count_shapes}
use Rattle.pgw_meta.specs.Schema.{Placed, walk, width_fault, part_fault, fault_at, first_fault, columns_fault as faults_of_columns, schema_fault, fault_number, IsValidSchema, is_nullable, is_array, without_null, has_ranges, may_be_named}
use Rattle.pgw_meta.specs.declared.schema.SchemaError.{SchemaError}
use Rattle.pgw_meta.specs.declared.schema.SchemaError.TheVariants.{TooManyColumns, NestedNullable, NestedArray, BadRange, EmptyRecord, WideRecord, BadNamed, TooDeep, NoMemory}
use Rattle.pgw_meta.proofs.Faults.{valid_without_fault, no_fault_where_valid}
use Rattle.pgcopy.specs.declared.words.WordFault.TheVariants.{NoTypes, Schema}
use Rattle.pgcopy.specs.Words.{place_of, IsOfAColumn, placed, columns_fault}

-- a fault of this column
pub record IsAt (column : ℕ) (e : SchemaError) : Type 0 where
  pub place : (first behind : ℕ) → place_of first behind e ≡ first + column
  pub of_one : IsOfAColumn (Schema (fault_number e))
  pub no_memory : e ≢ NoMemory

some_is : {A : Type 0} {x y : A} → Some x ≡ Some y → x ≡ y
some_is e = cc

-- what comes of a test
if_at : (column : ℕ) (b : Bool) (f e : SchemaError) → IsAt column f → (if b then Some f else None) ≡ Some e → IsAt column e
if_at column true f e at is = subst (IsAt column) (some_is is) at
if_at column false f e at is = absurd (none-some e is)

unless_at : (column : ℕ) (b : Bool) (f e : SchemaError) → IsAt column f → (if b then None else Some f) ≡ Some e → IsAt column e
unless_at column false f e at is = subst (IsAt column) (some_is is) at
unless_at column true f e at is = absurd (none-some e is)

null_at : (c : ℕ) → IsAt c (NestedNullable c)
null_at c = record { place = λ first behind. refl; of_one = λ e. absurd (omega (arith, e)); no_memory = λ e. absurd (cc) }

array_at : (c : ℕ) → IsAt c (NestedArray c)
array_at c = record { place = λ first behind. refl; of_one = λ e. absurd (omega (arith, e)); no_memory = λ e. absurd (cc) }

range_at : (c : ℕ) → IsAt c (BadRange c)
range_at c = record { place = λ first behind. refl; of_one = λ e. absurd (omega (arith, e)); no_memory = λ e. absurd (cc) }

empty_at : (c : ℕ) → IsAt c (EmptyRecord c)
empty_at c = record { place = λ first behind. refl; of_one = λ e. absurd (omega (arith, e)); no_memory = λ e. absurd (cc) }

wide_at : (c : ℕ) → IsAt c (WideRecord c)
wide_at c = record { place = λ first behind. refl; of_one = λ e. absurd (omega (arith, e)); no_memory = λ e. absurd (cc) }

named_at : (c : ℕ) → IsAt c (BadNamed c)
named_at c = record { place = λ first behind. refl; of_one = λ e. absurd (omega (arith, e)); no_memory = λ e. absurd (cc) }

deep_at : (c : ℕ) → IsAt c (TooDeep c)
deep_at c = record { place = λ first behind. refl; of_one = λ e. absurd (omega (arith, e)); no_memory = λ e. absurd (cc) }

width_at : (column n : ℕ) (e : SchemaError) → width_fault column n ≡ Some e → IsAt column e
width_at column n e is = by (n == 0) refl
  where
    by : (b : Bool) → (n == 0) ≡ b → IsAt column e
    by true zero = if_at column true (EmptyRecord column) e (empty_at column) (rw zero at is)
    by false some = if_at column (nat_lt 32767 n) (WideRecord column) e (wide_at column) (rw some at is)

part_at : (column : ℕ) (t : Shape) (e : SchemaError) → part_fault column t ≡ Some e → IsAt column e
part_at column (scalar s) e is = absurd (none-some e is)
part_at column (nullable t) e is = if_at column (is_nullable t) _ e (null_at column) is
part_at column (array t) e is = if_at column (is_array (without_null t)) _ e (array_at column) is
part_at column (range t) e is = unless_at column (has_ranges t) _ e (range_at column) is
part_at column (multirange t) e is = unless_at column (has_ranges t) _ e (range_at column) is
part_at column (composite ts) e is = width_at column (count_shapes ts) e is
part_at column (named k t) e is = unless_at column (may_be_named t) _ e (named_at column) is

own_at : (column : ℕ) (p : Placed) (e : SchemaError) → fault_at column p ≡ Some e → IsAt column e
own_at column p e is = by (nat_lt 32 p.depth) refl
  where
    by : (b : Bool) → nat_lt 32 p.depth ≡ b → IsAt column e
    by true deep = if_at column true (TooDeep column) e (deep_at column) (rw deep at is)
    by false shallow = part_at column p.tree e (rw shallow at is)

first_at : (column : ℕ) (ps : List Placed) (e : SchemaError) → first_fault column ps ≡ Some e → IsAt column e
first_at column [] e is = absurd (none-some e is)
first_at column (p ∷ ps) e is = by (fault_at column p) refl (first_at column ps e)
  where
    by : (r : Option SchemaError) → fault_at column p ≡ r → (first_fault column ps ≡ Some e → IsAt column e) → IsAt column e
    by None own more = more (rw own at is)
    by (Some f) own more = own_at column p e (own ∙ rw own at is)

-- It is a fault of one of so many columns, counted from this number.
abbrev IsAmong : ℕ → ℕ → SchemaError → Type 0
IsAmong from count e = (column : ℕ) × (column < count) × IsAt (from + column) e

among : (from : ℕ) (ts : List Shape) (e : SchemaError) → faults_of_columns from ts ≡ Some e → IsAmong from (length ts) e
among from [] e is = absurd (none-some e is)
among from (t ∷ ts) e is = by (first_fault from (walk 1 t)) refl (among (from + 1) ts e)
  where
    here : from ≡ from + 0
    here = omega arith

    later : IsAmong (from + 1) (length ts) e → IsAmong from (length (t ∷ ts)) e
    later (column, few, at) =
        let next : (from + 1) + column ≡ from + (column + 1) = omega arith in
        (column + 1, omega (arith, few), subst (λ c. IsAt c e) next at)

    by : (r : Option SchemaError) → first_fault from (walk 1 t) ≡ r → (faults_of_columns (from + 1) ts ≡ Some e → IsAmong (from + 1) (length ts) e) → IsAmong from (length (t ∷ ts)) e
    by None own more = later (more (rw own at is))
    by (Some f) own more = (0, omega arith, subst (λ c. IsAt c e) here (first_at from (walk 1 t) e (own ∙ rw own at is)))

-- A fault of 1 to 32767 columns is one of a column.
pub of_column : (ts : List Shape) (e : SchemaError) → 1 ≤ length ts → length ts ≤ 32767 → schema_fault ts ≡ Some e → (column : ℕ) × (column < length ts) × IsAt column e
of_column ts e some few is = by (length ts == 0) refl (nat_lt 32767 (length ts)) refl
  where
    from_none : IsAmong 0 (length ts) e → (column : ℕ) × (column < length ts) × IsAt column e
    from_none (column, below, at) =
        let same : 0 + column ≡ column = omega arith in
        (column, below, subst (λ c. IsAt c e) same at)

    by : (b : Bool) → (length ts == 0) ≡ b → (c : Bool) → nat_lt 32767 (length ts) ≡ c → (column : ℕ) × (column < length ts) × IsAt column e
    by true none c many = let no = eqb-true (length ts) 0 none in absurd (omega (arith, no, some))
    by false none true many = let no = ltb-true 32767 (length ts) many in absurd (omega (arith, no, few))
    by false none false many = from_none (among 0 ts e (rw (none, many) at is))

-- Nothing is wrong with columns that a stream may have, and with no others.
pub columns_fine : (first : ℕ) (columns : List Shape) → IsValidSchema columns → columns_fault first columns ≡ None
columns_fine first [] valid = absurd (omega (arith, valid.some))
columns_fine first (t ∷ ts) valid = rw (no_fault_where_valid (t ∷ ts) valid) refl

pub fine_columns : (first : ℕ) (columns : List Shape) → columns_fault first columns ≡ None → IsValidSchema columns
fine_columns first [] e = absurd (none-some _ (sym e))
fine_columns first (t ∷ ts) e = by (schema_fault (t ∷ ts)) refl
  where
    by : (r : Option SchemaError) → schema_fault (t ∷ ts) ≡ r → IsValidSchema (t ∷ ts)
    by None is = valid_without_fault (t ∷ ts) is
    by (Some f) is = absurd (none-some _ (sym (rw is at e)))

-- what is told of the fault of columns
pub columns_wrong : (first : ℕ) (columns : List Shape) (e : SchemaError) → 1 ≤ length columns → schema_fault columns ≡ Some e
    → columns_fault first columns ≡ Some (placed (place_of first (first + length columns) e) (Schema (fault_number e)))
columns_wrong first [] e some is = absurd (omega (arith, some))
columns_wrong first (t ∷ ts) e some is = rw is refl

pub no_columns : (first : ℕ) (columns : List Shape) → length columns ≡ 0 → columns_fault first columns ≡ Some (placed first NoTypes)
no_columns first [] e = refl
no_columns first (t ∷ ts) e = absurd (omega (arith, e))

pub too_many : (first : ℕ) (columns : List Shape) → 32767 < length columns → columns_fault first columns ≡ Some (placed (first + length columns) (Schema 2))
too_many first [] many = absurd (omega (arith, many))
too_many first (t ∷ ts) many =
    let fault : schema_fault (t ∷ ts) ≡ Some TooManyColumns = rw (ne_eqb (length (t ∷ ts)) 0 (λ e. absurd (omega (arith, e, many))), lt-ltb 32767 (length (t ∷ ts)) many) refl in
    rw fault refl
