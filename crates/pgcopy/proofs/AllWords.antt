-- What is read of all words, with none of which anything is wrong by itself.
use Rattle.std.proofs.Common.{◌≡◌, ◌≢◌, ◌⊎◌, inl, inr, ◌+◌, ◌-◌, ◌<◌, ◌≤◌, ◌==◌, nat_lt, ℕ, List, [], ◌∷◌, length, codes, Option, None, Some, option_map, Ok, Err, IfErr, true, false, refl, sym, ap, subst, ◌∙◌, arith}
use Rattle.std.proofs.lemmas.Bool.{eqb-true, eqb-false, ltb-true, ltb-false}
use Rattle.std.specs.List.{filter_map}
use Rattle.std.specs.Option.{unwrap_or, option_map_or}
use Rattle.std.specs.Str.Parse.{digits_value}
use Rattle.pgw_meta.specs.Schema.{schema_fault, fault_number}
use Rattle.pgw_meta.specs.Shape.{Shape}
use Rattle.pgw_meta.specs.declared.found_oids.Found.{Found}
use Rattle.pgw_meta.specs.declared.schema.SchemaError.{SchemaError}
use Rattle.pgw_meta.specs.declared.schema.SchemaError.TheVariants.{NoMemory as no_memory_left}
use Rattle.pgw_tree.specs.Limits.{default_limits}
use Rattle.pgcopy.specs.declared.words.WordFault.{WordFault}
use Rattle.pgcopy.specs.declared.words.WordFault.TheVariants.{NoTypes, Schema}
use Rattle.pgcopy.specs.declared.words.WordError.{WordError}
use Rattle.pgcopy.specs.declared.words.WordError.TheVariants.{Fault, NoMemory}
use Rattle.pgcopy.specs.declared.words.WordsRead.{WordsRead}
use Rattle.pgcopy.specs.Words.{type_of, entry_of, digits_in, place_of, IsOfAColumn, placed, columns_fault, fault_of_all, first_fault, plan_of_texts}
use Rattle.pgcopy.specs.WordsRead.{AreRead, AreColumns}
use Rattle.pgcopy.proofs.ReadingWords.{types_few}
use Rattle.pgcopy.proofs.ColumnFaults.{of_column, columns_wrong, no_columns, too_many}

-- the place behind all words
behind_all : (rest : List (List ℕ)) → 1 + (length rest - length (filter_map type_of rest)) + length (filter_map type_of rest) ≡ length (codes "copy" ∷ rest)
behind_all rest = let few = types_few rest in omega (arith, few)

-- There is no type, or there are too many.
pub no_type_of_all : (rest : List (List ℕ)) (place types : ℕ) → place ≡ length (codes "copy" ∷ rest) → types ≡ length (filter_map type_of rest) → (types == 0) ≡ true → fault_of_all rest ≡ Some (placed place NoTypes)
no_type_of_all rest place types at count none =
    let zero = eqb-true types 0 none in
    let empty : length (filter_map type_of rest) ≡ 0 = sym count ∙ zero in
    let all = behind_all rest in
    let here : 1 + (length rest - length (filter_map type_of rest)) ≡ place = omega (arith, all, empty, at) in
    no_columns _ (filter_map type_of rest) empty ∙ ap (λ n. Some (placed n NoTypes)) here

pub too_many_of_all : (rest : List (List ℕ)) (place types : ℕ) → place ≡ length (codes "copy" ∷ rest) → types ≡ length (filter_map type_of rest) → nat_lt 32767 types ≡ true → fault_of_all rest ≡ Some (placed place (Schema 2))
too_many_of_all rest place types at count many =
    let over : 32767 < length (filter_map type_of rest) = subst (λ n. 32767 < n) count (ltb-true 32767 types many) in
    too_many _ (filter_map type_of rest) over ∙ ap (λ n. Some (placed n (Schema 2))) (behind_all rest ∙ sym at)

number_read : (f : List ℕ → ℕ) (r : Option (List ℕ)) (d : ℕ) → unwrap_or (option_map f r) d ≡ option_map_or f r d
number_read f None d = refl
number_read f (Some digits) d = refl

pub all_read : (rest : List (List ℕ)) (seen : WordsRead) → AreRead seen rest → first_fault (codes "copy" ∷ []) rest ≡ first_fault (codes "copy" ∷ rest) [] → (seen.types == 0) ≡ false → nat_lt 32767 seen.types ≡ false → AreColumns seen (codes "copy" ∷ rest)
all_read rest seen h same some few =
    let none = eqb-false seen.types 0 some in
    let count = h.types in
    let fewer = types_few rest in
    let first : 1 + (length rest - length (filter_map type_of rest)) ≡ length (codes "copy" ∷ rest) - seen.types = omega (arith, count, fewer) in
    record {
      rows = ap (λ r. unwrap_or r default_limits.rows_max) h.rows ∙ number_read (digits_value 10) (digits_in (codes "rows=") rest) default_limits.rows_max;
      field = ap (λ r. unwrap_or r default_limits.field_max) h.field ∙ number_read (digits_value 10) (digits_in (codes "field=") rest) default_limits.field_max;
      field_fits = h.field_fits;
      types = h.types;
      some = omega (arith, none);
      few = ltb-false 32767 seen.types few;
      fewer = omega (arith, count, fewer);
      fault = same ∙ ap (λ n. columns_fault n (filter_map type_of rest)) first;
    }

-- how many columns there are, and the place behind them
counted : (words : List (List ℕ)) (seen : WordsRead) → AreColumns seen words → (1 ≤ length (filter_map type_of words)) × (length (filter_map type_of words) ≤ 32767) × ((length words - seen.types) + length (filter_map type_of words) ≡ length words)
counted words seen a =
    let count = a.types in
    let some = a.some in
    let few = a.few in
    let fewer = a.fewer in
    (omega (arith, count, some), omega (arith, count, few), omega (arith, count, fewer))

-- Where the columns are those of a schema the words are a plan.
pub plan_read : (words : List (List ℕ)) (seen : WordsRead) (entries : List Found) (columns : List Shape) → AreColumns seen words → schema_fault (filter_map type_of words) ≡ None
    → entries ≡ filter_map entry_of words → columns ≡ filter_map type_of words
    → plan_of_texts words ≡ Ok (record { limits = record { rows_max = unwrap_or seen.rows default_limits.rows_max; field_max = unwrap_or seen.field default_limits.field_max }; entries = entries; columns = columns })
plan_read words seen entries columns a fine given are =
    rw none (λ i. Ok (record { limits = record { rows_max = sym a.rows i; field_max = sym a.field i }; entries = sym given i; columns = sym are i }))
  where
    fine_of : (first : ℕ) (ts : List Shape) → 1 ≤ length ts → schema_fault ts ≡ None → columns_fault first ts ≡ None
    fine_of first [] some e = absurd (omega (arith, some))
    fine_of first (t ∷ ts) some e = rw e refl

    none : first_fault [] words ≡ None
    none = a.fault ∙ fine_of (length words - seen.types) (filter_map type_of words) (counted words seen a).0 fine

-- Where they are not, the first fault is that of one of them.
pub column_wrong : (words : List (List ℕ)) (seen : WordsRead) (e : SchemaError) → AreColumns seen words → schema_fault (filter_map type_of words) ≡ Some e
    → plan_of_texts words ≡ Err (placed (place_of (length words - seen.types) (length words) e) (Schema (fault_number e)))
column_wrong words seen e a is =
    let count = counted words seen a in
    let found : first_fault [] words ≡ Some (placed (place_of (length words - seen.types) (length words) e) (Schema (fault_number e))) =
    a.fault ∙ columns_wrong (length words - seen.types) (filter_map type_of words) e count.0 is
    ∙ ap (λ n. Some (placed (place_of (length words - seen.types) n e) (Schema (fault_number e)))) count.2 in
    rw found refl

pub place_fits : (words : List (List ℕ)) (seen : WordsRead) (e : SchemaError) → AreColumns seen words → (e ≡ no_memory_left) ⊎ (schema_fault (filter_map type_of words) ≡ Some e) → place_of (length words - seen.types) (length words) e ≤ length words
place_fits words seen e a (inl memory) = let at : place_of (length words - seen.types) (length words) e ≡ length words = ap (place_of (length words - seen.types) (length words)) memory in omega (arith, at)
place_fits words seen e a (inr is) =
    let count = counted words seen a in
    let one = of_column (filter_map type_of words) e count.0 count.1 is in
    let at = one.2.place (length words - seen.types) (length words) in
    let few = one.1 in
    let behind = count.2 in
    omega (arith, at, few, behind)

-- the error of a column's fault, unless memory was missing
pub column_told : (words : List (List ℕ)) (seen : WordsRead) (e : SchemaError) (r : WordError) → AreColumns seen words → (e ≡ no_memory_left) ⊎ (schema_fault (filter_map type_of words) ≡ Some e)
    → (e ≡ no_memory_left → r ≡ NoMemory) → (e ≢ no_memory_left → r ≡ Fault (place_of (length words - seen.types) (length words) e) (Schema (fault_number e)))
    → (place : ℕ) (fault : WordFault) → r ≡ Fault place fault → plan_of_texts words ≡ Err (placed place fault)
column_told words seen e r a (inl memory) left wrong place fault is = let no : NoMemory ≡ Fault place fault = sym (left memory) ∙ is in absurd (cc)
column_told words seen e r a (inr found) left wrong place fault is =
    let count = counted words seen a in
    let one = of_column (filter_map type_of words) e count.0 count.1 found in
    let same : Fault (place_of (length words - seen.types) (length words) e) (Schema (fault_number e)) ≡ Fault place fault = sym (wrong one.2.no_memory) ∙ is in
    let place_is : place_of (length words - seen.types) (length words) e ≡ place = cc in
    let fault_is : Schema (fault_number e) ≡ fault = cc in
    column_wrong words seen e a found ∙ (λ i. Err (placed (place_is i) (fault_is i)))

-- Where memory is missing there is a plan, or a fault of a column.
pub without_memory : (words : List (List ℕ)) (seen : WordsRead) → AreColumns seen words → IfErr (plan_of_texts words) (λ wrong. IsOfAColumn wrong.fault)
without_memory words seen a = by (schema_fault (filter_map type_of words)) refl
  where
    by : (r : Option SchemaError) → schema_fault (filter_map type_of words) ≡ r → IfErr (plan_of_texts words) (λ wrong. IsOfAColumn wrong.fault)
    by None fine = rw (plan_read words seen (filter_map entry_of words) (filter_map type_of words) a fine refl refl) tt
    by (Some e) is =
        let count = counted words seen a in
        rw (column_wrong words seen e a is) (of_column (filter_map type_of words) e count.0 count.1 is).2.of_one
