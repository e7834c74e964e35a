-- What words ask for that have no fault, but for what is wrong with their columns together.
use Rattle.std.proofs.Common.{◌≡◌, ◌⊎◌, inl, inr, ℕ, ◌&&◌, List, [], ◌∷◌, ◌++◌, map, codes, Option, None, Some, Bool, true, false, refl, sym, ap, ◌∙◌, subst, rules, if◌then◌else◌}
use Rattle.std.proofs.lemmas.Bool.{and_parts}
use Rattle.std.proofs.lemmas.List.{append-nil, append_assoc, map-append}
use Rattle.std.proofs.lemmas.List.Elements.{filter_map-append}
use Rattle.std.proofs.lemmas.List.Folds.{list_all-append}
use Rattle.std.specs.List.{filter_map, list_all}
use Rattle.std.specs.Option.{is_some, option_map_or}
use Rattle.std.specs.Result.{result_err}
use Rattle.std.specs.Str.Parse.{digits_value}
use Rattle.pgw_meta.specs.NamedOids.{known_of}
use Rattle.pgw_meta.specs.Shape.{Shape}
use Rattle.pgw_meta.specs.declared.found_oids.Found.{Found}
use Rattle.pgw_tree.specs.Limits.{default_limits}
use Rattle.pgcopy.specs.declared.words.WordFault.TheVariants.{Repeated, BadOid}
use Rattle.pgcopy.specs.Numbers.{is_number}
use Rattle.pgcopy.specs.OidWords.{entry_key}
use Rattle.pgcopy.proofs.Entries.{none_twice, AreSpelled, entry_some, entries_are, spelled_kept, spelled_added, entry_at, types_give_none, AreOnce, once_added, once_at}
use Rattle.pgcopy.proofs.ReadingWords.{type_is_plain, type_is_no_option, option_is_no_type, rows_no_field, rows_no_oid, field_no_oid, and_false}
use Rattle.pgcopy.specs.Words.{type_of, behind, is_option, IsSet, PlanData, entry_of, number_of, digits_in, number_fault, oid_fault, option_fault, word_fault, number_in, limits_in}
use Rattle.pgcopy.proofs.FirstFaults.{split, nothing, no_some}
use Rattle.pgcopy.proofs.TypeNames.{named_unless_fault, no_fault_where_named}

-- the first element of a list
abbrev first_of : {A : Type 0} → List A → Option A
first_of [] = None
first_of (x ∷ xs) = Some x

digits_first : (front : List ℕ) (words : List (List ℕ)) → digits_in front words ≡ first_of (filter_map (behind front) words)
digits_first front [] = refl
digits_first front (word ∷ words) = by (behind front word) refl (digits_first front words)
  where
    by : (r : Option (List ℕ)) → behind front word ≡ r → digits_in front words ≡ first_of (filter_map (behind front) words) → digits_in front (word ∷ words) ≡ first_of (filter_map (behind front) (word ∷ words))
    by None is more = rw is more
    by (Some digits) is more = rw is refl

-- the words behind the command ask for this, but for what is wrong with their columns together
pub record AskFor (words : List (List ℕ)) (plan : PlanData) : Type 0 where
  pub options : List (List ℕ)
  pub types : List (List ℕ)
  pub is : words ≡ options ++ types
  pub known : list_all is_option options ≡ true
  pub rows : IsSet default_limits.rows_max (filter_map (behind (codes "rows=")) options) plan.limits.rows_max
  pub field : IsSet default_limits.field_max (filter_map (behind (codes "field=")) options) plan.limits.field_max
  pub entries : AreSpelled options plan.entries
  pub once : AreOnce plan.entries
  pub columns : map type_of types ≡ map Some plan.columns

none_of : {A : Type 0} → (xs : List A) → first_of xs ≡ None → xs ≡ []
none_of [] e = refl
none_of (x ∷ xs) e = cc

-- an option whose number is good sets it
set_by : (front : List ℕ) (most : ℕ) (options : List (List ℕ)) (word digits : List ℕ) → behind front word ≡ Some digits → number_fault front most options word ≡ None
    → IsSet most (filter_map (behind front) (options ++ word ∷ [])) (digits_value 10 digits)
set_by front most options word digits is good =
    let parts = number_parts (is_some (digits_in front options)) (rw is at good) in
    let none : filter_map (behind front) options ≡ [] = none_of (filter_map (behind front) options) (sym (digits_first front options) ∙ no_digits (digits_in front options) parts.1) in
    let there : filter_map (behind front) (options ++ word ∷ []) ≡ digits ∷ [] = filter_map-append (behind front) options (word ∷ []) ∙ rw (none, is) refl in
    subst (λ ds. IsSet most ds (digits_value 10 digits)) (sym there) (parts.0, refl)
  where
    number_parts : (again : Bool) → result_err (number_of most digits again) ≡ None → (is_number most digits ≡ true) × (again ≡ false)
    number_parts again e = search rules

    no_digits : (r : Option (List ℕ)) → is_some r ≡ false → r ≡ None
    no_digits None e = refl
    no_digits (Some ds) e = cc

set_kept : (front : List ℕ) (most limit : ℕ) (options : List (List ℕ)) (word : List ℕ) → behind front word ≡ None → IsSet most (filter_map (behind front) options) limit → IsSet most (filter_map (behind front) (options ++ word ∷ [])) limit
set_kept front most limit options word is h =
    let same : filter_map (behind front) (options ++ word ∷ []) ≡ filter_map (behind front) options = filter_map-append (behind front) options (word ∷ []) ∙ rw is (append-nil _) in
    subst (λ ds. IsSet most ds limit) (sym same) h

-- nothing is wrong with the number of an option that sets it
set_at : (front : List ℕ) (most limit : ℕ) (before : List (List ℕ)) (word digits : List ℕ) (after : List (List ℕ)) → behind front word ≡ Some digits
    → IsSet most (filter_map (behind front) (before ++ word ∷ after)) limit → number_fault front most before word ≡ None
set_at front most limit before word digits after is h =
    let there : filter_map (behind front) (before ++ word ∷ after) ≡ filter_map (behind front) before ++ digits ∷ filter_map (behind front) after = filter_map-append (behind front) before (word ∷ after) ∙ rw is refl in
    let alone = once (filter_map (behind front) before) (filter_map (behind front) after) (subst (λ ds. IsSet most ds limit) there h) in
    let none : digits_in front before ≡ None = digits_first front before ∙ ap first_of alone.0 in
    rw (is, none, alone.1) refl
  where
    once : (some more : List (List ℕ)) → IsSet most (some ++ digits ∷ more) limit → (some ≡ []) × (is_number most digits ≡ true)
    once [] [] s = (refl, s.0)
    once [] (again ∷ more) s = absurd s
    once (first ∷ []) more s = absurd s
    once (first ∷ again ∷ some) more s = absurd s

-- the limit that is set
set_is : (front : List ℕ) (most limit : ℕ) (words : List (List ℕ)) → IsSet most (filter_map (behind front) words) limit → number_in front most words ≡ limit
set_is front most limit words h = ap (λ r. option_map_or (digits_value 10) r most) (digits_first front words) ∙ by (filter_map (behind front) words) h
  where
    by : (ds : List (List ℕ)) → IsSet most ds limit → option_map_or (digits_value 10) (first_of ds) most ≡ limit
    by [] s = sym s
    by (digits ∷ []) s = sym s.1
    by (digits ∷ again ∷ more) s = absurd s

-- the columns are the types that the words name, and no option stands among these
pub types_are : (types : List (List ℕ)) (columns : List Shape) → map type_of types ≡ map Some columns → filter_map type_of types ≡ columns
types_are [] [] e = refl
types_are [] (t ∷ columns) e = cc
types_are (word ∷ types) [] e = cc
types_are (word ∷ types) (t ∷ columns) e =
    let first : type_of word ≡ Some t = cc in
    rw first (ap (λ ts. t ∷ ts) (types_are types columns (cc)))

types_plain : (front : List ℕ) (types : List (List ℕ)) (columns : List Shape) → ((word : List ℕ) (t : Shape) → type_of word ≡ Some t → behind front word ≡ None) → map type_of types ≡ map Some columns → filter_map (behind front) types ≡ []
types_plain front [] columns plain e = refl
types_plain front (word ∷ types) [] plain e = cc
types_plain front (word ∷ types) (t ∷ columns) plain e =
    let first : type_of word ≡ Some t = cc in
    rw (plain word t first) (types_plain front types columns plain (cc))

-- each of these words is a type
type_at : (types : List (List ℕ)) (columns : List Shape) (front : List (List ℕ)) (word : List ℕ) (back : List (List ℕ)) → map type_of types ≡ map Some columns → types ≡ front ++ word ∷ back → (t : Shape) × (type_of word ≡ Some t)
type_at [] columns front word back e is = absurd (nothing front word back is)
type_at (w ∷ types) [] front word back e is = cc
type_at (w ∷ types) (t ∷ columns) [] word back e is = (t, cc)
type_at (w ∷ types) (t ∷ columns) (x ∷ front) word back e is = type_at types columns front word back (cc) (cc)

no_type_yet : (options types : List (List ℕ)) (columns : List Shape) → map type_of types ≡ map Some columns → list_all is_option (options ++ types) ≡ true → types ≡ []
no_type_yet options [] columns e all = refl
no_type_yet options (word ∷ types) [] e all = cc
no_type_yet options (word ∷ types) (t ∷ columns) e all =
    let first : type_of word ≡ Some t = cc in
    let parts = and_parts (list_all is_option options) (list_all is_option (word ∷ types)) (sym (list_all-append is_option options (word ∷ types)) ∙ all) in
    let here = and_parts (is_option word) (list_all is_option types) parts.1 in
    let both : true ≡ false = sym here.0 ∙ type_is_no_option word t first in
    absurd (cc)

pub options_name_none : (options : List (List ℕ)) → list_all is_option options ≡ true → filter_map type_of options ≡ []
options_name_none [] h = refl
options_name_none (word ∷ options) h =
    let parts = and_parts (is_option word) (list_all is_option options) h in
    rw (option_is_no_type word parts.0) (options_name_none options parts.1)

-- a type more
with_type : (before : List (List ℕ)) (word : List ℕ) (t : Shape) (plan : PlanData) → AskFor before plan → type_of word ≡ Some t → AskFor (before ++ word ∷ []) (record plan { columns = plan.columns ++ t ∷ [] })
with_type before word t plan p is = record {
  options = p.options;
  types = p.types ++ word ∷ [];
  is = ap (λ ws. ws ++ word ∷ []) p.is ∙ append_assoc p.options p.types (word ∷ []);
  known = p.known;
  rows = p.rows;
  field = p.field;
  entries = p.entries;
  once = p.once;
  columns = map-append type_of p.types (word ∷ []) ∙ rw (p.columns, is) (sym (map-append Some plan.columns (t ∷ [])));
}

-- an option more, with which this is asked for
with_option_more : (before : List (List ℕ)) (word : List ℕ) (plan next : PlanData) (p : AskFor before plan) → p.types ≡ [] → is_option word ≡ true → next.columns ≡ plan.columns
    → IsSet default_limits.rows_max (filter_map (behind (codes "rows=")) (p.options ++ word ∷ [])) next.limits.rows_max
    → IsSet default_limits.field_max (filter_map (behind (codes "field=")) (p.options ++ word ∷ [])) next.limits.field_max
    → AreSpelled (p.options ++ word ∷ []) next.entries → AreOnce next.entries → AskFor (before ++ word ∷ []) next
with_option_more before word plan next p none option same rows field entries once = record {
  options = p.options ++ word ∷ [];
  types = [];
  is = ap (λ ws. ws ++ word ∷ []) (p.is ∙ ap (λ ts. p.options ++ ts) none ∙ append-nil p.options) ∙ sym (append-nil _);
  known = list_all-append is_option p.options (word ∷ []) ∙ rw (p.known, option) refl;
  rows = rows;
  field = field;
  entries = entries;
  once = once;
  columns = ap (map type_of) (sym none) ∙ p.columns ∙ ap (map Some) (sym same);
}

-- what is wrong with an option of an entry, and with one that spells none
oid_fault_at : (before : List (List ℕ)) (word : List ℕ) (entry : Found) → entry_of word ≡ Some entry → oid_fault before word ≡ (if is_some (known_of (filter_map entry_of before) (entry_key entry)) then Some Repeated else None)
oid_fault_at before word entry is = rw is refl

good_entry : (before : List (List ℕ)) (word : List ℕ) → oid_fault before word ≡ None → (entry : Found) × (entry_of word ≡ Some entry) × (known_of (filter_map entry_of before) (entry_key entry) ≡ None)
good_entry before word good = by (entry_of word) refl
  where
    new : {A : Type 0} (r : Option A) → (if is_some r then Some Repeated else None) ≡ None → r ≡ None
    new None e = refl
    new (Some x) e = absurd (no_some (sym e))

    by : (r : Option Found) → entry_of word ≡ r → (entry : Found) × (entry_of word ≡ Some entry) × (known_of (filter_map entry_of before) (entry_key entry) ≡ None)
    by None is = let e : Some BadOid ≡ None = rw is at good in absurd (no_some (sym e))
    by (Some entry) is = (entry, is, new (known_of (filter_map entry_of before) (entry_key entry)) (sym (oid_fault_at before word entry is) ∙ good))

with_oid : (before : List (List ℕ)) (word text : List ℕ) (plan : PlanData) (p : AskFor before plan) → p.types ≡ [] → is_option word ≡ true
    → behind (codes "rows=") word ≡ None → behind (codes "field=") word ≡ None → behind (codes "oid=") word ≡ Some text
    → oid_fault p.options word ≡ None → (next : PlanData) × AskFor (before ++ word ∷ []) next
with_oid before word text plan p none option no_rows no_field is good =
    let one = good_entry p.options word good in
    let new : known_of plan.entries (entry_key one.0) ≡ None = ap (λ es. known_of es (entry_key one.0)) (sym (entries_are p.options plan.entries p.entries)) ∙ one.2 in
    let next : PlanData = record plan { entries = plan.entries ++ one.0 ∷ [] } in (
      next,
      with_option_more before word plan next p none option refl
          (set_kept (codes "rows=") default_limits.rows_max plan.limits.rows_max p.options word no_rows p.rows)
          (set_kept (codes "field=") default_limits.field_max plan.limits.field_max p.options word no_field p.field)
          (spelled_added p.options word text plan.entries one.0 is (sym (entry_some word text is) ∙ one.1) p.entries)
          (once_added plan.entries one.0 p.once new),
    )

with_option : (before : List (List ℕ)) (word : List ℕ) (plan : PlanData) (p : AskFor before plan) → p.types ≡ [] → is_option word ≡ true → option_fault p.options word ≡ None → (next : PlanData) × AskFor (before ++ word ∷ []) next
with_option before word plan p none option good = by_rows (behind (codes "rows=") word) refl
  where
    by_oid : behind (codes "rows=") word ≡ None → behind (codes "field=") word ≡ None → (r : Option (List ℕ)) → behind (codes "oid=") word ≡ r → (next : PlanData) × AskFor (before ++ word ∷ []) next
    by_oid no_rows no_field None is = let no : false ≡ true = rw (no_rows, no_field, is) at option in absurd (cc)
    by_oid no_rows no_field (Some text) is = with_oid before word text plan p none option no_rows no_field is (rw (no_rows, no_field) at good)

    by_field : behind (codes "rows=") word ≡ None → (r : Option (List ℕ)) → behind (codes "field=") word ≡ r → (next : PlanData) × AskFor (before ++ word ∷ []) next
    by_field no_rows None is = by_oid no_rows is (behind (codes "oid=") word) refl
    by_field no_rows (Some digits) is =
        let next : PlanData = record plan { limits = record { rows_max = plan.limits.rows_max; field_max = digits_value 10 digits } } in
        let fine : number_fault (codes "field=") default_limits.field_max p.options word ≡ None = rw is (rw (no_rows, is) at good) in (
          next,
          with_option_more before word plan next p none option refl
              (set_kept (codes "rows=") default_limits.rows_max plan.limits.rows_max p.options word no_rows p.rows)
              (set_by (codes "field=") default_limits.field_max p.options word digits is fine)
              (spelled_kept p.options word plan.entries (field_no_oid word digits is) p.entries)
              p.once,
        )

    by_rows : (r : Option (List ℕ)) → behind (codes "rows=") word ≡ r → (next : PlanData) × AskFor (before ++ word ∷ []) next
    by_rows None is = by_field is (behind (codes "field=") word) refl
    by_rows (Some digits) is =
        let next : PlanData = record plan { limits = record { rows_max = digits_value 10 digits; field_max = plan.limits.field_max } } in
        let fine : number_fault (codes "rows=") default_limits.rows_max p.options word ≡ None = rw is (rw is at good) in (
          next,
          with_option_more before word plan next p none option refl
              (set_by (codes "rows=") default_limits.rows_max p.options word digits is fine)
              (set_kept (codes "field=") default_limits.field_max plan.limits.field_max p.options word (rows_no_field word digits is) p.field)
              (spelled_kept p.options word plan.entries (rows_no_oid word digits is) p.entries)
              p.once,
        )

with_word : (before : List (List ℕ)) (word : List ℕ) (plan : PlanData) → AskFor before plan → word_fault before word ≡ None → (next : PlanData) × AskFor (before ++ word ∷ []) next
with_word before word plan p good = by (list_all is_option before && is_option word) refl
  where
    of_type : (t : Shape) × (type_of word ≡ Some t) → (next : PlanData) × AskFor (before ++ word ∷ []) next
    of_type (t, is) = (record plan { columns = plan.columns ++ t ∷ [] }, with_type before word t plan p is)

    by : (b : Bool) → (list_all is_option before && is_option word) ≡ b → (next : PlanData) × AskFor (before ++ word ∷ []) next
    by true is =
        let all = and_parts (list_all is_option before) (is_option word) is in
        let none = no_type_yet p.options p.types plan.columns p.columns (sym (ap (list_all is_option) p.is) ∙ all.0) in
        let fine : option_fault before word ≡ None = rw is at good in
        with_option before word plan p none all.1 (ap (λ ws. option_fault ws word) (sym (p.is ∙ ap (λ ts. p.options ++ ts) none ∙ append-nil p.options)) ∙ fine)
    by false is = of_type (named_unless_fault word (rw is at good))

pub nothing_asked : AskFor [] (record { limits = default_limits; entries = []; columns = [] })
nothing_asked = record { options = []; types = []; is = refl; known = refl; rows = refl; field = refl; entries = refl; once = none_twice; columns = refl }

-- Words with which nothing is wrong ask for something.
pub asked : (before after : List (List ℕ)) (plan : PlanData) → AskFor before plan
    → ((front : List (List ℕ)) (word : List ℕ) (back : List (List ℕ)) → before ++ after ≡ front ++ word ∷ back → word_fault front word ≡ None)
    → (next : PlanData) × AskFor (before ++ after) next
asked before [] plan p good = (plan, subst (λ ws. AskFor ws plan) (sym (append-nil before)) p)
asked before (word ∷ after) plan p good =
    let one = with_word before word plan p (good before word after refl) in
    let same : (before ++ word ∷ []) ++ after ≡ before ++ word ∷ after = append_assoc before (word ∷ []) after in
    let all = asked (before ++ word ∷ []) after one.0 one.1 (λ front w back e. good front w back (sym same ∙ e)) in
    (all.0, subst (λ ws. AskFor ws all.0) same all.1)

-- nothing is wrong with a word of those that ask for something
pub fine_word : (words : List (List ℕ)) (plan : PlanData) → AskFor words plan → (front : List (List ℕ)) (word : List ℕ) (back : List (List ℕ)) → words ≡ front ++ word ∷ back → word_fault front word ≡ None
fine_word words plan p front word back e = by (split p.options p.types front word back (sym p.is ∙ e))
  where
    oid_fine : (more : List (List ℕ)) (text : List ℕ) → p.options ≡ front ++ word ∷ more → behind (codes "oid=") word ≡ Some text → oid_fault front word ≡ None
    oid_fine more text is some =
        let spelled = subst (λ ws. AreSpelled ws plan.entries) is p.entries in
        let one = entry_at front word more text plan.entries some spelled in
        let there : plan.entries ≡ filter_map entry_of front ++ one.0 ∷ filter_map entry_of more =
        sym (entries_are (front ++ word ∷ more) plan.entries spelled) ∙ filter_map-append entry_of front (word ∷ more) ∙ rw one.1 refl in
        let new = once_at (filter_map entry_of front) one.0 (filter_map entry_of more) (subst AreOnce there p.once) in
        oid_fault_at front word one.0 one.1 ∙ rw new refl

    option_fine : (more : List (List ℕ)) → p.options ≡ front ++ word ∷ more → is_option word ≡ true → option_fault front word ≡ None
    option_fine more is option = by_rows (behind (codes "rows=") word) refl
      where
        by_oid : behind (codes "rows=") word ≡ None → behind (codes "field=") word ≡ None → (r : Option (List ℕ)) → behind (codes "oid=") word ≡ r → option_fault front word ≡ None
        by_oid no_rows no_field None none = let no : false ≡ true = rw (no_rows, no_field, none) at option in absurd (cc)
        by_oid no_rows no_field (Some text) some = rw (no_rows, no_field) (oid_fine more text is some)

        by_field : behind (codes "rows=") word ≡ None → (r : Option (List ℕ)) → behind (codes "field=") word ≡ r → option_fault front word ≡ None
        by_field no_rows None none = by_oid no_rows none (behind (codes "oid=") word) refl
        by_field no_rows (Some digits) some = rw (no_rows, some) (rw some at (set_at (codes "field=") default_limits.field_max plan.limits.field_max front word digits more some (subst (λ ws. IsSet default_limits.field_max (filter_map (behind (codes "field=")) ws) plan.limits.field_max) is p.field)))

        by_rows : (r : Option (List ℕ)) → behind (codes "rows=") word ≡ r → option_fault front word ≡ None
        by_rows None none = by_field none (behind (codes "field=") word) refl
        by_rows (Some digits) some = rw some (rw some at (set_at (codes "rows=") default_limits.rows_max plan.limits.rows_max front word digits more some (subst (λ ws. IsSet default_limits.rows_max (filter_map (behind (codes "rows=")) ws) plan.limits.rows_max) is p.rows)))

    by : ((more : _) × (p.options ≡ front ++ word ∷ more) × (back ≡ more ++ p.types)) ⊎ ((more : _) × (front ≡ p.options ++ more) × (p.types ≡ more ++ word ∷ back)) → word_fault front word ≡ None
    by (inl s) =
        let all = and_parts (list_all is_option front) (list_all is_option (word ∷ s.0)) (sym (list_all-append is_option front (word ∷ s.0)) ∙ ap (list_all is_option) (sym s.1) ∙ p.known) in
        let here = (and_parts (is_option word) (list_all is_option s.0) all.1).0 in
        let both : (list_all is_option front && is_option word) ≡ true = rw (all.0, here) refl in
        rw both (option_fine s.0 s.1 here)
    by (inr s) =
        let named = type_at p.types plan.columns s.0 word back p.columns s.2 in
        let mixed : (list_all is_option front && is_option word) ≡ false = ap (λ b. list_all is_option front && b) (type_is_no_option word named.0 named.1) ∙ and_false (list_all is_option front) in
        rw mixed (no_fault_where_named word named.0 named.1)

-- What words ask for is what reading finds in them, options and types alike.
pub what_is : (words : List (List ℕ)) (plan : PlanData) → AskFor words plan → (limits_in words ≡ plan.limits) × (filter_map entry_of words ≡ plan.entries) × (filter_map type_of words ≡ plan.columns)
what_is words plan p = (
  (λ i. record { rows_max = limit_of (codes "rows=") default_limits.rows_max plan.limits.rows_max (λ w t e. (type_is_plain w t e).0) p.rows i; field_max = limit_of (codes "field=") default_limits.field_max plan.limits.field_max (λ w t e. (type_is_plain w t e).1) p.field i }),
  ap (filter_map entry_of) p.is ∙ filter_map-append entry_of p.options p.types ∙ rw (types_give_none p.types plan.columns p.columns) (append-nil _ ∙ entries_are p.options plan.entries p.entries),
  ap (filter_map type_of) p.is ∙ filter_map-append type_of p.options p.types ∙ rw (options_name_none p.options p.known) (types_are p.types plan.columns p.columns),
)
  where
    limit_of : (front : List ℕ) (most limit : ℕ) → ((word : List ℕ) (t : Shape) → type_of word ≡ Some t → behind front word ≡ None) → IsSet most (filter_map (behind front) p.options) limit → number_in front most words ≡ limit
    limit_of front most limit plain set =
        let same : filter_map (behind front) words ≡ filter_map (behind front) p.options =
        ap (filter_map (behind front)) p.is ∙ filter_map-append (behind front) p.options p.types ∙ ap (λ ds. filter_map (behind front) p.options ++ ds) (types_plain front p.types plan.columns plain p.columns) ∙ append-nil _ in
        set_is front most limit words (subst (λ ds. IsSet most ds limit) (sym same) set)
