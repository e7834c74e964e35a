-- What is kept of the words that were read, with one word more.
use Rattle.std.proofs.Common.{◌≡◌, ℕ, ◌+◌, ◌≤◌, ◌==◌, ◌&&◌, List, [], ◌∷◌, ◌++◌, length, codes, Option, None, Some, option_map, Ok, Bool, true, false, refl, sym, ap, ◌∙◌, arith, rules, if◌then◌else◌}
use Rattle.std.proofs.lemmas.Bool.{ne_eqb}
use Rattle.std.proofs.lemmas.List.{append-nil, length-append}
use Rattle.std.proofs.lemmas.List.Elements.{filter_map-append}
use Rattle.std.proofs.lemmas.List.Folds.{list_all-append}
use Rattle.std.specs.List.{filter_map, list_all}
use Rattle.std.specs.Option.{is_some, option_or}
use Rattle.std.specs.Result.{result_err}
use Rattle.std.specs.Str.Parse.{digits_value}
use Rattle.pgw_meta.specs.NamedOids.{known_of}
use Rattle.pgw_meta.specs.Shape.{Shape}
use Rattle.pgw_meta.specs.declared.found_oids.Found.{Found}
use Rattle.pgcopy.specs.OidWords.{entry_key}
use Rattle.pgw_notation.specs.declared.fault.TypeFault.TheVariants.{Syntax}
use Rattle.pgcopy.specs.declared.words.WordsRead.{WordsRead}
use Rattle.pgcopy.specs.Words.{type_of, type_fault_of, behind, is_option, entry_of, number_of, digits_in, number_fault, oid_fault, option_fault, word_fault}
use Rattle.pgcopy.specs.WordsRead.{AreRead}
use Rattle.pgcopy.proofs.Options.{behind_is}
use Rattle.pgcopy.proofs.TypeNames.{unread, no_fault_where_named}

digits_kept : (front word : List ℕ) (before : List (List ℕ)) → behind front word ≡ None → digits_in front (before ++ word ∷ []) ≡ digits_in front before
digits_kept front word [] e = rw e refl
digits_kept front word (w ∷ before) e = ap (option_or (behind front w)) (digits_kept front word before e)

digits_added : (front word digits : List ℕ) (before : List (List ℕ)) → behind front word ≡ Some digits → digits_in front before ≡ None → digits_in front (before ++ word ∷ []) ≡ Some digits
digits_added front word digits [] e none = rw e refl
digits_added front word digits (w ∷ before) e none = by (behind front w) refl (digits_added front word digits before e)
  where
    no : (x : List ℕ) → Some x ≡ None → ⊥
    no x k = cc

    by : (r : Option (List ℕ)) → behind front w ≡ r → (digits_in front before ≡ None → digits_in front (before ++ word ∷ []) ≡ Some digits) → digits_in front ((w ∷ before) ++ word ∷ []) ≡ Some digits
    by None is more = let k : digits_in front before ≡ None = (rw is at none) in rw is (more k)
    by (Some x) is more = let k : Some x ≡ None = (rw is at none) in absurd (no x k)

types_kept : (word : List ℕ) (before : List (List ℕ)) → type_of word ≡ None → length (filter_map type_of (before ++ word ∷ [])) ≡ length (filter_map type_of before)
types_kept word before e = ap length (filter_map-append type_of before (word ∷ []) ∙ ap (λ ts. filter_map type_of before ++ ts) (none_of e) ∙ append-nil _)
  where
    none_of : type_of word ≡ None → filter_map type_of (word ∷ []) ≡ []
    none_of e = rw e refl

types_added : (word : List ℕ) (t : Shape) (before : List (List ℕ)) → type_of word ≡ Some t → length (filter_map type_of (before ++ word ∷ [])) ≡ length (filter_map type_of before) + 1
types_added word t before e = ap length (filter_map-append type_of before (word ∷ []) ∙ ap (λ ts. filter_map type_of before ++ ts) (one_of e)) ∙ length-append (filter_map type_of before) (t ∷ [])
  where
    one_of : type_of word ≡ Some t → filter_map type_of (word ∷ []) ≡ t ∷ []
    one_of e = rw e refl

-- there are no more types than words
pub types_few : (words : List (List ℕ)) → length (filter_map type_of words) ≤ length words
types_few [] = omega arith
types_few (w ∷ words) = by (type_of w) refl (types_few words)
  where
    by : (t : Option Shape) → type_of w ≡ t → length (filter_map type_of words) ≤ length words → length (filter_map type_of (w ∷ words)) ≤ length (w ∷ words)
    by None is more = rw is (omega (arith, more))
    by (Some t) is more = rw is (omega (arith, more))

and_true : (b : Bool) → (b && true) ≡ b
and_true true = refl
and_true false = refl

all_added : (word : List ℕ) (before : List (List ℕ)) → list_all is_option (before ++ word ∷ []) ≡ (list_all is_option before && is_option word)
all_added word before = list_all-append is_option before (word ∷ []) ∙ ap (λ b. list_all is_option before && b) (and_true (is_option word))

-- the number that an option gave
number_given : (most n : ℕ) (digits : List ℕ) (again : Bool) → Ok n ≡ number_of most digits again → (again ≡ false) × (n ≡ digits_value 10 digits) × (n ≤ most)
number_given most n digits again h = search rules

pub rows_no_oid : (word rest : List ℕ) → behind (codes "rows=") word ≡ Some rest → behind (codes "oid=") word ≡ None
rows_no_oid word rest is = ap (behind (codes "oid=")) (behind_is (codes "rows=") word rest is) ∙ none rest
  where
    none : (rest : List ℕ) → behind (codes "oid=") (codes "rows=" ++ rest) ≡ None
    none rest = refl

pub field_no_oid : (word rest : List ℕ) → behind (codes "field=") word ≡ Some rest → behind (codes "oid=") word ≡ None
field_no_oid word rest is = ap (behind (codes "oid=")) (behind_is (codes "field=") word rest is) ∙ none rest
  where
    none : (rest : List ℕ) → behind (codes "oid=") (codes "field=" ++ rest) ≡ None
    none rest = refl

rows_is_no_field : (rest : List ℕ) → behind (codes "field=") (codes "rows=" ++ rest) ≡ None
rows_is_no_field rest = refl

pub rows_no_field : (word rest : List ℕ) → behind (codes "rows=") word ≡ Some rest → behind (codes "field=") word ≡ None
rows_no_field word rest is = ap (behind (codes "field=")) (behind_is (codes "rows=") word rest is) ∙ rows_is_no_field rest

field_is_no_rows : (rest : List ℕ) → behind (codes "rows=") (codes "field=" ++ rest) ≡ None
field_is_no_rows rest = refl

-- no option is a type
no_types : (rest : List ℕ) → (type_of (codes "rows=" ++ rest) ≡ None) × (type_of (codes "field=" ++ rest) ≡ None) × (type_of (codes "oid=" ++ rest) ≡ None)
no_types rest = (
  unread (codes "rows=" ++ rest) (Syntax 0) refl,
  unread (codes "field=" ++ rest) (Syntax 0) refl,
  unread (codes "oid=" ++ rest) (Syntax 3) refl,
)

-- a type is no option
pub type_is_plain : (word : List ℕ) (t : Shape) → type_of word ≡ Some t → (behind (codes "rows=") word ≡ None) × (behind (codes "field=") word ≡ None) × (behind (codes "oid=") word ≡ None)
type_is_plain word t e = (
  by (codes "rows=") (λ rest. (no_types rest).0) (behind (codes "rows=") word) refl,
  by (codes "field=") (λ rest. (no_types rest).1) (behind (codes "field=") word) refl,
  by (codes "oid=") (λ rest. (no_types rest).2) (behind (codes "oid=") word) refl,
)
  where
    no : None ≡ Some t → ⊥
    no h = cc

    by : (front : List ℕ) → ((rest : List ℕ) → type_of (front ++ rest) ≡ None) → (r : Option (List ℕ)) → behind front word ≡ r → r ≡ None
    by front none None is = refl
    by front none (Some rest) is = absurd (no (sym (none rest) ∙ sym (ap type_of (behind_is front word rest is)) ∙ e))

pub type_is_no_option : (word : List ℕ) (t : Shape) → type_of word ≡ Some t → is_option word ≡ false
type_is_no_option word t is = let plain = type_is_plain word t is in rw (plain.0, plain.1, plain.2) refl

-- an option is no type
pub option_is_no_type : (word : List ℕ) → is_option word ≡ true → type_of word ≡ None
option_is_no_type word h = by (type_of word) refl
  where
    by : (r : Option Shape) → type_of word ≡ r → r ≡ None
    by None is = refl
    by (Some t) is = let both : true ≡ false = sym h ∙ type_is_no_option word t is in absurd (cc)

none_if : {A : Type 0} → (r : Option A) → is_some r ≡ false → r ≡ None
none_if None h = refl
none_if (Some x) h = cc

is_some_map : {A B : Type 0} → (f : A → B) (r : Option A) → is_some (option_map f r) ≡ is_some r
is_some_map f None = refl
is_some_map f (Some x) = refl

-- what reading the option `front` gives, where the words before it held this number of it
record IsTaken (front : List ℕ) (most n : ℕ) (word : List ℕ) (before : List (List ℕ)) : Type 0 where
  fits : n ≤ most
  good : number_fault front most before word ≡ None
  given : Some n ≡ option_map (digits_value 10) (digits_in front (before ++ word ∷ []))

taken : (front : List ℕ) (most n : ℕ) (word digits : List ℕ) (before : List (List ℕ)) (held : Option ℕ) → held ≡ option_map (digits_value 10) (digits_in front before)
    → behind front word ≡ Some digits → Ok n ≡ number_of most digits (is_some held) → IsTaken front most n word before
taken front most n word digits before held h is given =
    let again : is_some held ≡ is_some (digits_in front before) = ap is_some h ∙ is_some_map _ _ in
    let parts = number_given most n digits (is_some held) given in
    let none : digits_in front before ≡ None = none_if _ (sym again ∙ parts.0) in
    record {
      fits = parts.2;
      good = rw is (ap (λ b. result_err (number_of most digits b)) (sym again) ∙ ap result_err (sym given));
      given = ap Some parts.1 ∙ sym (ap (option_map (digits_value 10)) (digits_added front word digits before is none));
    }

-- An option behind options adds no type.
begun_with : (seen : WordsRead) (word : List ℕ) (before : List (List ℕ)) → AreRead seen before → list_all is_option before ≡ true → is_option word ≡ true → type_of word ≡ None
    → (seen.types ≡ length (filter_map type_of (before ++ word ∷ []))) × ((seen.types == 0) ≡ list_all is_option (before ++ word ∷ []))
begun_with seen word before h all option no_type =
    let whole : list_all is_option (before ++ word ∷ []) ≡ true = all_added word before ∙ rw (all, option) refl in
    (h.types ∙ sym (types_kept word before no_type), h.begun ∙ all ∙ sym whole)

pub rows_seen : (seen : WordsRead) (n : ℕ) (word digits : List ℕ) (before : List (List ℕ)) → AreRead seen before → list_all is_option before ≡ true → is_option word ≡ true → behind (codes "rows=") word ≡ Some digits → Ok n ≡ number_of 18446744073709551615 digits (is_some seen.rows) → (option_fault before word ≡ None) × AreRead (record seen { rows = Some n }) (before ++ word ∷ [])
rows_seen seen n word digits before h all option is given =
    let e : word ≡ codes "rows=" ++ digits = behind_is (codes "rows=") word digits is in
    let no_field = rows_no_field word digits is in
    let t = taken (codes "rows=") 18446744073709551615 n word digits before seen.rows h.rows is given in
    let b = begun_with seen word before h all option (ap type_of e ∙ (no_types digits).0) in (
      rw is (rw is at t.good),
      record {
        rows = t.given;
        field = h.field ∙ sym (ap (option_map (digits_value 10)) (digits_kept (codes "field=") word before no_field));
        field_fits = h.field_fits;
        types = b.0;
        begun = b.1;
      },
    )

pub field_seen : (seen : WordsRead) (n : ℕ) (word digits : List ℕ) (before : List (List ℕ)) → AreRead seen before → list_all is_option before ≡ true → is_option word ≡ true → behind (codes "field=") word ≡ Some digits → Ok n ≡ number_of 2147483647 digits (is_some seen.field) → (option_fault before word ≡ None) × AreRead (record seen { field = Some n }) (before ++ word ∷ [])
field_seen seen n word digits before h all option is given =
    let e : word ≡ codes "field=" ++ digits = behind_is (codes "field=") word digits is in
    let no_rows : behind (codes "rows=") word ≡ None = ap (behind (codes "rows=")) e ∙ field_is_no_rows digits in
    let t = taken (codes "field=") 2147483647 n word digits before seen.field h.field is given in
    let b = begun_with seen word before h all option (ap type_of e ∙ (no_types digits).1) in (
      rw (no_rows, is) (rw is at t.good),
      record {
        rows = h.rows ∙ sym (ap (option_map (digits_value 10)) (digits_kept (codes "rows=") word before no_rows));
        field = t.given;
        field_fits = t.fits;
        types = b.0;
        begun = b.1;
      },
    )

-- an option of an entry whose key no word before it has
pub oid_new : (before : List (List ℕ)) (word : List ℕ) (entry : Found) → entry_of word ≡ Some entry → is_some (known_of (filter_map entry_of before) (entry_key entry)) ≡ false → oid_fault before word ≡ None
oid_new before word entry is new = rw is (rw new refl)

pub oid_seen : (seen : WordsRead) (word : List ℕ) (before : List (List ℕ)) → AreRead seen before → list_all is_option before ≡ true → is_option word ≡ true → behind (codes "rows=") word ≡ None → behind (codes "field=") word ≡ None → oid_fault before word ≡ None → (option_fault before word ≡ None) × AreRead seen (before ++ word ∷ [])
oid_seen seen word before h all option no_rows no_field good =
    let b = begun_with seen word before h all option (option_is_no_type word option) in (
      rw (no_rows, no_field) good,
      record {
        rows = h.rows ∙ sym (ap (option_map (digits_value 10)) (digits_kept (codes "rows=") word before no_rows));
        field = h.field ∙ sym (ap (option_map (digits_value 10)) (digits_kept (codes "field=") word before no_field));
        field_fits = h.field_fits;
        types = b.0;
        begun = b.1;
      },
    )

pub and_false : (b : Bool) → (b && false) ≡ false
and_false true = refl
and_false false = refl

pub type_seen : (seen : WordsRead) (t : Shape) (word : List ℕ) (before : List (List ℕ)) → AreRead seen before → type_of word ≡ Some t → (word_fault before word ≡ None) × AreRead (record seen { types = seen.types + 1 }) (before ++ word ∷ [])
type_seen seen t word before h is =
    let plain = type_is_plain word t is in
    let option = type_is_no_option word t is in
    let mixed : (list_all is_option before && is_option word) ≡ false = ap (λ b. list_all is_option before && b) option ∙ and_false _ in (
      ap (λ b. if b then option_fault before word else type_fault_of word) mixed ∙ no_fault_where_named word t is,
      record {
        rows = h.rows ∙ sym (ap (option_map (digits_value 10)) (digits_kept (codes "rows=") word before plain.0));
        field = h.field ∙ sym (ap (option_map (digits_value 10)) (digits_kept (codes "field=") word before plain.1));
        field_fits = h.field_fits;
        types = ap (λ n. n + 1) h.types ∙ sym (types_added word t before is);
        begun = ne_eqb (seen.types + 1) 0 (λ e. omega (arith, e)) ∙ sym (all_added word before ∙ mixed);
      },
    )
