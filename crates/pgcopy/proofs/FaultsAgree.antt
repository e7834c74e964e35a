-- What is wrong with words as it is said, and as it is found, is the same.
use Rattle.std.proofs.Common.{◌≡◌, ◌≢◌, ◌+◌, ◌-◌, ℕ, List, [], ◌∷◌, ◌++◌, length, map, codes, Option, None, Some, option_map, Bool, true, false, refl, sym, ap, ◌∙◌, arith}
use Rattle.std.proofs.lemmas.Bool.{false≢true}
use Rattle.std.proofs.lemmas.List.{length-append, length-map}
use Rattle.std.proofs.lemmas.List.Elements.{filter_map-append}
use Rattle.std.proofs.lemmas.Option.{none-some}
use Rattle.std.proofs.lemmas.Slice.Eq.{bytes_eq-Decides}
use Rattle.std.specs.List.{filter_map, list_all}
use Rattle.std.specs.Str.{bytes_eq}
use Rattle.pgw_meta.specs.Shape.{Shape}
use Rattle.pgcopy.specs.declared.words.WordFault.{WordFault}
use Rattle.pgcopy.specs.declared.words.WordFault.TheVariants.{UnknownCommand}
use Rattle.pgcopy.specs.Words.{type_of, is_option, is_option_behind, word_fault, IsFaultAs, PlanData, PlacedFault, placed, columns_fault, IsFaultOfAll, fault_of_all, IsFaultBetween, fault_between, IsFirstFault}
use Rattle.pgcopy.proofs.Options.{differs}
use Rattle.pgcopy.proofs.TypeNames.{type_fault_is, type_fault_read, columns_are, columns_read}
use Rattle.pgcopy.proofs.FirstFaults.{AreGood, IsFirstFound}
use Rattle.pgcopy.proofs.AskedFor.{AskFor, asked, nothing_asked, types_are, options_name_none}

some_is : {A : Type 0} {x y : A} → Some x ≡ Some y → x ≡ y
some_is e = cc

word_is : (before : List (List ℕ)) (word : List ℕ) (fault : WordFault) → word_fault before word ≡ Some fault → IsFaultAs (is_option_behind before word) before word fault
word_is before word fault e = by (is_option_behind before word) refl
  where
    by : (b : Bool) → is_option_behind before word ≡ b → IsFaultAs b before word fault
    by true is = rw is at e
    by false is = type_fault_is word fault (rw is at e)

word_read : (before : List (List ℕ)) (word : List ℕ) (fault : WordFault) → IsFaultAs (is_option_behind before word) before word fault → word_fault before word ≡ Some fault
word_read before word fault h = by (is_option_behind before word) refl h
  where
    by : (b : Bool) → is_option_behind before word ≡ b → IsFaultAs b before word fault → word_fault before word ≡ Some fault
    by true is h = rw is h
    by false is h = rw is (type_fault_read word fault h)

placed_is : (place : ℕ) (r : Option WordFault) (wrong : PlacedFault) → option_map (placed place) r ≡ Some wrong → (wrong.place ≡ place) × (r ≡ Some wrong.fault)
placed_is place None wrong e = absurd (none-some wrong e)
placed_is place (Some fault) wrong e =
    let same : placed place fault ≡ wrong = some_is e in
    (sym (ap (λ (w : PlacedFault). w.place) same), ap (λ (w : PlacedFault). Some w.fault) same)

-- how many options stand in front of the types
behind_options : (options types : List (List ℕ)) (columns : List Shape) → map type_of types ≡ map Some columns → length (options ++ types) - length columns ≡ length options
behind_options options types columns e =
    let all = length-append options types in
    let same : length types ≡ length columns = sym (length-map types type_of) ∙ ap length e ∙ length-map columns Some in
    omega (arith, all, same)

named_columns : (options types : List (List ℕ)) (columns : List Shape) → list_all is_option options ≡ true → map type_of types ≡ map Some columns → filter_map type_of (options ++ types) ≡ columns
named_columns options types columns known are =
    filter_map-append type_of options types ∙ rw (options_name_none options known) (types_are types columns are)

all_read : (words : List (List ℕ)) (wrong : PlacedFault) → IsFaultOfAll words wrong → fault_of_all words ≡ Some wrong
all_read words wrong h =
    let are = columns_read h.types h.columns h.are in
    let columns : filter_map type_of words ≡ h.columns = ap (filter_map type_of) h.is ∙ named_columns h.options h.types h.columns h.known are in
    let first : 1 + (length words - length h.columns) ≡ 1 + length h.options = ap (λ ws. 1 + (length ws - length h.columns)) h.is ∙ ap (λ n. 1 + n) (behind_options h.options h.types h.columns are) in
    ap (λ cs. columns_fault (1 + (length words - length cs)) cs) columns ∙ ap (λ n. columns_fault n h.columns) first ∙ h.fault

all_is : (words : List (List ℕ)) (wrong : PlacedFault) → ((front : List (List ℕ)) (word : List ℕ) (back : List (List ℕ)) → words ≡ front ++ word ∷ back → word_fault front word ≡ None)
    → fault_of_all words ≡ Some wrong → IsFaultOfAll words wrong
all_is words wrong good e = of (asked [] words _ nothing_asked good)
  where
    of : (plan : PlanData) × AskFor words plan → IsFaultOfAll words wrong
    of (plan, p) =
        let columns : filter_map type_of words ≡ plan.columns = ap (filter_map type_of) p.is ∙ named_columns p.options p.types plan.columns p.known p.columns in
        let first : 1 + length p.options ≡ 1 + (length words - length plan.columns) = ap (λ n. 1 + n) (sym (behind_options p.options p.types plan.columns p.columns)) ∙ ap (λ ws. 1 + (length ws - length plan.columns)) (sym p.is) in
        record {
          options = p.options;
          types = p.types;
          columns = plan.columns;
          is = p.is;
          known = p.known;
          are = columns_are p.types plan.columns p.columns;
          fault = ap (λ n. columns_fault n plan.columns) first ∙ ap (λ cs. columns_fault (1 + (length words - length cs)) cs) (sym columns) ∙ e;
        }

-- nothing is wrong with a single word behind the command
pub good_behind : (command : List ℕ) (words : List (List ℕ)) → AreGood (command ∷ words) → (front : List (List ℕ)) (word : List ℕ) (back : List (List ℕ)) → words ≡ front ++ word ∷ back → word_fault front word ≡ None
good_behind command words good front word back is = none (word_fault front word) (good (command ∷ front) word back (ap (λ ws. command ∷ ws) is))
  where
    none : (r : Option WordFault) → option_map (placed (length (command ∷ front))) r ≡ None → r ≡ None
    none None e = refl
    none (Some fault) e = absurd (none-some _ (sym e))

pub between_is : (before after : List (List ℕ)) (wrong : PlacedFault) → AreGood before → fault_between before after ≡ Some wrong → IsFaultBetween before after wrong
between_is [] [] wrong good e = sym (some_is e)
between_is [] (command ∷ after) wrong good e = by (bytes_eq command (codes "copy")) refl
  where
    by : (b : Bool) → bytes_eq command (codes "copy") ≡ b → (command ≢ codes "copy") × (wrong ≡ placed 0 UnknownCommand)
    by true is = absurd (none-some wrong (rw is at e))
    by false is = (λ same. false≢true (sym is ∙ (bytes_eq-Decides command (codes "copy")).1 same), sym (some_is (rw is at e)))
between_is (command ∷ before) (word ∷ after) wrong good e =
    let is = placed_is (length (command ∷ before)) (word_fault before word) wrong e in
    (is.0, word_is before word wrong.fault is.1)
between_is (command ∷ before) [] wrong good e = all_is before wrong (good_behind command before good) e

pub between_read : (before after : List (List ℕ)) (wrong : PlacedFault) → IsFaultBetween before after wrong → fault_between before after ≡ Some wrong
between_read [] [] wrong h = ap Some (sym h)
between_read [] (command ∷ after) wrong h = rw (differs command (codes "copy") h.0) (ap Some (sym h.1))
between_read (command ∷ before) (word ∷ after) wrong h =
    rw (word_read before word wrong.fault h.1) (λ i. Some (record { place = sym h.0 i; fault = wrong.fault }))
between_read (command ∷ before) [] wrong h = all_read before wrong h

-- Words are good where nothing is found wrong with one, and where nothing is.
pub good_is : (before : List (List ℕ)) → AreGood before → (front : List (List ℕ)) (word : List ℕ) (back : List (List ℕ)) → before ≡ front ++ word ∷ back → (other : PlacedFault) → IsFaultBetween front (word ∷ back) other → ⊥
good_is before good front word back is other h = none-some other (sym (good front word back is) ∙ between_read front (word ∷ back) other h)

pub good_read : (before : List (List ℕ)) → ((front : List (List ℕ)) (word : List ℕ) (back : List (List ℕ)) → before ≡ front ++ word ∷ back → (other : PlacedFault) → IsFaultBetween front (word ∷ back) other → ⊥) → AreGood before
good_read before none front word back is = by (fault_between front (word ∷ back)) refl
  where
    -- what is wrong with a word is said without what stands in front of it being good
    one_is : (front : List (List ℕ)) (other : PlacedFault) → fault_between front (word ∷ back) ≡ Some other → IsFaultBetween front (word ∷ back) other
    one_is [] other e = between_is [] (word ∷ back) other (λ f w b same. absurd (empty f w b same)) e
      where
        empty : (f : List (List ℕ)) (w : List ℕ) (b : List (List ℕ)) → [] ≡ f ++ w ∷ b → ⊥
        empty [] w b same = cc
        empty (x ∷ f) w b same = cc
    one_is (command ∷ front) other e =
        let at = placed_is (length (command ∷ front)) (word_fault front word) other e in
        (at.0, word_is front word other.fault at.1)

    by : (r : Option PlacedFault) → fault_between front (word ∷ back) ≡ r → fault_between front (word ∷ back) ≡ None
    by None e = e
    by (Some other) e = absurd (none front word back is other (one_is front other e))

pub first_said : (words : List (List ℕ)) (wrong : PlacedFault) → IsFirstFound words wrong → IsFirstFault words wrong
first_said words wrong h = record {
  before = h.before;
  after = h.after;
  is = h.is;
  fault = between_is h.before h.after wrong h.first h.fault;
  first = good_is h.before h.first;
}

pub first_is_said : (words : List (List ℕ)) (wrong : PlacedFault) → IsFirstFault words wrong → IsFirstFound words wrong
first_is_said words wrong h = record {
  before = h.before;
  after = h.after;
  is = h.is;
  fault = between_read h.before h.after wrong h.fault;
  first = good_read h.before h.first;
}
