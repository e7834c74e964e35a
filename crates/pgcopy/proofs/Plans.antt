-- A plan of words, and the first fault of words, are what reading them from left to right finds.
use Rattle.std.proofs.Common.{◌≡◌, ◌↔◌, String, string_bytes, ℕ, ◌+◌, ◌-◌, List, [], ◌∷◌, ◌++◌, length, map, codes, Option, None, Some, option_map, Result, Ok, Err, IsErr, IsOkAnd, IfOk, IfErr, Bool, true, false, refl, sym, ap, ◌∙◌, subst, if◌then◌else◌}
use Rattle.std.proofs.lemmas.List.{append-nil}
use Rattle.std.proofs.lemmas.Slice.Eq.{bytes_eq-Decides}
use Rattle.std.specs.List.{filter_map}
use Rattle.std.specs.Prelude.{IsOk}
use Rattle.std.specs.Result.{result_err}
use Rattle.std.specs.Str.{bytes_eq}
use Rattle.pgw_tree.specs.Limits.{default_limits}
use Rattle.pgcopy.specs.declared.words.WordFault.TheVariants.{UnknownCommand}
use Rattle.pgcopy.proofs.OidWords.{all_found, all_spelled}
use Rattle.pgcopy.specs.Words.{type_of, texts, PlanData, IsPlan, entry_of, columns_fault, fault_of_all, PlacedFault, placed, IsFirstFault, first_fault, limits_in, plan_of_texts, plan_of, HasNoPlan}
use Rattle.pgcopy.proofs.FirstFaults.{AreGood, no_some, first_is, skip, first_found, none_is, good_alone}
use Rattle.pgcopy.proofs.AskedFor.{AskFor, nothing_asked, asked, fine_word, what_is}
use Rattle.pgcopy.proofs.TypeNames.{columns_are, columns_read}
use Rattle.pgcopy.proofs.ColumnFaults.{columns_fine, fine_columns}
use Rattle.pgcopy.proofs.FaultsAgree.{good_behind, first_said, first_is_said}

is_copy : (command : List ℕ) → (if bytes_eq command (codes "copy") then None else Some (placed 0 UnknownCommand)) ≡ None → command ≡ codes "copy"
is_copy command e = by (bytes_eq command (codes "copy")) refl
  where
    by : (b : Bool) → bytes_eq command (codes "copy") ≡ b → command ≡ codes "copy"
    by true is = (bytes_eq-Decides command (codes "copy")).0 is
    by false is = absurd (no_some (sym (rw is at e)))

-- What reading finds is a plan.
pub found_is_plan : (words : List (List ℕ)) (plan : PlanData) → plan_of_texts words ≡ Ok plan → IsPlan words plan
found_is_plan [] plan e = cc
found_is_plan (command ∷ rest) plan e =
    let none = no_fault (first_fault [] (command ∷ rest)) refl in
    let all = none_is [] (command ∷ rest) good_alone none in
    let copy : command ≡ codes "copy" = is_copy command (all.0 [] command rest refl) in
    let p = asked [] rest (record { limits = default_limits; entries = []; columns = [] }) nothing_asked (good_behind command rest all.0) in
    let what = what_is rest p.0 p.1 in
    subst (IsPlan (command ∷ rest)) (λ i. record { limits = (sym what.0 ∙ ap (λ (d : PlanData). d.limits) (found copy none)) i; entries = (sym what.1 ∙ ap (λ (d : PlanData). d.entries) (found copy none)) i; columns = (sym what.2 ∙ ap (λ (d : PlanData). d.columns) (found copy none)) i }) (record {
      options = p.1.options;
      types = p.1.types;
      is = ap (λ c. c ∷ rest) copy ∙ ap (λ ws. codes "copy" ∷ ws) p.1.is;
      known = p.1.known;
      rows = p.1.rows;
      field = p.1.field;
      entries = all_spelled _ p.0.entries p.1.entries;
      once = p.1.once;
      columns = columns_are p.1.types p.0.columns p.1.columns;
      valid = fine_columns _ p.0.columns (ap (λ cs. columns_fault (1 + (length rest - length cs)) cs) (sym what.2) ∙ all.1);
    })
  where
    no_fault : (r : Option PlacedFault) → first_fault [] (command ∷ rest) ≡ r → first_fault [] (command ∷ rest) ≡ None
    no_fault None is = is
    no_fault (Some wrong) is = let k : Err wrong ≡ Ok plan = rw is at e in absurd (cc)

    found : command ≡ codes "copy" → first_fault [] (command ∷ rest) ≡ None → record { limits = limits_in rest; entries = filter_map entry_of rest; columns = filter_map type_of rest } ≡ plan
    found copy none =
        let h : plan_of_texts (codes "copy" ∷ rest) ≡ Ok plan = ap (λ c. plan_of_texts (c ∷ rest)) (sym copy) ∙ e in
        let k = rw (ap (λ c. first_fault [] (c ∷ rest)) (sym copy) ∙ none) at h in
        cc

-- Reading finds each plan.
pub plan_is_found : (words : List (List ℕ)) (plan : PlanData) → IsPlan words plan → plan_of_texts words ≡ Ok plan
plan_is_found words plan p =
    let q : AskFor (p.options ++ p.types) plan = record { options = p.options; types = p.types; is = refl; known = p.known; rows = p.rows; field = p.field; entries = all_found _ plan.entries p.entries; once = p.once; columns = columns_read p.types plan.columns p.columns } in
    let what = what_is (p.options ++ p.types) plan q in
    let fits : fault_of_all (p.options ++ p.types) ≡ None = ap (λ cs. columns_fault (1 + (length (p.options ++ p.types) - length cs)) cs) what.2 ∙ columns_fine _ plan.columns p.valid in
    let none : first_fault [] (codes "copy" ∷ (p.options ++ p.types)) ≡ None =
    ap (first_fault []) (sym (append-nil (codes "copy" ∷ (p.options ++ p.types)))) ∙ skip [] (codes "copy" ∷ (p.options ++ p.types)) [] (good q) ∙ rw fits refl in
    ap plan_of_texts p.is ∙ rw none (λ i. Ok (record { limits = what.0 i; entries = what.1 i; columns = what.2 i }))
  where
    good : AskFor (p.options ++ p.types) plan → AreGood (codes "copy" ∷ (p.options ++ p.types))
    good q [] word back e = let same : word ≡ codes "copy" = cc in rw same refl
    good q (command ∷ front) word back e = ap (option_map (placed (length (command ∷ front)))) (fine_word (p.options ++ p.types) plan q front word back (cc))

-- Reading finds the first fault.
pub found_is_first : (words : List (List ℕ)) (wrong : PlacedFault) → plan_of_texts words ≡ Err wrong → IsFirstFault words wrong
found_is_first words wrong e = by (first_fault [] words) refl
  where
    by : (r : Option PlacedFault) → first_fault [] words ≡ r → IsFirstFault words wrong
    by None is = let none : None ≡ Some wrong = rw is at (ap result_err e) in absurd (no_some none)
    by (Some f) is = let same : Some f ≡ Some wrong = rw is at (ap result_err e) in first_said words wrong (first_is [] words wrong good_alone (is ∙ same))

pub first_is_found : (words : List (List ℕ)) (wrong : PlacedFault) → IsFirstFault words wrong → plan_of_texts words ≡ Err wrong
first_is_found words wrong h = rw (first_found words wrong (first_is_said words wrong h)) refl

-- Words with a fault have no plan.
pub fault_no_plan : (words : List (List ℕ)) (wrong : PlacedFault) → plan_of_texts words ≡ Err wrong → HasNoPlan words
fault_no_plan words wrong e plan p = let both : Err wrong ≡ Ok plan = sym e ∙ plan_is_found words plan p in cc

pub plans_agree : {A : Type 0} (words : List (String A)) (plan : PlanData) → (plan_of words ≡ Ok plan) ↔ IsPlan (map string_bytes words) plan
plans_agree words plan = (found_is_plan (map string_bytes words) plan, plan_is_found (map string_bytes words) plan)

pub faults_agree : {A : Type 0} (words : List (String A)) (wrong : PlacedFault) → (plan_of words ≡ Err wrong) ↔ IsFirstFault (map string_bytes words) wrong
faults_agree words wrong = (found_is_first (map string_bytes words) wrong, first_is_found (map string_bytes words) wrong)

-- Words are one plan at most.
pub plan_once : (words : List (List ℕ)) (plan other : PlanData) → IsPlan words plan → IsPlan words other → plan ≡ other
plan_once words plan other is is_other = let same : Ok plan ≡ Ok other = sym (plan_is_found words plan is) ∙ plan_is_found words other is_other in cc

-- What is said by `plan_of`, said by what a plan is and which fault is the first.
pub no_plan : {A : Type 0} (words : List (String A)) → IsErr (plan_of words) ↔ HasNoPlan (texts words)
no_plan words = (told (plan_of words) refl, untold (plan_of words) refl)
  where
    told : (r : Result PlanData PlacedFault) → plan_of words ≡ r → IsErr r → HasNoPlan (texts words)
    told (Ok plan) is e = absurd (cc)
    told (Err wrong) is e = fault_no_plan (texts words) wrong is

    untold : (r : Result PlanData PlacedFault) → plan_of words ≡ r → HasNoPlan (texts words) → IsErr r
    untold (Ok plan) is none = absurd (none plan (found_is_plan (texts words) plan is))
    untold (Err wrong) is none = refl

pub with_plan : {A : Type 0} (words : List (String A)) (P : PlanData → Type 0) → IsOkAnd (plan_of words) P → (plan : PlanData) × IsPlan (texts words) plan × P plan
with_plan words P h = told (plan_of words) refl h
  where
    told : (r : Result PlanData PlacedFault) → plan_of words ≡ r → IsOkAnd r P → (plan : PlanData) × IsPlan (texts words) plan × P plan
    told (Ok plan) is p = (plan, found_is_plan (texts words) plan is, p)
    told (Err wrong) is p = absurd p

pub some_plan : {A : Type 0} (words : List (String A)) → IsOk (plan_of words) → (plan : PlanData) × IsPlan (texts words) plan
some_plan words h = told (plan_of words) refl h
  where
    told : (r : Result PlanData PlacedFault) → plan_of words ≡ r → IsOk r → (plan : PlanData) × IsPlan (texts words) plan
    told (Ok plan) is ok = (plan, found_is_plan (texts words) plan is)
    told (Err wrong) is ok = absurd (cc)

pub for_plan : {A : Type 0} (words : List (String A)) (P : PlanData → Type 0) → IfOk (plan_of words) P → (plan : PlanData) → IsPlan (texts words) plan → P plan
for_plan words P h plan is = subst (λ (r : Result PlanData PlacedFault). IfOk r P) (plan_is_found (texts words) plan is) h

pub for_fault : {A : Type 0} (words : List (String A)) (P : PlacedFault → Type 0) → IfErr (plan_of words) P → (wrong : PlacedFault) → IsFirstFault (texts words) wrong → P wrong
for_fault words P h wrong is = subst (λ (r : Result PlanData PlacedFault). IfErr r P) (first_is_found (texts words) wrong is) h

pub for_no_plan : {A : Type 0} (words : List (String A)) (P : Type 0) → IfErr (plan_of words) (λ _. P) → HasNoPlan (texts words) → P
for_no_plan words P h none = told (plan_of words) h ((no_plan words).1 none)
  where
    told : (r : Result PlanData PlacedFault) → IfErr r (λ _. P) → IsErr r → P
    told (Ok plan) h e = absurd (cc)
    told (Err wrong) h e = h

pub fault_of_no_plan : {A : Type 0} (words : List (String A)) → HasNoPlan (texts words) → (wrong : PlacedFault) × IsFirstFault (texts words) wrong
fault_of_no_plan words none = told (plan_of words) refl ((no_plan words).1 none)
  where
    told : (r : Result PlanData PlacedFault) → plan_of words ≡ r → IsErr r → (wrong : PlacedFault) × IsFirstFault (texts words) wrong
    told (Ok plan) is e = absurd (cc)
    told (Err wrong) is e = (wrong, found_is_first (texts words) wrong is)

-- Where nothing is wrong with a single word, the first fault is what is wrong with all of them together.
pub wrong_together : (rest : List (List ℕ)) (wrong : PlacedFault) → fault_of_all rest ≡ Some wrong → first_fault (codes "copy" ∷ []) rest ≡ first_fault (codes "copy" ∷ rest) [] → plan_of_texts (codes "copy" ∷ rest) ≡ Err wrong
wrong_together rest wrong is same =
    let found : first_fault (codes "copy" ∷ []) rest ≡ Some wrong = same ∙ is in
    rw found refl
