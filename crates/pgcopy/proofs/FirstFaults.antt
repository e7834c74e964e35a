-- The first fault that reading words from left to right finds.
use Rattle.std.proofs.Common.{◌≡◌, ◌⊎◌, inl, inr, ℕ, List, [], ◌∷◌, ◌++◌, Option, None, Some, refl, sym, ap, ◌∙◌, subst}
use Rattle.std.proofs.lemmas.List.{append-nil, append_assoc}
use Rattle.pgcopy.specs.Words.{PlacedFault, fault_between, first_fault}

-- where an element of two lists, one behind the other, stands
pub split : {A : Type 0} (xs ys front : List A) (x : A) (back : List A) → xs ++ ys ≡ front ++ x ∷ back
    → ((more : List A) × (xs ≡ front ++ x ∷ more) × (back ≡ more ++ ys)) ⊎ ((more : List A) × (front ≡ xs ++ more) × (ys ≡ more ++ x ∷ back))
split [] ys front x back e = inr (front, refl, e)
split (y ∷ xs) ys [] x back e = inl (xs, cc, cc)
split (y ∷ xs) ys (z ∷ front) x back e = by (split xs ys front x back (cc))
  where
    by : ((more : _) × (xs ≡ front ++ x ∷ more) × (back ≡ more ++ ys)) ⊎ ((more : _) × (front ≡ xs ++ more) × (ys ≡ more ++ x ∷ back))
        → ((more : _) × (y ∷ xs ≡ (z ∷ front) ++ x ∷ more) × (back ≡ more ++ ys)) ⊎ ((more : _) × (z ∷ front ≡ (y ∷ xs) ++ more) × (ys ≡ more ++ x ∷ back))
    by (inl s) = let first : y ≡ z = cc in inl (s.0, rw (first, s.1) refl, s.2)
    by (inr s) = let first : y ≡ z = cc in inr (s.0, rw (first, s.1) refl, s.2)

pub nothing : {A : Type 0} (front : List A) (x : A) (back : List A) → [] ≡ front ++ x ∷ back → ⊥
nothing [] x back e = cc
nothing (y ∷ front) x back e = cc

-- what is wrong with a word does not depend on what stands behind it
fault_any : (front : List (List ℕ)) (word : List ℕ) (back more : List (List ℕ)) → fault_between front (word ∷ back) ≡ fault_between front (word ∷ more)
fault_any [] word back more = refl
fault_any (command ∷ front) word back more = refl

-- nothing is wrong with a single word
abbrev pub AreGood : List (List ℕ) → Type 0
AreGood words = (front : List (List ℕ)) (word : List ℕ) (back : List (List ℕ)) → words ≡ front ++ word ∷ back → fault_between front (word ∷ back) ≡ None

good_with : (before : List (List ℕ)) (word : List ℕ) (after : List (List ℕ)) → AreGood before → fault_between before (word ∷ after) ≡ None → AreGood (before ++ word ∷ [])
good_with before word after good none front w back e = by (split before (word ∷ []) front w back e)
  where
    at_end : (more : List (List ℕ)) → front ≡ before ++ more → word ∷ [] ≡ more ++ w ∷ back → fault_between front (w ∷ back) ≡ None
    at_end [] f e = let here : front ≡ before = f ∙ append-nil before in let same : w ≡ word = cc in rw (here, same) (fault_any before word back after ∙ none)
    at_end (x ∷ more) f e = absurd (nothing more w back (cc))

    by : ((more : _) × (before ≡ front ++ w ∷ more) × (back ≡ more ++ word ∷ [])) ⊎ ((more : _) × (front ≡ before ++ more) × (word ∷ [] ≡ more ++ w ∷ back)) → fault_between front (w ∷ back) ≡ None
    by (inl s) = fault_any front w back s.0 ∙ good front w s.0 s.1
    by (inr s) = at_end s.0 s.1 s.2

-- This is found at its place, and nothing in front of it.
pub record IsFirstFound (words : List (List ℕ)) (wrong : PlacedFault) : Type 0 where
  pub before : List (List ℕ)
  pub after : List (List ℕ)
  pub is : words ≡ before ++ after
  pub fault : fault_between before after ≡ Some wrong
  pub first : AreGood before

pub no_some : {A : Type 0} {x : A} → None ≡ Some x → ⊥
no_some e = cc

pub first_is : (before after : List (List ℕ)) (wrong : PlacedFault) → AreGood before → first_fault before after ≡ Some wrong → IsFirstFound (before ++ after) wrong
first_is before [] wrong good e = record { before = before; after = []; is = refl; fault = e; first = good }
first_is before (word ∷ after) wrong good e = by (fault_between before (word ∷ after)) refl (first_is (before ++ word ∷ []) after wrong)
  where
    by : (r : Option PlacedFault) → fault_between before (word ∷ after) ≡ r
        → (AreGood (before ++ word ∷ []) → first_fault (before ++ word ∷ []) after ≡ Some wrong → IsFirstFound ((before ++ word ∷ []) ++ after) wrong)
        → IsFirstFound (before ++ word ∷ after) wrong
    by None is more = subst (λ ws. IsFirstFound ws wrong) (append_assoc before (word ∷ []) after) (more (good_with before word after good is) (rw is at e))
    by (Some fault) is more = record { before = before; after = word ∷ after; is = refl; fault = is ∙ (rw is at e); first = good }

-- where the words in front are good, the first fault stands behind them
pub skip : (seen before after : List (List ℕ)) → AreGood (seen ++ before) → first_fault seen (before ++ after) ≡ first_fault (seen ++ before) after
skip seen [] after good = ap (λ s. first_fault s after) (sym (append-nil seen))
skip seen (word ∷ before) after good =
    let none : fault_between seen (word ∷ (before ++ after)) ≡ None = fault_any seen word (before ++ after) before ∙ good seen word before refl in
    let same : (seen ++ word ∷ []) ++ before ≡ seen ++ word ∷ before = append_assoc seen (word ∷ []) before in
    rw none (skip (seen ++ word ∷ []) before after (subst AreGood (sym same) good) ∙ ap (λ s. first_fault s after) same)

pub first_found : (words : List (List ℕ)) (wrong : PlacedFault) → IsFirstFound words wrong → first_fault [] words ≡ Some wrong
first_found words wrong h = ap (first_fault []) h.is ∙ skip [] h.before h.after h.first ∙ here h.after h.fault
  where
    here : (after : List (List ℕ)) → fault_between h.before after ≡ Some wrong → first_fault h.before after ≡ Some wrong
    here [] f = f
    here (word ∷ after) f = rw f refl

-- where there is no fault, nothing is wrong with the words
pub none_is : (before after : List (List ℕ)) → AreGood before → first_fault before after ≡ None → AreGood (before ++ after) × (fault_between (before ++ after) [] ≡ None)
none_is before [] good e = subst (λ ws. AreGood ws × (fault_between ws [] ≡ None)) (sym (append-nil before)) (good, e)
none_is before (word ∷ after) good e = by (fault_between before (word ∷ after)) refl (none_is (before ++ word ∷ []) after)
  where
    by : (r : Option PlacedFault) → fault_between before (word ∷ after) ≡ r
        → (AreGood (before ++ word ∷ []) → first_fault (before ++ word ∷ []) after ≡ None → AreGood ((before ++ word ∷ []) ++ after) × (fault_between ((before ++ word ∷ []) ++ after) [] ≡ None))
        → AreGood (before ++ word ∷ after) × (fault_between (before ++ word ∷ after) [] ≡ None)
    by None is more = subst (λ ws. AreGood ws × (fault_between ws [] ≡ None)) (append_assoc before (word ∷ []) after) (more (good_with before word after good is) (rw is at e))
    by (Some fault) is more = absurd (no_some (sym (rw is at e)))

pub good_alone : AreGood []
good_alone front word back e = absurd (nothing front word back e)
