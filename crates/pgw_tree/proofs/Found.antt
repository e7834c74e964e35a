-- Needs that are looked up one after another, in order.
use Rattle.std.proofs.Common.{◌≡◌, ℕ, ◌+◌, ◌<◌, ◌≤◌, Bool, true, false, cond, List, [], ◌∷◌, ◌++◌, length, get_or, take, drop, Option, Some, None, Ok, Err, refl, sym, ap, subst, ◌∙◌, arith, drop-cons, add-one}
use Rattle.std.specs.Option.{option_map_or, ok_or}
use Rattle.std.proofs.lemmas.List.{length-map, get_or-map, take_more, drop_all}
use Rattle.pgw_wire.specs.Outside.{HasFailed}
use Rattle.pgw_meta.specs.Known.{Key, Oids, Known, Knowledge, LookupState, known}
use Rattle.pgw_meta.specs.Metadata.{found}
use Rattle.pgw_meta.specs.declared.metadata_lookup.LookupError.{LookupError}
use Rattle.pgw_meta.specs.declared.metadata_lookup.LookupError.TheVariants.{Failed as failed_call, NoMemory as no_memory_left}
use Rattle.pgw_tree.specs.declared.fault.CopyFault.{CopyFault}
use Rattle.pgw_meta.specs.Keys.{owned_key}
use Rattle.pgw_meta.specs.Needs.{NeededKey, needed_key, needed_keys}
use Rattle.pgw_meta.specs.declared.needs.Need.{Need}
use Rattle.pgw_meta.specs.declared.found_oids.Found.{Found}
use Rattle.pgw_tree.specs.Lookups.{meets, is_met, first_unmet, entry_oids, IsFound, AreFound, IsFirstUnmet, HasFailedAsked, LookupCause, unknown_type, lookup_fault, no_memory, looked_up_fault}

pub found_more : (told : Option Known) (ns : List NeededKey) (fs : List Found) (n : NeededKey) (f : Found) → AreFound told ns fs → IsFound told n f → AreFound told (ns ++ (n ∷ [])) (fs ++ (f ∷ []))
found_more told [] [] n f each one = (one, tt)
found_more told [] (g ∷ fs) n f each one = absurd each
found_more told (m ∷ ns) [] n f each one = absurd each
found_more told (m ∷ ns) (g ∷ fs) n f each one = (each.0, found_more told ns fs n f each.1 one)

-- The need at a place, behind those before it.
pub record IsNeedAt (ns : List NeededKey) (place : ℕ) (n : NeededKey) : Type 0 where
  pub first : take (place + 1) ns ≡ take place ns ++ (n ∷ [])
  pub rest : drop place ns ≡ n ∷ drop (place + 1) ns

keyed_at : (ns : List NeededKey) (i : ℕ) (d : NeededKey) → i < length ns → IsNeedAt ns i (get_or ns i d)
keyed_at ns i d within = record {
  first = take_more ns i d within;
  rest = drop-cons ns i d within ∙ ap (λ k. get_or ns i d ∷ drop k ns) (sym (add-one i));
}

pub need_at : (ns : List Need) (i : ℕ) (n : Need) → i < length ns → n ≡ get_or ns i n → IsNeedAt (needed_keys ns) i (needed_key n)
need_at ns i n within is =
    subst (λ (m : NeededKey). IsNeedAt (needed_keys ns) i m) (get_or-map needed_key ns i n (needed_key n) within ∙ ap needed_key (sym is))
    (keyed_at (needed_keys ns) i (needed_key n) (omega (arith, within, length-map ns needed_key)))

-- A need that was found is met.
found_is_met : (k : Known) (n : NeededKey) (f : Found) → k n.key ≡ Some (entry_oids f) → meets n (entry_oids f) ≡ true → is_met k n ≡ true
found_is_met k n f known enough = ap (λ (o : Option Oids). option_map_or (meets n) o false) known ∙ enough

-- Where the need at a place is met, the first that is not is behind it.
pub first_behind : (told : Option Known) (ns : List NeededKey) (i : ℕ) (n : NeededKey) (f : Found) (k : Known) → IsNeedAt ns i n → IsFound told n f → told ≡ Some k
    → first_unmet k (drop i ns) ≡ first_unmet k ns → first_unmet k (drop (i + 1) ns) ≡ first_unmet k ns
first_behind told ns i n f k at found is first =
    sym (ap (first_unmet k) at.rest ∙ ap (λ (b : Bool). cond b (first_unmet k (drop (i + 1) ns)) (Some n.key)) (found_is_met k n f (found.is_known k is) found.meets_it)) ∙ first

-- Where it is not met, it is the first.
pub first_here : (ns : List NeededKey) (i : ℕ) (n : NeededKey) (k : Known) → IsNeedAt ns i n → is_met k n ≡ false
    → first_unmet k (drop i ns) ≡ first_unmet k ns → first_unmet k ns ≡ Some n.key
first_here ns i n k at unmet first =
    sym first ∙ ap (first_unmet k) at.rest ∙ ap (λ (b : Bool). cond b (first_unmet k (drop (i + 1) ns)) (Some n.key)) unmet

pub all_met : (ns : List NeededKey) (i : ℕ) (k : Known) → length ns ≤ i → first_unmet k (drop i ns) ≡ first_unmet k ns → first_unmet k ns ≡ None
all_met ns i k done first = sym first ∙ ap (first_unmet k) (drop_all i ns done)

-- A lookup that failed at a need was asked.
pub asked : (ns : List Need) (i : ℕ) (a b : LookupState) → i < length ns → HasFailed a b → HasFailedAsked (needed_keys ns) a b
asked [] i a b within failed = absurd (omega (arith, within))
asked (n ∷ ns) i a b within failed = failed

-- There is a need where one stands at a place.
pub no_needs_no_place : {X : Type 0} (ns : List Need) (i : ℕ) → i < length ns → needed_keys ns ≡ [] → X
no_needs_no_place [] i within none = absurd (omega (arith, within))
no_needs_no_place (n ∷ ns) i within none = absurd (cc)

-- Why a need was not found is why not all were.
pub cause_here : (before mid after : LookupState) (ns : List Need) (i : ℕ) (n : Need) (e : CopyFault) → i < length ns → IsNeedAt (needed_keys ns) i (needed_key n) → mid.told ≡ before.told → before.fault_count ≤ mid.fault_count
    → ((k : Known) → known before ≡ Some k → first_unmet k (drop i (needed_keys ns)) ≡ first_unmet k (needed_keys ns))
    → LookupCause (λ key. (key ≡ owned_key n.key) × ((k : Known) → known mid ≡ Some k → is_met k (needed_key n) ≡ false)) (HasFailed mid after) e
    → LookupCause (IsFirstUnmet (known before) (needed_keys ns)) (HasFailedAsked (needed_keys ns) before after) e
cause_here before mid after ns i n e within at told faults first (unknown_type key is here) =
    unknown_type key is (λ k knows. first_here (needed_keys ns) i (needed_key n) k at (here.1 k (ap (λ (t : Knowledge). t.known) told ∙ knows)) (first k knows) ∙ ap Some (sym here.0))
cause_here before mid after ns i n e within at told faults first (lookup_fault is failed) =
    lookup_fault is (asked ns i before after within (omega (arith, faults, failed)))
cause_here before mid after ns i n e within at told faults first (no_memory is) = no_memory is

-- What the answers of a lookup by a key say of what it knows of the key.
answer_known : (o : Option Oids) (key : Key) (oids : Oids) → Ok oids ≡ ok_or o key → o ≡ Some oids
answer_known None key oids h = absurd (cc)
answer_known (Some x) key oids h = let same : x ≡ oids = cc in ap Some same

answer_unknown : (o : Option Oids) (key other : Key) → Err other ≡ ok_or o key → o ≡ None
answer_unknown None key other h = refl
answer_unknown (Some x) key other h = absurd (cc)

-- the key that the texts of an equal key make
pub asked_key : (schema : Option (List ℕ)) (name : List ℕ) (borrowed own key : Key) → schema ≡ borrowed.schema → name ≡ borrowed.name → borrowed ≡ own → own ≡ key → ◌≡◌ {A = Key} (record { schema = schema; name = name }) key
asked_key schema name borrowed own key s n same equal =
    let whole : ◌≡◌ {A = Key} (record { schema = schema; name = name }) borrowed = λ i. record { schema = s i; name = n i } in
    whole ∙ same ∙ equal

pub known_key : (k : Known) (key : Key) (oids : Oids) → Ok oids ≡ found k key → k key ≡ Some oids
known_key k key oids h = answer_known (k key) key oids h

pub unknown_key : (k : Known) (n : NeededKey) (other : Key) → Err other ≡ found k n.key → is_met k n ≡ false
unknown_key k n other h = ap (λ (o : Option Oids). option_map_or (meets n) o false) (answer_unknown (k n.key) n.key other h)

pub known_unmet : (k : Known) (n : NeededKey) (oids : Oids) → Ok oids ≡ found k n.key → meets n oids ≡ false → is_met k n ≡ false
known_unmet k n oids h unmet = ap (λ (o : Option Oids). option_map_or (meets n) o false) (known_key k n.key oids h) ∙ unmet

-- An error of the lookup is the fault of its name.
pub cause_of_lookup : {First : Key → Type 0} {F : Type 0} (l : LookupError) (e : CopyFault) → e ≡ looked_up_fault l → (l ≡ failed_call → F) → LookupCause First F e
cause_of_lookup failed_call e is failed = lookup_fault is (failed refl)
cause_of_lookup no_memory_left e is failed = no_memory is
