-- Entries that were found for needs, each of another key, cover them.
use Rattle.std.proofs.Common.{◌≡◌, Bool, true, false, cond, List, [], ◌∷◌, flat_map, Option, Some, None, refl, ap, ◌∙◌}
use Rattle.std.specs.Prelude.{⊤}
use Rattle.std.specs.Option.{option_map_or}
use Rattle.pgw_meta.specs.Known.{Key, Known}
use Rattle.pgw_meta.specs.Keys.{owned_key}
use Rattle.pgw_meta.specs.Needs.{NeededKey, is_same_key, joined, with_need, with_needs, field_needs, needs_of}
use Rattle.pgw_meta.specs.NamedOids.{known_of}
use Rattle.pgw_meta.specs.Shape.{Shape}
use Rattle.pgw_meta.specs.declared.found_oids.Found.{Found}
use Rattle.pgw_meta.proofs.SameKeys.{is_same_key-Decides}
use Rattle.pgw_tree.specs.Lookups.{meets, is_met, first_unmet, entry_oids, AreFound, Covers}

-- No need has the key.
abbrev IsNew : Key → List NeededKey → Type 0
IsNew key [] = ⊤
IsNew key (n ∷ ns) = (is_same_key key n.key ≡ false) × IsNew key ns

-- Each need has a key of its own.
abbrev HaveOwnKeys : List NeededKey → Type 0
HaveOwnKeys [] = ⊤
HaveOwnKeys (n ∷ ns) = IsNew n.key ns × HaveOwnKeys ns

new_with : (key : Key) (ns : List NeededKey) (m : NeededKey) → IsNew key ns → is_same_key key m.key ≡ false → IsNew key (with_need ns m)
new_with key [] m new other = (other, tt)
new_with key (n ∷ ns) m new other = by (is_same_key n.key m.key) (new_with key ns m new.1 other)
  where
    by : (b : Bool) → IsNew key (with_need ns m) → IsNew key (cond b (joined n m ∷ ns) (n ∷ with_need ns m))
    by true more = (new.0, new.1)
    by false more = (new.0, more)

own_with : (ns : List NeededKey) (m : NeededKey) → HaveOwnKeys ns → HaveOwnKeys (with_need ns m)
own_with [] m own = (tt, tt)
own_with (n ∷ ns) m own = by (is_same_key n.key m.key) refl (own_with ns m own.1)
  where
    by : (b : Bool) → is_same_key n.key m.key ≡ b → HaveOwnKeys (with_need ns m) → HaveOwnKeys (cond b (joined n m ∷ ns) (n ∷ with_need ns m))
    by true is more = (own.0, own.1)
    by false is more = (new_with n.key ns m own.0 is, more)

own_keys : (ns ms : List NeededKey) → HaveOwnKeys ns → HaveOwnKeys (with_needs ns ms)
own_keys ns [] own = own
own_keys ns (m ∷ ms) own = own_keys (with_need ns m) ms (own_with ns m own)

-- An entry of another key says nothing of a need.
met_behind : (f : Found) (fs : List Found) (key : Key) (ns : List NeededKey) → owned_key f.key ≡ key → IsNew key ns → first_unmet (known_of (f ∷ fs)) ns ≡ first_unmet (known_of fs) ns
met_behind f fs key [] same new = refl
met_behind f fs key (n ∷ ns) same new =
    let other : is_same_key (owned_key f.key) n.key ≡ false = ap (λ (k : Key). is_same_key k n.key) same ∙ new.0 in
    let unlike : is_met (known_of (f ∷ fs)) n ≡ is_met (known_of fs) n = ap (λ (b : Bool). option_map_or (meets n) (cond b (Some (entry_oids f)) (known_of fs n.key)) false) other in
    ap (λ (b : Bool). cond b (first_unmet (known_of (f ∷ fs)) ns) (Some n.key)) unlike
    ∙ ap (λ (o : Option Key). cond (is_met (known_of fs) n) o (Some n.key)) (met_behind f fs key ns same new.1)

each_met : (told : Option Known) (ns : List NeededKey) (fs : List Found) → HaveOwnKeys ns → AreFound told ns fs → first_unmet (known_of fs) ns ≡ None
each_met told [] fs own found = refl
each_met told (n ∷ ns) [] own found = absurd found
each_met told (n ∷ ns) (f ∷ fs) own found =
    let same : is_same_key (owned_key f.key) n.key ≡ true = (is_same_key-Decides (owned_key f.key) n.key).1 found.0.key in
    let met : is_met (known_of (f ∷ fs)) n ≡ true = ap (λ (b : Bool). option_map_or (meets n) (cond b (Some (entry_oids f)) (known_of fs n.key)) false) same ∙ found.0.meets_it in
    ap (λ (b : Bool). cond b (first_unmet (known_of (f ∷ fs)) ns) (Some n.key)) met
    ∙ met_behind f fs n.key ns found.0.key own.0 ∙ each_met told ns fs own.1 found.1

-- The needs of columns have each key once, so that what was found for them covers them.
pub covered : (told : Option Known) (ts : List Shape) (fs : List Found) → AreFound told (needs_of ts) fs → Covers fs (needs_of ts)
covered told ts fs found = each_met told (needs_of ts) fs (own_keys [] (flat_map field_needs ts) tt) found
