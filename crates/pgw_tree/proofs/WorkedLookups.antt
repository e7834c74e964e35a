-- What the definitions say of needs, and of what a lookup knows of their keys, that are written out.
use Rattle.std.proofs.Common.{◌≡◌, ℕ, Bool, true, false, [], ◌∷◌, Some, None, refl}
use Rattle.pgw_meta.specs.Known.{Key, Known}
use Rattle.pgw_meta.specs.Needs.{NeededKey}
use Rattle.pgw_meta.specs.NamedOids.{known_of}
use Rattle.pgw_meta.specs.declared.found_oids.Found.{Found}
use Rattle.pgw_tree.specs.Lookups.{first_unmet, Covers}

-- the keys `t` and `a.t`
abbrev bare_t : Key
bare_t = record { schema = None; name = 116 ∷ [] }

abbrev a_t : Key
a_t = record { schema = Some (97 ∷ []); name = 116 ∷ [] }

abbrev entry : Key → ℕ → ℕ → Found
entry k n m = record { key = record { schema = k.schema; name = k.name }; oid = n; array_oid = m }

-- both oids of `t` are known, and of `a.t` that of its arrays alone
abbrev told : Known
told = known_of (entry bare_t 16400 16405 ∷ entry a_t 0 16406 ∷ [])

abbrev needed : Key → Bool → Bool → NeededKey
needed k type_side array_side = record { key = k; type_side = type_side; array_side = array_side }

pub nothing_needed : first_unmet (known_of []) [] ≡ None
nothing_needed = refl

-- A side that is 0 and not needed is let be.
pub each_is_met : first_unmet told (needed bare_t true true ∷ needed a_t false true ∷ []) ≡ None
each_is_met = refl

pub side_of_0 : first_unmet told (needed bare_t true true ∷ needed a_t true true ∷ []) ≡ Some a_t
side_of_0 = refl

-- Of two that are not met the first is told, and one without a schema is not met by an entry of one with a schema.
pub first_of_two : first_unmet (known_of (entry a_t 0 16406 ∷ [])) (needed bare_t true false ∷ needed a_t true false ∷ []) ≡ Some bare_t
first_of_two = refl

-- A side that is 0 and not needed may be missing from what covers a need.
pub arrays_covered : Covers (entry bare_t 16400 16405 ∷ entry a_t 0 16406 ∷ []) (needed a_t false true ∷ [])
arrays_covered = refl

pub of_two_the_first_counts : Covers (entry bare_t 0 16405 ∷ entry bare_t 16400 16405 ∷ []) (needed bare_t true false ∷ []) → ⊥
of_two_the_first_counts covers = absurd (cc)
