-- The entries of words: which they are with one word more, and that no two have one key.
use Rattle.std.proofs.Common.{◌≡◌, ℕ, List, [], ◌∷◌, ◌++◌, map, codes, Option, None, Some, Bool, true, false, refl, sym, ap, ◌∙◌}
use Rattle.std.proofs.lemmas.List.{append-nil, map-append}
use Rattle.std.proofs.lemmas.List.Elements.{filter_map-append}
use Rattle.std.proofs.lemmas.Option.{none-some}
use Rattle.std.specs.List.{filter_map, AllByRecursion, IsDistinct}
use Rattle.std.specs.Option.{option_and_then}
use Rattle.pgw_meta.specs.Known.{Key}
use Rattle.pgw_meta.specs.Needs.{is_same_key}
use Rattle.pgw_meta.specs.NamedOids.{known_of}
use Rattle.pgw_meta.specs.Shape.{Shape}
use Rattle.pgw_meta.specs.declared.found_oids.Found.{Found}
use Rattle.pgcopy.specs.OidWords.{entry_in, entry_key}
use Rattle.pgcopy.specs.Words.{behind, type_of, entry_of}
use Rattle.pgcopy.proofs.ReadingWords.{type_is_plain}

-- what stands behind `oid=` in the words that begin so
abbrev pub oid_texts : List (List ℕ) → List (List ℕ)
oid_texts words = filter_map (behind (codes "oid=")) words

-- Each of these words spells one of these entries, in order.
abbrev pub AreSpelled : List (List ℕ) → List Found → Type 0
AreSpelled words entries = map entry_in (oid_texts words) ≡ map Some entries

pub entry_none : (word : List ℕ) → behind (codes "oid=") word ≡ None → entry_of word ≡ None
entry_none word none = ap (option_and_then entry_in) none

pub entry_some : (word text : List ℕ) → behind (codes "oid=") word ≡ Some text → entry_of word ≡ entry_in text
entry_some word text is = ap (option_and_then entry_in) is

-- The entries that are spelled are those of the words.
pub entries_are : (words : List (List ℕ)) (entries : List Found) → AreSpelled words entries → filter_map entry_of words ≡ entries
entries_are [] [] e = refl
entries_are [] (entry ∷ entries) e = cc
entries_are (word ∷ words) entries e = by (behind (codes "oid=") word) refl (entries_are words)
  where
    first : (text : List ℕ) → behind (codes "oid=") word ≡ Some text → (es : List Found) → map entry_in (text ∷ oid_texts words) ≡ map Some es
        → ((es : List Found) → AreSpelled words es → filter_map entry_of words ≡ es) → filter_map entry_of (word ∷ words) ≡ es
    first text is [] k more = cc
    first text is (entry ∷ es) k more =
        let here : entry_of word ≡ Some entry = entry_some word text is ∙ (cc) in
        rw here (ap (λ l. entry ∷ l) (more es (cc)))

    by : (r : Option (List ℕ)) → behind (codes "oid=") word ≡ r
        → ((es : List Found) → AreSpelled words es → filter_map entry_of words ≡ es) → filter_map entry_of (word ∷ words) ≡ entries
    by None is more = rw (entry_none word is) (more entries (rw is at e))
    by (Some text) is more = first text is entries (rw is at e) more

-- A word more that is no option `oid=` spells no entry more, and one that spells an entry spells it behind the others.
pub spelled_kept : (words : List (List ℕ)) (word : List ℕ) (entries : List Found) → behind (codes "oid=") word ≡ None → AreSpelled words entries → AreSpelled (words ++ word ∷ []) entries
spelled_kept words word entries is h =
    let same : oid_texts (words ++ word ∷ []) ≡ oid_texts words = filter_map-append (behind (codes "oid=")) words (word ∷ []) ∙ rw is (append-nil _) in
    ap (map entry_in) same ∙ h

pub spelled_added : (words : List (List ℕ)) (word text : List ℕ) (entries : List Found) (entry : Found) → behind (codes "oid=") word ≡ Some text → entry_in text ≡ Some entry
    → AreSpelled words entries → AreSpelled (words ++ word ∷ []) (entries ++ entry ∷ [])
spelled_added words word text entries entry is spells h =
    let same : oid_texts (words ++ word ∷ []) ≡ oid_texts words ++ text ∷ [] = filter_map-append (behind (codes "oid=")) words (word ∷ []) ∙ rw is refl in
    ap (map entry_in) same ∙ map-append entry_in (oid_texts words) (text ∷ []) ∙ (λ i. h i ++ spells i ∷ []) ∙ sym (map-append Some entries (entry ∷ []))

-- one of several texts that spell entries
spelled_at : (front : List (List ℕ)) (text : List ℕ) (back : List (List ℕ)) (entries : List Found) → map entry_in (front ++ text ∷ back) ≡ map Some entries → (entry : Found) × (entry_in text ≡ Some entry)
spelled_at [] text back [] e = cc
spelled_at [] text back (entry ∷ entries) e = (entry, cc)
spelled_at (other ∷ front) text back [] e = cc
spelled_at (other ∷ front) text back (entry ∷ entries) e = spelled_at front text back entries (cc)

pub entry_at : (front : List (List ℕ)) (word : List ℕ) (back : List (List ℕ)) (text : List ℕ) (entries : List Found) → behind (codes "oid=") word ≡ Some text
    → AreSpelled (front ++ word ∷ back) entries → (entry : Found) × (entry_of word ≡ Some entry)
entry_at front word back text entries is h =
    let there : oid_texts (front ++ word ∷ back) ≡ oid_texts front ++ text ∷ oid_texts back = filter_map-append (behind (codes "oid=")) front (word ∷ back) ∙ rw is refl in
    let one = spelled_at (oid_texts front) text (oid_texts back) entries (sym (ap (map entry_in) there) ∙ h) in
    (one.0, entry_some word text is ∙ one.1)

-- words that are types give no entries
pub types_give_none : (types : List (List ℕ)) (columns : List Shape) → map type_of types ≡ map Some columns → filter_map entry_of types ≡ []
types_give_none [] columns e = refl
types_give_none (word ∷ types) [] e = cc
types_give_none (word ∷ types) (t ∷ columns) e =
    let first : type_of word ≡ Some t = cc in
    rw (entry_none word (type_is_plain word t first).2) (types_give_none types columns (cc))

-- none of some entries has this key
abbrev AreApart : Key → List Found → Type 0
AreApart key entries = AllByRecursion (λ other. is_same_key key other ≡ false) (map entry_key entries)

apart_added : (key : Key) (entries : List Found) (entry : Found) → AreApart key entries → is_same_key key (entry_key entry) ≡ false → AreApart key (entries ++ entry ∷ [])
apart_added key [] entry h other = (other, tt)
apart_added key (e ∷ entries) entry h other = (h.0, apart_added key entries entry h.1 other)

apart_at : (key : Key) (front : List Found) (entry : Found) (back : List Found) → AreApart key (front ++ entry ∷ back) → is_same_key key (entry_key entry) ≡ false
apart_at key [] entry back h = h.0
apart_at key (e ∷ front) entry back h = apart_at key front entry back h.1

-- No two of some entries have one key.
abbrev pub AreOnce : List Found → Type 0
AreOnce entries = IsDistinct is_same_key (map entry_key entries)

pub none_twice : AreOnce []
unfolding IsDistinct
none_twice = tt

pub once_added : (entries : List Found) (entry : Found) → AreOnce entries → known_of entries (entry_key entry) ≡ None → AreOnce (entries ++ entry ∷ [])
unfolding IsDistinct
once_added [] entry h none = (tt, tt)
once_added (e ∷ entries) entry h none = by (is_same_key (entry_key e) (entry_key entry)) refl (once_added entries entry h.1)
  where
    by : (b : Bool) → is_same_key (entry_key e) (entry_key entry) ≡ b → (known_of entries (entry_key entry) ≡ None → AreOnce (entries ++ entry ∷ []))
        → AreOnce ((e ∷ entries) ++ entry ∷ [])
    by true is more = absurd (none-some _ (sym (rw is at none)))
    by false is more = (apart_added (entry_key e) entries entry h.0 is, more (rw is at none))

-- An entry has another key than those in front of it.
pub once_at : (front : List Found) (entry : Found) (back : List Found) → AreOnce (front ++ entry ∷ back) → known_of front (entry_key entry) ≡ None
unfolding IsDistinct
once_at [] entry back h = refl
once_at (e ∷ front) entry back h = rw (apart_at (entry_key e) front entry back h.0) (once_at front entry back h.1)
