-- Needs that are added one after another are those of the whole.
use Rattle.std.proofs.Common.{◌≡◌, ℕ, zero, suc, ◌+◌, ◌<◌, ◌≤◌, Bool, List, [], ◌∷◌, ◌++◌, flat_map, length, get_or, set, drop, cond, Box, Global, refl, sym, ap, subst, ◌∙◌, arith}
use Rattle.std.proofs.lemmas.List.{drop_more, drop_all, get_or_default}
use Rattle.pgw_meta.specs.Known.{Key}
use Rattle.pgw_meta.specs.Keys.{owned_key}
use Rattle.pgw_meta.specs.Types.{shape, shapes, column_shapes, types_of}
use Rattle.pgw_meta.specs.Needs.{NeededKey, needed_key, needed_keys, joined, with_need, with_needs, oid_needs, field_needs, components_needs}
use Rattle.pgw_meta.specs.NeedPlaces.{IsNewKey, IsFirstPlace}
use Rattle.pgw_meta.specs.declared.needs.Need.{Need}
use Rattle.pgw_meta.specs.declared.types.TypeList.{TypeList}
use Rattle.pgw_meta.specs.declared.types.PgType.{PgType, Array, Record}
use Rattle.pgw_meta.proofs.Views.{shape_record}

pub with_needs-append : (ns us vs : List NeededKey) → with_needs ns (us ++ vs) ≡ with_needs (with_needs ns us) vs
with_needs-append ns [] vs = refl
with_needs-append ns (u ∷ us) vs = with_needs-append (with_need ns u) us vs

-- A component's oid, the component and the components behind it.
pub components_more : (ns : List NeededKey) (ts : List PgType) (i : ℕ) (t : PgType) → i < length ts → t ≡ get_or ts i t
    → with_needs ns (components_needs (shapes (drop i ts)))
    ≡ with_needs (with_needs (with_needs ns (oid_needs (shape t))) (field_needs (shape t))) (components_needs (shapes (drop (i + 1) ts)))
components_more ns ts i t lt is =
    let rest = components_needs (shapes (drop (i + 1) ts)) in
    ap (λ us. with_needs ns (components_needs (shapes us))) (drop_more ts i t lt)
    ∙ ap (λ (u : PgType). with_needs ns (oid_needs (shape u) ++ field_needs (shape u) ++ rest)) (sym is)
    ∙ with_needs-append ns (oid_needs (shape t) ++ field_needs (shape t)) rest
    ∙ ap (λ ms. with_needs ms rest) (with_needs-append ns (oid_needs (shape t)) (field_needs (shape t)))

pub components_done : (ns : List NeededKey) (ts : List PgType) (i : ℕ) → length ts ≤ i → with_needs ns (components_needs (shapes (drop i ts))) ≡ ns
components_done ns ts i le = ap (λ us. with_needs ns (components_needs (shapes us))) (drop_all i ts le)

-- A record needs what its components do.
pub record_needs : (ns ms : List NeededKey) (t : PgType) (l : TypeList) (ts : List PgType) → t ≡ Record l → ts ≡ types_of l
    → ms ≡ with_needs ns (components_needs (shapes ts)) → ms ≡ with_needs ns (field_needs (shape t))
record_needs ns ms t l ts is same e =
    e ∙ ap (λ us. with_needs ns (components_needs (shapes us))) same
    ∙ sym (ap (λ u. with_needs ns (field_needs u)) (ap shape is ∙ shape_record l))

-- An array needs the oid of its elements, and what each of them does.
pub array_needs : (ns ms ls : List NeededKey) (t : PgType) (x : Box PgType Global) → t ≡ Array x
    → ms ≡ with_needs ns (oid_needs (shape x.value)) → ls ≡ with_needs ms (field_needs (shape x.value)) → ls ≡ with_needs ns (field_needs (shape t))
array_needs ns ms ls t x is of_oid of_element =
    of_element ∙ ap (λ ks. with_needs ks (field_needs (shape x.value))) of_oid
    ∙ sym (with_needs-append ns (oid_needs (shape x.value)) (field_needs (shape x.value)))
    ∙ ap (λ (u : PgType). with_needs ns (field_needs (shape u))) (sym is)

-- A column and the columns behind it.
pub columns_more : (ns : List NeededKey) (ts : List PgType) (i : ℕ) (t : PgType) → i < length ts → t ≡ get_or ts i t
    → with_needs ns (flat_map field_needs (column_shapes (drop i ts)))
    ≡ with_needs (with_needs ns (field_needs (shape t))) (flat_map field_needs (column_shapes (drop (i + 1) ts)))
columns_more ns ts i t lt is =
    let rest = flat_map field_needs (column_shapes (drop (i + 1) ts)) in
    ap (λ us. with_needs ns (flat_map field_needs (column_shapes us))) (drop_more ts i t lt)
    ∙ ap (λ (u : PgType). with_needs ns (field_needs (shape u) ++ rest)) (sym is)
    ∙ with_needs-append ns (field_needs (shape t)) rest

pub columns_done : (ns : List NeededKey) (ts : List PgType) (i : ℕ) → length ts ≤ i → with_needs ns (flat_map field_needs (column_shapes (drop i ts))) ≡ ns
columns_done ns ts i le = ap (λ us. with_needs ns (flat_map field_needs (column_shapes us))) (drop_all i ts le)

-- A need of a new key stands behind all others.
pub with_new_need : (ns : List Need) (m : Need) → IsNewKey ns (owned_key m.key) (length ns) → needed_keys (ns ++ m ∷ []) ≡ with_need (needed_keys ns) (needed_key m)
with_new_need [] m new = refl
with_new_need (n ∷ ns) m new =
    ap (◌∷◌ (needed_key n)) (with_new_need ns m (λ i d lt. new (suc i) d (omega (arith, lt))))
    ∙ ap (λ (b : Bool). cond b (joined (needed_key n) (needed_key m) ∷ needed_keys ns) (needed_key n ∷ with_need (needed_keys ns) (needed_key m))) (sym (new 0 n (omega arith)))

-- A need of a key that stands there is joined at the key's first place.
pub with_old_need : (ns : List Need) (m : NeededKey) (i : ℕ) (n : Need) → IsFirstPlace ns m.key i → needed_key n ≡ joined (needed_key (get_or ns i n)) m → needed_keys (set ns i n) ≡ with_need (needed_keys ns) m
with_old_need [] m i n place is = absurd (let w = place.within in omega (arith, w))
with_old_need (x ∷ ns) m zero n place is =
    ap (λ k. k ∷ needed_keys ns) is
    ∙ ap (λ (b : Bool). cond b (joined (needed_key x) m ∷ needed_keys ns) (needed_key x ∷ with_need (needed_keys ns) m)) (sym (place.has n))
with_old_need (x ∷ ns) m (suc i) n place is =
    let tail : IsFirstPlace ns m.key i = record {
      within = let w = place.within in omega (arith, w);
      has = place.has;
      first = λ j d lt. place.first (suc j) d (omega (arith, lt));
    } in
    ap (◌∷◌ (needed_key x)) (with_old_need ns m i n tail is)
    ∙ ap (λ (b : Bool). cond b (joined (needed_key x) m ∷ needed_keys ns) (needed_key x ∷ with_need (needed_keys ns) m)) (sym (place.first 0 n (omega arith)))

-- The same as code meets them, with the need that is read at the place, and the list and the key under names of their own.
pub add_new : (ns xs all : List Need) (m : Need) (k : Key) (u : NeededKey) → xs ≡ ns → k ≡ u.key → IsNewKey xs k (length xs) → needed_key m ≡ u → ns ≡ all
    → needed_keys (ns ++ m ∷ []) ≡ with_need (needed_keys all) u
add_new ns xs all m k u same key new is whole =
    let here : IsNewKey ns (owned_key m.key) (length ns) = subst (λ (j : Key). IsNewKey ns j (length ns)) (key ∙ ap (λ (n : NeededKey). n.key) (sym is)) (subst (λ (ys : List Need). IsNewKey ys k (length ys)) same new) in
    with_new_need ns m here ∙ ap (with_need (needed_keys ns)) is ∙ ap (λ (ys : List Need). with_need (needed_keys ys) u) whole

pub add_old : (ns xs all : List Need) (i : ℕ) (r n : Need) (k : Key) (u : NeededKey) → xs ≡ ns → k ≡ u.key → IsFirstPlace xs k i → r ≡ get_or ns i r → needed_key n ≡ joined (needed_key r) u → ns ≡ all
    → needed_keys (set ns i n) ≡ with_need (needed_keys all) u
add_old ns xs all i r n k u same key place read is whole =
    let here : IsFirstPlace ns u.key i = subst (λ (j : Key). IsFirstPlace ns j i) key (subst (λ (ys : List Need). IsFirstPlace ys k i) same place) in
    with_old_need ns u i n here (is ∙ ap (λ (m : Need). joined (needed_key m) u) (read ∙ get_or_default ns i r n here.within))
    ∙ ap (λ (ys : List Need). with_need (needed_keys ys) u) whole
