-- Rows are written alike by the oids that were found and by those that are known, where what the columns need was found.
use Rattle.std.proofs.Common.{◌≡◌, ◌⊎◌, ℕ, List, [], ◌∷◌, ◌++◌, length, flat_map, Some, Result, Ok, Err, Bool, true, false, refl, sym, ap, subst, ◌∙◌, inl, inr}
use Rattle.std.proofs.lemmas.Bool.{false≢true}
use Rattle.std.specs.Prelude.{IfOk}
use Rattle.std.specs.List.{AllByRecursion}
use Rattle.std.specs.Option.{unwrap_or}
use Rattle.pgw_meta.specs.Known.{Key, Known}
use Rattle.pgw_meta.specs.Keys.{owned_key}
use Rattle.pgw_meta.specs.Needs.{NeededKey, is_same_key, joined, with_need, with_needs, oid_needs, array_oid_needs, field_needs, needs_of}
use Rattle.pgw_meta.specs.NamedOids.{known_of, no_oids, oids_of}
use Rattle.pgw_meta.specs.Shape.{Shape, scalar, nullable, array, range, multirange, composite, named}
use Rattle.pgw_meta.specs.declared.found_oids.Found.{Found}
use Rattle.pgw_meta.proofs.SameKeys.{is_same_key-Decides}
use Rattle.pgw_cell.specs.Value.{Value}
use Rattle.pgw_cell.specs.Nulls.{cell_by}
use Rattle.pgw_cell.specs.Arrays.{array_piece}
use Rattle.pgw_cell.specs.Pieces.{canonical_piece}
use Rattle.pgw_tree.specs.Canonical.{canonical_cells, canonical_row, canonical_front}
use Rattle.pgw_tree.specs.Lookups.{IsLookupFault, AreFound}
use Rattle.pgw_copy.specs.Format.{canonical_header}
use Rattle.std.specs.Int.{to_be_bytes, w16}
use Rattle.pgw_wire.specs.Cell.{frame}
use Rattle.pgw_wire.specs.Outside.{SourceState, Took}
use Rattle.pgw_tree.specs.Limits.{Limits}
use Rattle.pgw_tree.specs.Causes.{Form, IsCopied, rows_say, fault_says, copy_says}
use Rattle.pgw_tree.specs.declared.fault.CopyFault.{CopyFault}

-- Of the keys of needs both know the same.
abbrev Agree : Known → Known → List NeededKey → Type 0
Agree a b ns = AllByRecursion (λ (n : NeededKey). a n.key ≡ b n.key) ns

front_agrees : (a b : Known) (ns ms : List NeededKey) → Agree a b (ns ++ ms) → Agree a b ns
front_agrees a b [] ms h = tt
front_agrees a b (n ∷ ns) ms h = (h.0, front_agrees a b ns ms h.1)

back_agrees : (a b : Known) (ns ms : List NeededKey) → Agree a b (ns ++ ms) → Agree a b ms
back_agrees a b [] ms h = h
back_agrees a b (n ∷ ns) ms h = back_agrees a b ns ms h.1

array_oid_same : (a b : Known) (t : Shape) → Agree a b (array_oid_needs t) → (oids_of a t).array_oid ≡ (oids_of b t).array_oid
array_oid_same a b (scalar s) h = refl
array_oid_same a b (nullable t) h = array_oid_same a b t h
array_oid_same a b (array t) h = refl
array_oid_same a b (range t) h = refl
array_oid_same a b (multirange t) h = refl
array_oid_same a b (composite ts) h = refl
array_oid_same a b (named k t) h = ap (λ r. (unwrap_or r no_oids).array_oid) h.0

oid_same : (a b : Known) (t : Shape) → Agree a b (oid_needs t) → (oids_of a t).oid ≡ (oids_of b t).oid
oid_same a b (scalar s) h = refl
oid_same a b (nullable t) h = oid_same a b t h
oid_same a b (array t) h = array_oid_same a b t h
oid_same a b (range t) h = refl
oid_same a b (multirange t) h = refl
oid_same a b (composite ts) h = refl
oid_same a b (named k t) h = ap (λ r. (unwrap_or r no_oids).oid) h.0

piece_same : (a b : Known) (t : Shape) → Agree a b (field_needs t) → canonical_piece a t ≡ canonical_piece b t
piece_same a b (scalar s) h = refl
piece_same a b (nullable t) h = piece_same a b t h
piece_same a b (array t) h =
    let oid = oid_same a b t (front_agrees a b (oid_needs t) (field_needs t) h) in
    let piece = piece_same a b t (back_agrees a b (oid_needs t) (field_needs t) h) in
    λ i. array_piece (oid i) (cell_by (piece i))
piece_same a b (range t) h = refl
piece_same a b (multirange t) h = refl
piece_same a b (composite ts) h = refl
piece_same a b (named k t) h = piece_same a b t h

cells_same : (a b : Known) (ts : List Shape) (vs : List Value) → Agree a b (flat_map field_needs ts) → canonical_cells a ts vs ≡ canonical_cells b ts vs
cells_same a b [] vs h = refl
cells_same a b (t ∷ ts) [] h = refl
cells_same a b (t ∷ ts) (v ∷ vs) h =
    let piece = piece_same a b t (front_agrees a b (field_needs t) (flat_map field_needs ts) h) in
    let rest = cells_same a b ts vs (back_agrees a b (field_needs t) (flat_map field_needs ts) h) in
    λ i. cell_by (piece i) v ∷ rest i

-- What holds of the keys of joined needs, holds of the keys of each.
need_has : (P : Key → Type 0) (ns : List NeededKey) (m : NeededKey) → AllByRecursion (λ (n : NeededKey). P n.key) (with_need ns m) → AllByRecursion (λ (n : NeededKey). P n.key) ns × P m.key
need_has P [] m h = (tt, h.0)
need_has P (n ∷ ns) m h = by (is_same_key n.key m.key) refl (need_has P ns m)
  where
    by : (b : Bool) → is_same_key n.key m.key ≡ b → (AllByRecursion (λ (n : NeededKey). P n.key) (with_need ns m) → AllByRecursion (λ (n : NeededKey). P n.key) ns × P m.key) → AllByRecursion (λ (n : NeededKey). P n.key) (n ∷ ns) × P m.key
    by true is more =
        let all : AllByRecursion (λ (n : NeededKey). P n.key) (joined n m ∷ ns) = rw is at h in
        (all, subst P ((is_same_key-Decides n.key m.key).0 is) all.0)
    by false is more =
        let all : AllByRecursion (λ (n : NeededKey). P n.key) (n ∷ with_need ns m) = rw is at h in
        let rest = more all.1 in
        ((all.0, rest.0), rest.1)

needs_have : (P : Key → Type 0) (ns ms : List NeededKey) → AllByRecursion (λ (n : NeededKey). P n.key) (with_needs ns ms) → AllByRecursion (λ (n : NeededKey). P n.key) ns × AllByRecursion (λ (n : NeededKey). P n.key) ms
needs_have P ns [] h = (h, tt)
needs_have P ns (m ∷ ms) h =
    let more = needs_have P (with_need ns m) ms h in
    let one = need_has P ns m more.0 in
    (one.0, (one.1, more.1))

-- one of the needs has this key
abbrev HasKey : Key → List NeededKey → Type 0
HasKey key [] = ⊥
HasKey key (n ∷ ns) = (n.key ≡ key) ⊎ HasKey key ns

found_same : (k : Known) (ns : List NeededKey) (fs : List Found) → AreFound (Some k) ns fs → (key : Key) → HasKey key ns → known_of fs key ≡ k key
found_same k [] fs are key has = absurd has
found_same k (n ∷ ns) [] are key has = absurd are
found_same k (n ∷ ns) (f ∷ fs) are key has = by (is_same_key (owned_key f.key) key) refl (found_same k ns fs are.1 key)
  where
    other : is_same_key (owned_key f.key) key ≡ false → HasKey key (n ∷ ns) → HasKey key ns
    other is (inl here) = absurd (false≢true (sym is ∙ (is_same_key-Decides (owned_key f.key) key).1 (are.0.key ∙ here)))
    other is (inr there) = there

    by : (b : Bool) → is_same_key (owned_key f.key) key ≡ b → (HasKey key ns → known_of fs key ≡ k key) → known_of (f ∷ fs) key ≡ k key
    by true is more = rw is (sym (are.0.is_known k refl) ∙ ap k (sym are.0.key ∙ (is_same_key-Decides (owned_key f.key) key).0 is))
    by false is more = rw is (more (other is has))

all_have : (P : Key → Type 0) (ns : List NeededKey) → ((key : Key) → HasKey key ns → P key) → AllByRecursion (λ (n : NeededKey). P n.key) ns
all_have P [] h = tt
all_have P (n ∷ ns) h = (h n.key (inl refl), all_have P ns (λ key has. h key (inr has)))

found_agrees : (k : Known) (ts : List Shape) (fs : List Found) → AreFound (Some k) (needs_of ts) fs → Agree (known_of fs) k (flat_map field_needs ts)
found_agrees k ts fs are =
    (needs_have (λ key. known_of fs key ≡ k key) [] (flat_map field_needs ts) (all_have (λ key. known_of fs key ≡ k key) (needs_of ts) (found_same k (needs_of ts) fs are))).1

row_same : (a b : Known) (ts : List Shape) (vs : List Value) → Agree a b (flat_map field_needs ts) → canonical_row a ts vs ≡ canonical_row b ts vs
row_same a b ts vs h = ap (λ cells. to_be_bytes w16 (length ts) ++ flat_map frame cells) (cells_same a b ts vs h)

pub rows_same : (k : Known) (ts : List Shape) (fs : List Found) → AreFound (Some k) (needs_of ts) fs → canonical_front (known_of fs) ts ≡ canonical_front k ts
rows_same k ts fs are =
    let agrees = found_agrees k ts fs are in
    λ i rows. canonical_header ++ flat_map (λ vs. row_same (known_of fs) k ts vs agrees i) rows

-- So a fault of a copy whose rows go by what was found, is one whose rows go by what is known.
pub says_by_known : (limits : Limits) (fault : CopyFault) (Written : List ℕ → Type 0) (taken : List ℕ) (k : Known) (ts : List Shape) → copy_says limits ts (AreFound (Some k) (needs_of ts)) (λ found. canonical_front (known_of found) ts) fault Written taken
    → (IsLookupFault fault × (taken ≡ []) × Written []) ⊎ fault_says limits ts (canonical_front k ts) fault Written taken
says_by_known limits fault Written taken k ts (inl h) = inl h
says_by_known limits fault Written taken k ts (inr (inl h)) = inr (inl h)
says_by_known limits fault Written taken k ts (inr (inr (found, are, h))) = inr (inr (subst (λ (form : Form). rows_say limits ts form fault Written taken) (rows_same k ts found are) h))

pub copied_by_known : {S X E : Type 0} (W : List ℕ → Type 0) (limits : Limits) (a b : SourceState S) (k : Known) (ts : List Shape) (found : X → List Found) (rows : X → ℕ) (r : Result X E) → IfOk r (λ x. AreFound (Some k) (needs_of ts) (found x))
    → IfOk r (λ x. Took a b (IsCopied limits ts (canonical_front (known_of (found x)) ts) (rows x) W)) → IfOk r (λ x. Took a b (IsCopied limits ts (canonical_front k ts) (rows x) W))
copied_by_known W limits a b k ts found rows (Ok x) are h = subst (λ (form : Form). Took a b (IsCopied limits ts form (rows x) W)) (rows_same k ts (found x) are) h
copied_by_known W limits a b k ts found rows (Err e) are h = tt
