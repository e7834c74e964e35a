-- What is known of a type that is none of some kinds.
use Rattle.std.proofs.Common.{◌≡◌, false, [], Box, Global, refl, sym, subst, ◌∙◌}
use denote.Hole.Carrier.{roll}
use Rattle.pgw_meta.specs.Types.{shape}
use Rattle.pgw_meta.specs.Needs.{oid_needs, array_oid_needs}
use Rattle.pgw_meta.specs.NamedOids.{no_oids, range_oids, multirange_oids}
use Rattle.pgw_meta.specs.Schema.{is_nullable, is_array, without_null, has_ranges, may_be_named}
use Rattle.pgw_meta.specs.declared.key.TypeKey.{TypeKey}
use Rattle.pgw_meta.specs.declared.types.TypeList.{TypeList}
use Rattle.pgw_meta.specs.declared.types.PgType.{PgType, Nullable, Array, Record, Named, PgType-F, out-PgType, roll-PgType, roll-out-PgType}
use Rattle.pgw_meta.specs.declared.types.PgType.TheOpen.{Text as text_layer, Record as record_layer}
use Rattle.pgw_meta.specs.declared.types.PgType.TheVariants.{Int4, Int8, Numeric, Date, Timestamp, Timestamptz, Text, Nullable', Array', Named', rolls-Record}

abbrev boxed : Box (Unit {0}) Global → PgType → Box PgType Global
boxed p t = record { ptr = p.ptr; alloc = p.alloc; value = t }

pub not_nullable : (t : PgType) → ((x : Box PgType Global) → t ≡ Nullable x → ⊥) → false ≡ is_nullable (shape t)
not_nullable (Nullable' p u) h = absurd (h (boxed p u) refl)
not_nullable _ h = refl

pub not_array : (t : PgType) → ((x : Box PgType Global) → t ≡ Array x → ⊥) → false ≡ is_array (shape t)
not_array (Array' p u) h = absurd (h (boxed p u) refl)
not_array _ h = refl

pub no_null_around : (t : PgType) → ((x : Box PgType Global) → t ≡ Nullable x → ⊥) → without_null (shape t) ≡ shape t
no_null_around (Nullable' p u) h = absurd (h (boxed p u) refl)
no_null_around _ h = refl

pub needs_no_array_oid : (t : PgType) → ((x : Box PgType Global) → t ≡ Nullable x → ⊥) → ((k : TypeKey) (x : Box PgType Global) → t ≡ Named k x → ⊥) → [] ≡ array_oid_needs (shape t)
needs_no_array_oid (Nullable' p u) a b = absurd (a (boxed p u) refl)
needs_no_array_oid (Named' k p u) a b = absurd (b k (boxed p u) refl)
needs_no_array_oid _ a b = refl

pub needs_no_oid : (t : PgType) → ((x : Box PgType Global) → t ≡ Nullable x → ⊥) → ((x : Box PgType Global) → t ≡ Array x → ⊥) → ((k : TypeKey) (x : Box PgType Global) → t ≡ Named k x → ⊥) → [] ≡ oid_needs (shape t)
needs_no_oid (Nullable' p u) a b c = absurd (a (boxed p u) refl)
needs_no_oid (Array' p u) a b c = absurd (b (boxed p u) refl)
needs_no_oid (Named' k p u) a b c = absurd (c k (boxed p u) refl)
needs_no_oid _ a b c = refl

pub no_ranges : (t : PgType) → (t ≡ Int4 → ⊥) → (t ≡ Int8 → ⊥) → (t ≡ Numeric → ⊥) → (t ≡ Date → ⊥) → (t ≡ Timestamp → ⊥) → (t ≡ Timestamptz → ⊥)
    → (false ≡ has_ranges (shape t)) × (no_oids ≡ range_oids (shape t)) × (no_oids ≡ multirange_oids (shape t))
no_ranges Int4 a b c d e f = absurd (a refl)
no_ranges Int8 a b c d e f = absurd (b refl)
no_ranges Numeric a b c d e f = absurd (c refl)
no_ranges Date a b c d e f = absurd (d refl)
no_ranges Timestamp a b c d e f = absurd (e refl)
no_ranges Timestamptz a b c d e f = absurd (f refl)
no_ranges _ a b c d e f = (refl, refl, refl)

-- the same by the type's outermost layer, of which the type is made
by_layer : (t : PgType) (u : PgType-F PgType TypeList) → roll-PgType u ≡ t → (t ≡ Text → ⊥) → ((x : TypeList) → t ≡ Record x → ⊥) → false ≡ may_be_named (shape t)
unfolding roll-PgType roll
by_layer t text_layer e a b = absurd (a (sym e))
by_layer t (record_layer x) e a b = absurd (b x (sym e ∙ rolls-Record x))
by_layer t u e a b = subst (λ (v : PgType). false ≡ may_be_named (shape v)) e refl

pub not_to_be_named : (t : PgType) → (t ≡ Text → ⊥) → ((x : TypeList) → t ≡ Record x → ⊥) → false ≡ may_be_named (shape t)
not_to_be_named t a b = by_layer t (out-PgType t) (roll-out-PgType t) a b
