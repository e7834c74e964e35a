-- What a fault of the needs, which are looked up first, says of the copy.
use Rattle.std.proofs.Common.{◌≡◌, ◌⊎◌, ℕ, List, [], ◌∷◌, Option, Some, Result, Err, refl, sym, ap, subst, ◌∙◌, inl, inr}
use Rattle.std.specs.Prelude.{IsErrAnd}
use Rattle.std.proofs.lemmas.Option.{none-some}
use Rattle.pgw_wire.specs.Outside.{SinkState, Wrote}
use Rattle.pgw_wire.proofs.Adding.{wrote_none}
use Rattle.pgw_meta.specs.Known.{Key, Known, LookupState}
use Rattle.pgw_meta.specs.Keys.{owned_key}
use Rattle.pgw_meta.specs.Needs.{NeededKey}
use Rattle.pgw_meta.specs.Shape.{Shape}
use Rattle.pgw_meta.specs.declared.found_oids.Found.{Found}
use Rattle.pgw_meta.specs.declared.key.TypeKey.{TypeKey}
use Rattle.pgw_tree.specs.Limits.{Limits}
use Rattle.pgw_tree.specs.Causes.{Form, HeaderCause, bad_header, bad_flags, truncated_header, read_fault_in_header, no_memory_at_first, RowCause, truncated, bad_field_count, unexpected_end_of_row, bad_value, too_long, row_limit, read_fault, no_memory as no_memory_left, fault_says, copy_says}
use Rattle.pgw_tree.specs.Lookups.{first_unmet, IsFirstUnmet, AreMet, HasFailedAsked, IsLookupFault, IsUnknownType, LookupCause, unknown_type, lookup_fault, no_memory}
use Rattle.pgw_tree.specs.declared.fault.CopyFault.{CopyFault}
use Rattle.pgw_tree.specs.declared.fault.CopyFault.TheVariants.{UnknownType, LookupFault, NoMemory, Truncated, ReadFault, WriteFault}

-- Nothing was taken or written where the needs were not found.
pub cause_says : {First : Key → Type 0} {Failed O : Type 0} (limits : Limits) (ts : List Shape) (Finds : List Found → Type 0) (form : List Found → Form) (e : CopyFault) (s : SinkState O) → LookupCause First Failed e → copy_says limits ts Finds form e (Wrote s s) []
cause_says limits ts Finds form e s (unknown_type key is first) = inl (subst IsLookupFault (sym is) tt, refl, wrote_none s)
cause_says limits ts Finds form e s (lookup_fault is failed) = inl (subst IsLookupFault (sym is) tt, refl, wrote_none s)
cause_says limits ts Finds form e s (no_memory is) = inr (inl (no_memory_at_first is refl, wrote_none s))

-- Such a fault is none of the stream's.
pub cause_not_cut : {First : Key → Type 0} {Failed : Type 0} {e : CopyFault} → LookupCause First Failed e → e ≡ Truncated → ⊥
cause_not_cut (unknown_type key is first) e = absurd (cc)
cause_not_cut (lookup_fault is failed) e = absurd (cc)
cause_not_cut (no_memory is) e = absurd (cc)

pub cause_not_unread : {First : Key → Type 0} {Failed : Type 0} {e : CopyFault} → LookupCause First Failed e → e ≡ ReadFault → ⊥
cause_not_unread (unknown_type key is first) e = absurd (cc)
cause_not_unread (lookup_fault is failed) e = absurd (cc)
cause_not_unread (no_memory is) e = absurd (cc)

pub cause_not_unwritten : {First : Key → Type 0} {Failed : Type 0} {e : CopyFault} → LookupCause First Failed e → e ≡ WriteFault → ⊥
cause_not_unwritten (unknown_type key is first) e = absurd (cc)
cause_not_unwritten (lookup_fault is failed) e = absurd (cc)
cause_not_unwritten (no_memory is) e = absurd (cc)

pub cause_unknown : {First : Key → Type 0} {Failed : Type 0} {e : CopyFault} → LookupCause First Failed e → (key : TypeKey) → e ≡ UnknownType key → First (owned_key key)
cause_unknown {First = First} (unknown_type k is first) key e = let same : k ≡ key = cc in subst (λ (j : TypeKey). First (owned_key j)) same first
cause_unknown (lookup_fault is failed) key e = absurd (cc)
cause_unknown (no_memory is) key e = absurd (cc)

pub cause_failed : {First : Key → Type 0} {Failed : Type 0} {e : CopyFault} → LookupCause First Failed e → e ≡ LookupFault → Failed
cause_failed (unknown_type k is first) e = absurd (cc)
cause_failed (lookup_fault is failed) e = failed
cause_failed (no_memory is) e = absurd (cc)

-- The first need that is not met is the answer, unless the lookup failed or memory ran out.
pub cause_unmet : {X : Type 0} {told : Option Known} {Failed : Type 0} {e : CopyFault} (needs : List NeededKey) (r : Result X CopyFault) (k : Known) (key : Key) → r ≡ Err e → LookupCause (IsFirstUnmet told needs) Failed e
    → told ≡ Some k → first_unmet k needs ≡ Some key → (Failed → ⊥) → IsUnknownType r key ⊎ (r ≡ Err NoMemory)
cause_unmet {X = X} needs r k key is (unknown_type own same first) told unmet well =
    let both : Some (owned_key own) ≡ Some key = sym (first k told) ∙ unmet in
    let here : owned_key own ≡ key = cc in
    inl (subst (λ (s : Result X CopyFault). IsUnknownType s key) (sym (is ∙ ap Err same)) here)
cause_unmet needs r k key is (lookup_fault same failed) told unmet well = absurd (well failed)
cause_unmet needs r k key is (no_memory same) told unmet well = inr (is ∙ ap Err same)

-- Where each need is met and the lookup did not fail, no fault is one of the lookup.
pub cause_met : {told : Option Known} {e : CopyFault} (a b : LookupState) (needs : List NeededKey) → (needs ≡ [] → ⊥) → LookupCause (IsFirstUnmet told needs) (HasFailedAsked needs a b) e
    → AreMet told needs → (HasFailedAsked needs a b → ⊥) → IsLookupFault e → ⊥
cause_met a b [] some cause met well is = some refl
cause_met a b (n ∷ ns) some (unknown_type key same first) met well is = none-some (owned_key key) (sym met.2 ∙ first met.0 met.1)
cause_met a b (n ∷ ns) some (lookup_fault same failed) met well is = well failed
cause_met a b (n ∷ ns) some (no_memory same) met well is = subst IsLookupFault same is

header_not_lookup : {fault : CopyFault} {bytes : List ℕ} → HeaderCause fault bytes → IsLookupFault fault → ⊥
header_not_lookup (bad_header is bad) l = subst IsLookupFault is l
header_not_lookup (bad_flags flags is high) l = subst IsLookupFault is l
header_not_lookup (truncated_header is cut) l = subst IsLookupFault is l
header_not_lookup (read_fault_in_header is cut) l = subst IsLookupFault is l
header_not_lookup (no_memory_at_first is none) l = subst IsLookupFault is l

row_not_lookup : {limits : Limits} {ts : List Shape} {before : ℕ} {fault : CopyFault} {bytes : List ℕ} → RowCause limits ts before fault bytes → IsLookupFault fault → ⊥
row_not_lookup (truncated is cut) l = subst IsLookupFault is l
row_not_lookup (bad_field_count count is bad) l = subst IsLookupFault is l
row_not_lookup (unexpected_end_of_row cells is row few) l = subst IsLookupFault is l
row_not_lookup (bad_value cells column kind is row breaks) l = subst IsLookupFault is l
row_not_lookup (too_long cells column is row long) l = subst IsLookupFault is l
row_not_lookup (row_limit count is count_is full) l = subst IsLookupFault is l
row_not_lookup (read_fault is cut) l = subst IsLookupFault is l
row_not_lookup (no_memory_left is allowed part) l = subst IsLookupFault is l

-- A fault of the stream is none of the lookup.
pub says_not_lookup : {limits : Limits} {ts : List Shape} {form : Form} {fault : CopyFault} {Written : List ℕ → Type 0} {taken : List ℕ} → fault_says limits ts form fault Written taken → IsLookupFault fault → ⊥
says_not_lookup (inl h) l = header_not_lookup h.0 l
says_not_lookup (inr (inl s)) l = row_not_lookup s.cause l
says_not_lookup (inr (inr w)) l = subst IsLookupFault w.0 l

-- An answer that is a fault of the lookup, and one that is none.
pub lookup_answer : {X : Type 0} (r : Result X CopyFault) (e : CopyFault) → r ≡ Err e → IsLookupFault e → IsErrAnd r IsLookupFault
lookup_answer {X = X} r e is l = subst (λ (s : Result X CopyFault). IsErrAnd s IsLookupFault) (sym is) l

pub no_lookup_answer : {X : Type 0} {limits : Limits} {ts : List Shape} {form : Form} {fault : CopyFault} {Written : List ℕ → Type 0} {taken : List ℕ} (r : Result X CopyFault) → fault_says limits ts form fault Written taken → r ≡ Err fault → IsErrAnd r IsLookupFault → ⊥
no_lookup_answer {X = X} r says is l = says_not_lookup says (subst (λ (s : Result X CopyFault). IsErrAnd s IsLookupFault) is l)

-- A fault of the stream, whose rows are written by what was found, is one of the copy.
pub found_says : {limits : Limits} {ts : List Shape} {Finds : List Found → Type 0} {form : List Found → Form} {fault : CopyFault} {Written : List ℕ → Type 0} {taken : List ℕ} (found : List Found) → Finds found → fault_says limits ts (form found) fault Written taken → copy_says limits ts Finds form fault Written taken
found_says found finds (inl h) = inr (inl h)
found_says found finds (inr s) = inr (inr (found, finds, s))
