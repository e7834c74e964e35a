-- What the lookup of a run knows, that it does not fail, and what that says of the faults of a copy.
use Rattle.std.proofs.Common.{◌≡◌, codes, ◌⊎◌, ℕ, ◌<◌, suc, List, [], ◌∷◌, ◌++◌, take, drop, get_or, length, Option, None, Some, Result, Err, IsSome, is_some, true, Bor, refl, sym, ap, ◌∙◌, subst, inl, inr, arith}
use Rattle.std.proofs.Math.Seq.{split_at}
use Rattle.std.proofs.lemmas.Bool.{false≢true}
use Rattle.std.proofs.lemmas.Option.{none-some}
use Rattle.std.specs.List.{AllByRecursion, AllZip}
use Rattle.std.specs.Option.{option_or, unwrap_or}
use Rattle.pgw_wire.specs.Outside.{SourceState, SinkState}
use Rattle.pgw_wire.specs.Memory.{no_calls}
use Rattle.pgw_meta.specs.Known.{Key, Known, LookupState, known}
use Rattle.pgw_meta.specs.Keys.{owned_key, text_of}
use Rattle.pgw_meta.specs.Needs.{NeededKey}
use Rattle.pgw_meta.specs.NamedOids.{known_of}
use Rattle.pgw_meta.specs.Catalog.{Catalog, in_schema, oids_in, catalog_known, catalog_state, never_fails, no_faults}
use Rattle.pgw_meta.specs.declared.found_oids.Found.{Found}
use Rattle.pgw_meta.specs.declared.key.TypeKey.{TypeKey}
use Rattle.pgw_tree.specs.Causes.{fault_says}
use Rattle.pgw_tree.specs.Lookups.{first_unmet, AreMet, HasFailedAsked, IsLookupFault, IsUnknownType}
use Rattle.pgw_tree.specs.declared.fault.CopyFault.{CopyFault}
use Rattle.pgw_tree.specs.declared.fault.CopyFault.TheVariants.{BadHeader, BadFlags, Truncated, BadFieldCount, UnexpectedEndOfRow, BadValue, TooLong, RowLimit, UnknownType, LookupFault, ReadFault, WriteFault, NoMemory}
use Rattle.pgcopy.specs.declared.report.Status.TheVariants.{UnknownType as status_unknown_type, NoMemory as status_no_memory}
use Rattle.pgcopy.specs.OidWords.{searched_schema, schema_of, entry_key, AreEntries, SpellsEntry}
use Rattle.pgcopy.specs.Words.{PlanData, IsPlan, named, missing, canonical_rows}
use Rattle.pgcopy.specs.Runs.{run_says, MetFault}
use Rattle.pgcopy.specs.declared.report.Outcome.TheVariants.{Fault}
use Rattle.pgcopy.specs.Report.{fault_status, line_of, unknown_text}
use Rattle.pgcopy.proofs.Entries.{once_at}

-- The entries of a plan may be those of a catalog.
placed : (texts : List (List ℕ)) (entries : List Found) → AllZip SpellsEntry texts entries → AllByRecursion (λ (entry : Found). IsSome entry.key.schema) entries
placed [] [] h = tt
placed [] (entry ∷ entries) h = absurd h
placed (text ∷ texts) [] h = absurd h
placed (text ∷ texts) (entry ∷ entries) h = (ap is_some h.0.in_schema, placed texts entries h.1)

pub plan_entries : (words : List (List ℕ)) (plan : PlanData) → IsPlan words plan → AreEntries plan.entries
plan_entries words plan p = record { placed = placed _ plan.entries p.entries; once = p.once }

placed_at : (front : List Found) (entry : Found) (back : List Found) → AllByRecursion (λ (entry : Found). IsSome entry.key.schema) (front ++ entry ∷ back) → IsSome entry.key.schema
placed_at [] entry back h = h.0
placed_at (e ∷ front) entry back h = placed_at front entry back h.1

said_schema : (r : Option (List ℕ)) → IsSome r → Some (unwrap_or r searched_schema) ≡ r
said_schema None h = absurd (false≢true h)
said_schema (Some schema) h = refl

-- A catalog takes each entry in its turn: the one that is added of its parts is that entry, and none before has its key.
split : (entries : List Found) (i : ℕ) (entry : Found) → i < length entries → entry ≡ get_or entries i entry → entries ≡ take i entries ++ entry ∷ drop (suc i) entries
split entries i entry within is = split_at entries i entry within ∙ ap (λ (e : Found). take i entries ++ e ∷ drop (suc i) entries) (sym is)

entry_whole : (entries : List Found) (i : ℕ) (entry : Found) (schema name : List ℕ) → AreEntries entries → i < length entries → entry ≡ get_or entries i entry → schema ≡ schema_of (owned_key entry.key) → name ≡ entry.key.name
    → record { key = record { schema = Some schema; name = name }; oid = entry.oid; array_oid = entry.array_oid } ≡ entry
entry_whole entries i entry schema name are within is at called =
    let there = split entries i entry within is in
    let said = said_schema entry.key.schema (placed_at (take i entries) entry (drop (suc i) entries) (subst (AllByRecursion (λ (e : Found). IsSome e.key.schema)) there are.placed)) in
    λ k. record { key = record { schema = (ap Some at ∙ said) k; name = called k }; oid = entry.oid; array_oid = entry.array_oid }

pub entry_new : (entries : List Found) (i : ℕ) (entry : Found) (schema name : List ℕ) → AreEntries entries → i < length entries → entry ≡ get_or entries i entry → schema ≡ schema_of (owned_key entry.key) → name ≡ entry.key.name
    → IsSome (known_of (take i entries) (in_schema schema name)) → ⊥
entry_new entries i entry schema name are within is at called some =
    let there = split entries i entry within is in
    let none = once_at (take i entries) entry (drop (suc i) entries) (subst AreEntries there are).once in
    let whole = entry_whole entries i entry schema name are within is at called in
    false≢true (ap is_some (sym (ap (λ (e : Found). known_of (take i entries) (entry_key e)) whole ∙ none)) ∙ some)

or_none : {A : Type 0} (r : Option A) → option_or r None ≡ r
or_none None = refl
or_none (Some x) = refl

-- the schema that a text which may be there says
pub said_text : (text : Option (Bor (List ℕ))) (other : Bor (List ℕ)) → (unwrap_or text other).now ≡ unwrap_or (text_of text) other.now
said_text None other = refl
said_text (Some t) other = refl

-- A catalog of the entries of a plan, with the path `public`, knows what they tell.
known_at : (plan : PlanData) (schema : Option (List ℕ)) (name : List ℕ) → oids_in plan.entries (searched_schema ∷ []) schema name ≡ known_of plan.entries (in_schema (unwrap_or schema searched_schema) name)
known_at plan None name = or_none (known_of plan.entries (in_schema searched_schema name))
known_at plan (Some schema) name = refl

pub told_is : (plan : PlanData) (catalog : Catalog) (entries : List Found) (told : Option Known) → catalog ≡ record { entries = entries; path = searched_schema ∷ []; searches = no_calls [] } → entries ≡ plan.entries
    → told ≡ known (catalog_state catalog) → told ≡ Some (named plan)
told_is plan catalog entries told is same e =
    e ∙ ap (λ (c : Catalog). Some (catalog_known c)) (is ∙ ap (λ (es : List Found). record { entries = es; path = searched_schema ∷ []; searches = no_calls [] }) same)
    ∙ (λ i. Some (λ (key : Key). known_at plan key.schema key.name i))

-- A lookup over a catalog of which no search fails has not failed.
pub never_failed : (needs : List NeededKey) (was now : Catalog) (before after : LookupState) → never_fails was.searches.fails ≡ true → (catalog_state now).told.faultless ≡ (catalog_state was).told.faultless
    → after.fault_count ≡ (catalog_state now).fault_count → HasFailedAsked needs before after → ⊥
never_failed [] was now before after well same counts failed = failed
never_failed (n ∷ needs) was now before after well same counts failed = omega (arith, counts, no_faults now (same ∙ well), failed)

-- Needs of which none is the first that is not met, are met.
pub met_all : (told : Option Known) (k : Known) (needs : List NeededKey) → told ≡ Some k → first_unmet k needs ≡ None → AreMet told needs
met_all told k [] is none = tt
met_all told k (n ∷ needs) is none = (k, is, none)

-- A fault that is none of the lookup is one of the stream.
pub says_of_stream : (plan : PlanData) (fault : CopyFault) {Written : List ℕ → Type 0} {taken : List ℕ} → (IsLookupFault fault → ⊥) → run_says plan fault Written taken → fault_says plan.limits plan.columns (canonical_rows plan) fault Written taken
says_of_stream plan fault other (inl l) = absurd (other l.0)
says_of_stream plan fault other (inr s) = s

-- Where nothing is missing, no fault is one of the lookup.
pub no_lookup : {S K : Type 0} (plan : PlanData) (fault : CopyFault) {a b : SourceState S} {k l : SinkState K} → MetFault plan fault a b k l → missing plan ≡ None → IsLookupFault fault → ⊥
no_lookup plan BadHeader met none h = h
no_lookup plan (BadFlags flags) met none h = h
no_lookup plan Truncated met none h = h
no_lookup plan (BadFieldCount count) met none h = h
no_lookup plan (UnexpectedEndOfRow row) met none h = h
no_lookup plan (BadValue row column kind) met none h = h
no_lookup plan (TooLong row column) met none h = h
no_lookup plan RowLimit met none h = h
no_lookup plan (UnknownType key) met none h = none-some (owned_key key) (sym none ∙ met.is_missing key refl)
no_lookup plan LookupFault met none h = met.looked_up refl
no_lookup plan ReadFault met none h = h
no_lookup plan WriteFault met none h = h
no_lookup plan NoMemory met none h = h

-- The status of a type that is not known comes of such a fault alone.
pub unknown_status : (fault : CopyFault) → fault_status fault ≡ status_unknown_type → (key : TypeKey) × (fault ≡ UnknownType key)
unknown_status BadHeader is = absurd (cc)
unknown_status (BadFlags flags) is = absurd (cc)
unknown_status Truncated is = absurd (cc)
unknown_status (BadFieldCount count) is = absurd (cc)
unknown_status (UnexpectedEndOfRow row) is = absurd (cc)
unknown_status (BadValue row column kind) is = absurd (cc)
unknown_status (TooLong row column) is = absurd (cc)
unknown_status RowLimit is = absurd (cc)
unknown_status (UnknownType key) is = (key, refl)
unknown_status LookupFault is = absurd (cc)
unknown_status ReadFault is = absurd (cc)
unknown_status WriteFault is = absurd (cc)
unknown_status NoMemory is = absurd (cc)

-- A line that tells such a fault names the first type that is missing.
pub unknown_told : {S K : Type 0} (plan : PlanData) (fault : CopyFault) {a b : SourceState S} {k l : SinkState K} (Told : List ℕ → Type 0) → MetFault plan fault a b k l → fault_status fault ≡ status_unknown_type → Told (line_of (Fault fault))
    → (key : Key) × (missing plan ≡ Some key) × Told (unknown_text key ++ codes "\n")
unknown_told plan fault Told met status line =
    let unknown = unknown_status fault status in
    (owned_key unknown.0, met.is_missing unknown.0 unknown.1, subst (λ (f : CopyFault). Told (line_of (Fault f))) unknown.1 line)

-- A copy that answers this key, or that memory is missing, has one of the two statuses.
pub unmet_status : {X : Type 0} (r : Result X CopyFault) (fault : CopyFault) (key : Key) → r ≡ Err fault → IsUnknownType r key ⊎ (r ≡ Err NoMemory) → (fault_status fault ≡ status_unknown_type) ⊎ (fault_status fault ≡ status_no_memory)
unmet_status {X = X} r fault key is (inl unknown) = inl (by fault (subst (λ (s : Result X CopyFault). IsUnknownType s key) is unknown))
  where
    by : (f : CopyFault) → IsUnknownType {T = X} (Err f) key → fault_status f ≡ status_unknown_type
    by (UnknownType k) h = refl
    by BadHeader h = absurd h
    by (BadFlags flags) h = absurd h
    by Truncated h = absurd h
    by (BadFieldCount count) h = absurd h
    by (UnexpectedEndOfRow row) h = absurd h
    by (BadValue row column kind) h = absurd h
    by (TooLong row column) h = absurd h
    by RowLimit h = absurd h
    by LookupFault h = absurd h
    by ReadFault h = absurd h
    by WriteFault h = absurd h
    by NoMemory h = absurd h
unmet_status r fault key is (inr memory) = let same : fault ≡ NoMemory = cc in inr (ap fault_status same)
