-- What a fault of a copy says of the run that met it.
use Rattle.std.proofs.Common.{◌≡◌, ◌⊎◌, ℕ, Result, Ok, Err, IsOkAnd, refl, sym, ap, ◌∙◌, inl, inr}
use Rattle.std.specs.Prelude.{IsOk, IfOk}
use Rattle.std.specs.Result.{IsOkUnless}
use Rattle.pgw_wire.specs.Outside.{SourceState, SinkState}
use Rattle.pgw_wire.proofs.Taking.{took_none}
use Rattle.pgw_wire.proofs.Adding.{wrote_none}
use Rattle.pgw_tree.specs.declared.fault.CopyFault.{CopyFault}
use Rattle.pgw_tree.specs.declared.fault.CopyFault.TheVariants.{BadHeader, BadFlags, Truncated, BadFieldCount, UnexpectedEndOfRow, BadValue, TooLong, RowLimit, UnknownType, LookupFault, ReadFault, WriteFault, NoMemory}
use Rattle.pgw_tree.specs.Causes.{no_memory_at_first}
use Rattle.pgw_tree.specs.Lookups.{IsLookupFault}
use Rattle.pgcopy.specs.Words.{PlanData, PlacedFault, IsOfAColumn}
use Rattle.pgcopy.specs.Runs.{MetFault}
use Rattle.pgcopy.specs.declared.words.WordFault.{WordFault}
use Rattle.pgcopy.specs.declared.report.Outcome.{Outcome}
use Rattle.pgcopy.specs.declared.report.Outcome.TheVariants.{BadWord, Fault}
use Rattle.pgcopy.specs.declared.report.Status.TheVariants.{Words as status_words, Refused as status_refused, NoMemory as status_no_memory}
use Rattle.pgcopy.specs.Report.{fault_status, status_of}

-- A value has what every value has.
pub ok_and : {X E : Type 0} (r : Result X E) (P : X → Type 0) → IsOk r → ((x : X) → P x) → IsOkAnd r P
ok_and (Ok x) P is p = p x
ok_and (Err e) P is p = absurd (cc)

pub ok_then : {X E : Type 0} (r : Result X E) (P : X → Type 0) → ((x : X) → P x) → IfOk r P
ok_then (Ok x) P p = p x
ok_then (Err e) P p = tt

pub ok_and_map : {X E : Type 0} (r : Result X E) (P Q : X → Type 0) → ((x : X) → P x → Q x) → IsOkAnd r P → IsOkAnd r Q
ok_and_map (Ok x) P Q f p = f x p
ok_and_map (Err e) P Q f p = absurd p

-- A copy that fails at most for want of memory has that status where it fails.
pub status_at_fault : {X : Type 0} (r : Result X CopyFault) (fault : CopyFault) → r ≡ Err fault → IsOkUnless r NoMemory → fault_status fault ≡ status_no_memory
status_at_fault r fault is h = ap fault_status (rw is at h)

-- Where nothing was taken and nothing written, memory may be what was missing.
pub no_memory_met : {S K : Type 0} (plan : PlanData) (source : SourceState S) (sink : SinkState K) → MetFault plan NoMemory source source sink sink
no_memory_met plan source sink = record {
  says = took_none (inr (inl (no_memory_at_first refl refl, wrote_none sink)));
  at_end = λ e. absurd (cc);
  source_failed = λ e. absurd (cc);
  sink_failed = λ e. absurd (cc);
  is_missing = λ key e. absurd (cc);
  looked_up = λ e. absurd (cc);
}

-- A fault that is not the outside's refuses the stream, or memory was missing.
pub refused_at_fault : {F W : Type 0} (fault : CopyFault) → (IsLookupFault fault → ⊥) → (fault ≡ ReadFault → F) → (fault ≡ WriteFault → W) → (F → ⊥) → (W → ⊥) → (fault_status fault ≡ status_refused) ⊎ (fault_status fault ≡ status_no_memory)
refused_at_fault BadHeader found read write reads writes = inl refl
refused_at_fault (BadFlags flags) found read write reads writes = inl refl
refused_at_fault Truncated found read write reads writes = inl refl
refused_at_fault (BadFieldCount count) found read write reads writes = inl refl
refused_at_fault (UnexpectedEndOfRow row) found read write reads writes = inl refl
refused_at_fault (BadValue row column kind) found read write reads writes = inl refl
refused_at_fault (TooLong row column) found read write reads writes = inl refl
refused_at_fault RowLimit found read write reads writes = inl refl
refused_at_fault (UnknownType key) found read write reads writes = absurd (found tt)
refused_at_fault LookupFault found read write reads writes = absurd (found tt)
refused_at_fault ReadFault found read write reads writes = absurd (reads (read refl))
refused_at_fault WriteFault found read write reads writes = absurd (writes (write refl))
refused_at_fault NoMemory found read write reads writes = inr refl

-- What ends with the status of bad words is what is wrong with them, and no want of memory.
pub bad_word_is : (outcome bad : Outcome) (Of : Type 0) → (outcome ≡ bad) ⊎ ((outcome ≡ Fault NoMemory) × Of) → status_of outcome ≡ status_words → outcome ≡ bad
bad_word_is outcome bad Of (inl is) words = is
bad_word_is outcome bad Of (inr memory) words = let no : status_no_memory ≡ status_words = sym (ap status_of memory.0) ∙ words in absurd (cc)

pub status_without_plan : (outcome : Outcome) (wrong : PlacedFault) → (outcome ≡ BadWord wrong.place wrong.fault) ⊎ ((outcome ≡ Fault NoMemory) × IsOfAColumn wrong.fault)
    → (status_of outcome ≡ status_words) ⊎ ((status_of outcome ≡ status_no_memory) × IsOfAColumn wrong.fault)
status_without_plan outcome wrong (inl is) = inl (ap status_of is)
status_without_plan outcome wrong (inr memory) = inr (ap status_of memory.0, memory.1)

pub memory_is : (outcome : Outcome) (place : ℕ) (fault : WordFault) (Of : Type 0) → (outcome ≡ BadWord place fault) ⊎ ((outcome ≡ Fault NoMemory) × Of) → status_of outcome ≡ status_no_memory → outcome ≡ Fault NoMemory
memory_is outcome place fault Of (inl is) memory = let no : status_words ≡ status_no_memory = sym (ap status_of is) ∙ memory in absurd (cc)
memory_is outcome place fault Of (inr is) memory = is.0
