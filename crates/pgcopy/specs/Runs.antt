-- What a run of the command `copy` leaves in its source and its sink.
use Rattle.std.specs.Prelude.{◌≡◌, ◌≢◌, ◌⊎◌, ℕ, List, [], Some}
use Rattle.std.specs.Io.KnownBytes.{IsAtEnd}
use Rattle.pgw_wire.specs.Outside.{SourceState, SinkState, left, HasFailed, Took, Wrote, Settled}
use Rattle.pgw_tree.specs.declared.fault.CopyFault.{CopyFault}
use Rattle.pgw_tree.specs.declared.fault.CopyFault.TheVariants.{Truncated, UnknownType, LookupFault, ReadFault, WriteFault}
use Rattle.pgw_tree.specs.Causes.{IsCopied, fault_says}
use Rattle.pgw_tree.specs.Lookups.{IsLookupFault}
use Rattle.pgw_meta.specs.Keys.{owned_key}
use Rattle.pgw_meta.specs.declared.key.TypeKey.{TypeKey}
use Rattle.pgcopy.specs.Words.{PlanData, missing, canonical_rows}

-- The bytes taken are one stream of so many rows of the plan, and the bytes written are the canonical stream of these
-- rows, which is settled.
abbrev pub CopiedRows : {S K : Type 0} → PlanData → ℕ → SourceState S → SourceState S → SinkState K → SinkState K
    → Type 0
CopiedRows plan n source source_now sink sink_now =
    Took source source_now (IsCopied plan.limits plan.columns (canonical_rows plan) n (Settled sink sink_now))

-- What a fault of a run says of the bytes taken and of those written: one of the lookup comes before anything is taken
-- or written, and each other is of the stream.
abbrev pub run_says : PlanData → CopyFault → (List ℕ → Type 0) → List ℕ → Type 0
run_says plan fault Written taken =
    (IsLookupFault fault × (taken ≡ []) × Written [])
    ⊎ fault_says plan.limits plan.columns (canonical_rows plan) fault Written taken

-- What a fault says of the bytes that were taken and of those that were written. A truncated stream was read to its
-- end, and a fault of the source or of the sink comes only where that failed. A type that is not known is the first
-- that is missing, and no lookup fails.
pub record MetFault {S K : Type 0} (plan : PlanData) (fault : CopyFault) (source source_now : SourceState S)
    (sink sink_now : SinkState K) : Type 0 where
  pub says : Took source source_now
      (run_says plan fault (Wrote sink sink_now))
  pub at_end : fault ≡ Truncated → IsAtEnd (left source_now)
  pub source_failed : fault ≡ ReadFault → HasFailed source source_now
  pub sink_failed : fault ≡ WriteFault → HasFailed sink sink_now
  pub is_missing : (key : TypeKey) → fault ≡ UnknownType key → missing plan ≡ Some (owned_key key)
  pub looked_up : fault ≢ LookupFault
