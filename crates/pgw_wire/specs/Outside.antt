-- What is told of an object outside, a source or a sink, at one moment, and what a call leaves of that.
use Rattle.std.specs.Prelude.{ℕ, ◌≡◌, ◌+◌, ◌-◌, ◌^◌, ◌≤◌, ◌==◌, ◌++◌, Bool, true, false, List, length, take, Option, Some, IfSome, option_map, min, if◌then◌else◌, Result, Ok, Err, MatchResult}
use Rattle.std.specs.Io.{StartsWith}
use Rattle.std.specs.Io.KnownBytes.{Appends, Consumes, IsAtEnd}

-- What it tells of its bytes, how many of its calls failed, and on which object it stands. The count stops at the
-- largest u64.
pub record Outside (Told Origin : Type 0) : Type 0 where
  pub told : Told
  pub fault_count : ℕ
  pub origin : Origin

abbrev pub SourceState : Type 0 → Type 0
SourceState Origin = Outside (Option (List ℕ)) Origin

-- the bytes that a source has still to give, where it tells them
abbrev pub left : {Origin : Type 0} → SourceState Origin → Option (List ℕ)
left s = s.told

-- the bytes that a sink got, and whether all that it got is settled, each where it tells that
pub record Gained : Type 0 where
  pub bytes : Option (List ℕ)
  pub settled : Option Bool

abbrev pub SinkState : Type 0 → Type 0
SinkState Origin = Outside Gained Origin

abbrev pub gained : {Origin : Type 0} → SinkState Origin → Option (List ℕ)
gained s = s.told.bytes

abbrev pub settled : {Origin : Type 0} → SinkState Origin → Option Bool
settled s = s.told.settled

-- one more, where the count stops at the largest u64
abbrev pub counted : ℕ → ℕ
counted n = min (n + 1) (2 ^ 64 - 1)

-- A call failed: the count of faults rose in it, or stands at its last value.
abbrev pub HasFailed : {Told Origin : Type 0} → Outside Told Origin → Outside Told Origin → Type 0
HasFailed before now = counted before.fault_count ≤ now.fault_count

-- The count of faults does not fall, and the object stands on what it stood on.
abbrev pub GoesOn : {Told Origin : Type 0} → Outside Told Origin → Outside Told Origin → Type 0
GoesOn before now = (before.fault_count ≤ now.fault_count) × (now.origin ≡ before.origin)

-- whether all that was gained is settled, behind a write that took n bytes: no longer, once it took one
abbrev pub settled_after : ℕ → Option Bool → Option Bool
settled_after n settled = if n == 0 then settled else option_map (λ _. false) settled

-- Of a list that was left, a front with P was taken, and what is told to be left now is the rest.
pub record TakenFrom (left : List ℕ) (now : Option (List ℕ)) (P : List ℕ → Type 0) : Type 0 where
  pub taken : List ℕ
  pub rest : List ℕ
  pub now_is : now ≡ Some rest
  pub left_is : left ≡ taken ++ rest
  pub has : P taken

-- Some bytes with P were taken. Where it is told what is left, it began with them, and lost them.
pub record Took {Origin : Type 0} (before now : SourceState Origin) (P : List ℕ → Type 0) : Type 0 where
  pub taken : List ℕ
  pub consumed : Consumes (left before) (left now) taken
  pub goes_on : GoesOn before now
  pub has : P taken

-- At Ok(x) the bytes taken have P x, and at an error Fault of it. One error, that what had to come was cut off, comes
-- only at the end of the source, and one, that reading failed, only where the source failed.
pub record Takes {X E Origin : Type 0} (cut_off unread : E) (before now : SourceState Origin) (result : Result X E)
    (P : X → List ℕ → Type 0) (Fault : E → List ℕ → Type 0) : Type 0 where
  pub ok : (x : X) → result ≡ Ok x → Took before now (P x)
  pub err : (e : E) → result ≡ Err e → Took before now (Fault e)
  pub at_end : result ≡ Err cut_off → IsAtEnd (left now)
  pub has_failed : result ≡ Err unread → HasFailed before now

-- These bytes stood in front of what was left, where that is told, and the first n of them were taken.
pub record TookReady (before now : Option (List ℕ)) (ready : List ℕ) (n : ℕ) : Type 0 where
  pub within : n ≤ length ready
  pub front : IfSome before (λ left. StartsWith left ready)
  pub consumed : Consumes before now (take n ready)

-- It is told what is left, and some front of that has P.
pub record HasFront (before : Option (List ℕ)) (P : List ℕ → Type 0) : Type 0 where
  pub front : List ℕ
  pub rest : List ℕ
  pub is : before ≡ Some (front ++ rest)
  pub has : P front

-- It is told what is left, and no front of that has P.
pub record HasNoFront (before : Option (List ℕ)) (P : List ℕ → Type 0) : Type 0 where
  pub left : List ℕ
  pub is : before ≡ Some left
  pub none : (front rest : List ℕ) → left ≡ front ++ rest → P front → ⊥

-- A sink still begins with what it had gained, where that is told.
pub record Gains {Origin : Type 0} (before now : SinkState Origin) : Type 0 where
  pub bytes : List ℕ
  pub appends : Appends (gained before) (gained now) bytes
  pub goes_on : GoesOn before now

-- These bytes were written to a sink: it gained them, where it tells that; and where it tells whether it is settled,
-- it is not, unless there are none, where it is settled as before.
pub record Wrote {Origin : Type 0} (before now : SinkState Origin) (bytes : List ℕ) : Type 0 where
  pub appends : Appends (gained before) (gained now) bytes
  pub settles : settled now ≡ settled_after (length bytes) (settled before)
  pub goes_on : GoesOn before now

-- They were written, and all that the sink got is settled, where it tells that.
pub record Settled {Origin : Type 0} (before now : SinkState Origin) (bytes : List ℕ) : Type 0 where
  pub appends : Appends (gained before) (gained now) bytes
  pub settles : settled now ≡ option_map (λ _. true) (settled before)
  pub goes_on : GoesOn before now

-- Of these bytes a front was written, and not all of them.
pub record WroteFront (Written : List ℕ → Type 0) (bytes : List ℕ) : Type 0 where
  pub front : List ℕ
  pub rest : List ℕ
  pub is : bytes ≡ front ++ rest
  pub missing : 1 ≤ length rest
  pub written : Written front

-- What a call that writes these bytes leaves: at Ok they were written, and at an error, which comes only where the sink
-- failed, a front of them.
abbrev pub Writes : {X E Origin : Type 0} → SinkState Origin → SinkState Origin → Result X E → List ℕ → Type 0
Writes before now result bytes =
    MatchResult result (λ _. Wrote before now bytes) (λ _. WroteFront (Wrote before now) bytes × HasFailed before now)
