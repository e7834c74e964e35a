-- What the answer of a copy is, in the words of its public contract.
use Rattle.std.proofs.Common.{rules, ◌≡◌, ◌⊎◌, ℕ, List, [], ◌++◌, Some, Result, Ok, Err, refl, sym, ap, subst, inl, inr, length, true, option_map}
use Rattle.std.specs.Result.{IsOkUnless, IfOk, OnOk}
use Rattle.std.specs.Prelude.{⊤, IsErr, IsErrAnd}
use Rattle.pgw_wire.specs.Outside.{SourceState, SinkState, left, settled, HasFailed, Took, HasFront, HasNoFront, Gains, Wrote, Settled}
use Rattle.pgw_wire.proofs.Taking.{took_weaker, took_from, ended}
use Rattle.pgw_wire.proofs.Adding.{wrote_gains}
use Rattle.pgw_copy.specs.Format.{trailer}
use Rattle.pgw_tree.specs.declared.stream.Copied.{Copied}
use Rattle.pgw_tree.specs.declared.fault.CopyFault.{CopyFault}
use Rattle.pgw_tree.specs.declared.fault.CopyFault.TheVariants.{ReadFault, WriteFault, NoMemory}
use Rattle.pgw_meta.specs.Shape.{Shape}
use Rattle.pgw_meta.specs.declared.found_oids.Found.{Found}
use Rattle.pgw_cell.specs.Value.{Value}
use Rattle.pgw_tree.specs.Stream.{IsStream, IsValidStream, IsWithin}
use Rattle.pgw_tree.specs.Limits.{Limits}
use Rattle.pgw_tree.specs.Lookups.{IsLookupFault}
use Rattle.pgw_tree.specs.Causes.{Form, IsCopied, fault_says, copy_says, in_header, in_row, in_end}
use Rattle.pgw_tree.specs.Copying.{Copies}
use Rattle.pgw_tree.proofs.Excluded.{excluded}
use Rattle.pgw_tree.proofs.Unique.{stream_once}

-- The stream that was taken spells one list of rows, and so the bytes written are the form of any that it spells.
pub copied_rows : (limits : Limits) (ts : List Shape) (form : Form) (n : ℕ) (Written : List ℕ → Type 0) (taken : List ℕ) (rows : List (List Value)) → IsStream ts taken rows → IsWithin limits ts rows → length rows ≡ n → Written (form rows ++ trailer) → IsCopied limits ts form n Written taken
copied_rows limits ts form n Written taken rows stream within many written = record {
  stream = (rows, stream, within, many);
  canonical = λ others s. subst (λ (rs : List (List Value)). Written (form rs ++ trailer)) (stream_once ts taken rows others stream s) written;
}

-- what a copy takes, and what it writes
abbrev pub Answer : {S K : Type 0} → Limits → List Shape → (List Found → Type 0) → (List Found → Form) → SourceState S → SourceState S → SinkState K → SinkState K → Result Copied CopyFault → Type 0
Answer limits ts Finds form a b before now r = Copies a b r (λ c. IsCopied limits ts (form c.oids) c.rows (Settled before now)) (λ fault. copy_says limits ts Finds form fault (Wrote before now))

pub copied_ok : {S K : Type 0} (limits : Limits) (ts : List Shape) (Finds : List Found → Type 0) (form : List Found → Form) (a b : SourceState S) (before now : SinkState K) (r : Result Copied CopyFault) → Answer limits ts Finds form a b before now r → IfOk r (λ c. Took a b (IsCopied limits ts (form c.oids) c.rows (Settled before now)))
copied_ok limits ts Finds form a b before now (Ok n) h = h.ok n refl
copied_ok limits ts Finds form a b before now (Err e) h = tt

pub settled_ok : {S K : Type 0} (limits : Limits) (ts : List Shape) (Finds : List Found → Type 0) (form : List Found → Form) (a b : SourceState S) (before now : SinkState K) (r : Result Copied CopyFault) → Answer limits ts Finds form a b before now r → OnOk r (settled now ≡ option_map (λ _. true) (settled before))
settled_ok limits ts Finds form a b before now (Ok n) h = let k = (h.ok n refl).has in (k.canonical k.stream.0 k.stream.1).settles
settled_ok limits ts Finds form a b before now (Err e) h = tt

-- A valid stream is copied, unless memory runs out or an object outside failed.
pub complete : {S K : Type 0} (limits : Limits) (ts : List Shape) (Finds : List Found → Type 0) (form : List Found → Form) (a b : SourceState S) (before now : SinkState K) (r : Result Copied CopyFault) → Answer limits ts Finds form a b before now r → (r ≡ Err WriteFault → HasFailed before now)
    → (IsErrAnd r IsLookupFault → ⊥) → HasFront (left a) (IsValidStream limits ts) → (HasFailed a b → ⊥) → (HasFailed before now → ⊥) → IsOkUnless r NoMemory
complete limits ts Finds form a b before now (Ok n) h write found valid well_read well_written = tt
complete limits ts Finds form a b before now (Err e) h write found valid well_read well_written =
    let t = took_from a b _ (h.err e refl) (valid.front ++ valid.rest) valid.is in
    by_says t.taken t.rest t.now_is t.left_is t.has
  where
    by_fault : (e ≡ ReadFault) ⊎ (e ≡ WriteFault) ⊎ (e ≡ NoMemory) → IsOkUnless {T = Copied} (Err e) NoMemory
    by_fault (inl is) = absurd (well_read (h.has_failed (ap Err is)))
    by_fault (inr (inl is)) = absurd (well_written (write (ap Err is)))
    by_fault (inr (inr is)) = is

    by_form : (one : Form) (taken rest : List ℕ) → left b ≡ Some rest → valid.front ++ valid.rest ≡ taken ++ rest → fault_says limits ts one e (Wrote before now) taken → IsOkUnless {T = Copied} (Err e) NoMemory
    by_form one taken rest now_is left_is says =
        by_fault (excluded limits ts one e (Wrote before now) taken rest valid.front valid.rest says (λ is. ended (left b) rest (h.at_end (ap Err is)) now_is) valid.has (sym left_is))

    by_says : (taken rest : List ℕ) → left b ≡ Some rest → valid.front ++ valid.rest ≡ taken ++ rest → copy_says limits ts Finds form e (Wrote before now) taken → IsOkUnless {T = Copied} (Err e) NoMemory
    by_says taken rest now_is left_is (inl l) = absurd (found l.0)
    by_says taken rest now_is left_is (inr (inl says)) = by_form (λ rows. []) taken rest now_is left_is (inl says)
    by_says taken rest now_is left_is (inr (inr (found, finds, says))) = by_form (form found) taken rest now_is left_is (inr says)

-- What is told to begin with no valid stream is not copied.
pub refused : {S K : Type 0} (limits : Limits) (ts : List Shape) (Finds : List Found → Type 0) (form : List Found → Form) (a b : SourceState S) (before now : SinkState K) (r : Result Copied CopyFault) → Answer limits ts Finds form a b before now r → HasNoFront (left a) (IsValidStream limits ts) → IsErr r
refused limits ts Finds form a b before now (Ok n) h none =
    let t = took_from a b _ (h.ok n refl) none.left none.is in
    let stream = t.has.stream in absurd (none.none t.taken t.rest t.left_is (stream.0, stream.1, stream.2))
refused limits ts Finds form a b before now (Err e) h none = search rules

-- Whatever the answer, a front was taken.
pub taken_of : {S K : Type 0} (limits : Limits) (ts : List Shape) (Finds : List Found → Type 0) (form : List Found → Form) (a b : SourceState S) (before now : SinkState K) (r : Result Copied CopyFault) → Answer limits ts Finds form a b before now r → Took a b (λ _. ⊤)
taken_of limits ts Finds form a b before now (Ok n) h = took_weaker (h.ok n refl) (λ _ _. tt)
taken_of limits ts Finds form a b before now (Err e) h = took_weaker (h.err e refl) (λ _ _. tt)

written_gained : {K : Type 0} {limits : Limits} {ts : List Shape} {Finds : List Found → Type 0} {form : List Found → Form} {fault : CopyFault} {a b : SinkState K} (taken : List ℕ) → copy_says limits ts Finds form fault (Wrote a b) taken → Gains a b
written_gained taken (inl h) = wrote_gains h.2
written_gained taken (inr (inl h)) = wrote_gains h.1
written_gained taken (inr (inr (found, finds, inl h))) = wrote_gains h.written
written_gained taken (inr (inr (found, finds, inr (is, in_header header p)))) = wrote_gains p.written
written_gained taken (inr (inr (found, finds, inr (is, in_row rows last next begins within form_is p)))) = wrote_gains p.written
written_gained taken (inr (inr (found, finds, inr (is, in_end rows front begins within end (inl p))))) = wrote_gains p.written
written_gained taken (inr (inr (found, finds, inr (is, in_end rows front begins within end (inr w))))) = wrote_gains w

-- Whatever the answer, the sink has what it had, and what was written behind it.
pub gained_of : {S K : Type 0} (limits : Limits) (ts : List Shape) (Finds : List Found → Type 0) (form : List Found → Form) (a b : SourceState S) (before now : SinkState K) (r : Result Copied CopyFault) → Answer limits ts Finds form a b before now r → Gains before now
gained_of limits ts Finds form a b before now (Ok n) h =
    let k = (h.ok n refl).has in
    let w = k.canonical k.stream.0 k.stream.1 in record { bytes = form n.oids k.stream.0 ++ trailer; appends = w.appends; goes_on = w.goes_on }
gained_of limits ts Finds form a b before now (Err e) h = let k = h.err e refl in written_gained k.taken k.has
