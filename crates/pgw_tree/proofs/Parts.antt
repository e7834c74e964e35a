-- How the answers of calls that take a part of a stream make that of a call of the copy.
use Rattle.std.proofs.Common.{◌≡◌, ℕ, ◌<◌, List, [], ◌++◌, length, Option, subst, None, Some, Bool, true, false, Result, Ok, Err, refl, ap, arith, inl, inr}
use Rattle.std.specs.Prelude.{◌≢◌, is_some}
use mathlib.Core.Bool.{not}
use Rattle.std.specs.Prelude.{IfErr}
use Rattle.std.specs.Int.{to_be_bytes, w16}
use Rattle.pgw_wire.specs.Cell.{Cell}
use Rattle.pgw_wire.specs.Outside.{SourceState, SinkState, Took, HasFailed, Wrote, WroteFront}
use Rattle.pgw_wire.proofs.Taking.{took_then, takes_first_as, takes_later_as}
use Rattle.pgw_copy.specs.declared.fault.CopyReadError.{CopyReadError}
use Rattle.pgw_copy.specs.declared.fault.CopyReadError.TheVariants.{BadHeader, BadFlags, Truncated as reader_truncated, BadFieldCount, ReadFault as reader_failed, NoMemory}
use Rattle.pgw_copy.specs.Format.{IsCount, AreFields}
use Rattle.pgw_copy.specs.Reader.{Reads, truncated as cut_off, read_fault as cut_unread, KeptError, cut_short, no_memory as kept_no_memory, CountError, bad_count, cut_count, AreCutFields, AreWholeFields}
use Rattle.pgw_copy.proofs.Reading.{is_cut_row, row_of}
use Rattle.pgw_tree.specs.declared.send_fault.SendFault.{SendFault}
use Rattle.pgw_tree.specs.declared.send_fault.SendFault.TheVariants.{TooFew as send_too_few, BadValue as send_bad_value, TooLong as send_too_long, WriteFault as send_write_fault, NoMemory as send_no_memory}
use Rattle.pgw_tree.specs.declared.fault.CopyFault.{CopyFault}
use Rattle.pgw_tree.specs.declared.fault.CopyFault.TheVariants.{Truncated, ReadFault, WriteFault}
use Rattle.pgw_meta.specs.Shape.{Shape}
use Rattle.pgw_cell.specs.Value.{Value}
use Rattle.pgw_tree.specs.Canonical.{canonical_row}
use Rattle.pgw_tree.specs.Limits.{Limits}
use Rattle.pgw_tree.specs.ReadErrors.{fault_of}
use Rattle.pgw_tree.specs.Columns.{SpellsFit}
use Rattle.pgw_tree.specs.Causes.{IsRowAt, RowCause, truncated, bad_field_count, unexpected_end_of_row, bad_value, too_long, read_fault, no_memory}
use Rattle.pgw_tree.specs.Copying.{Copies}
use Rattle.pgw_tree.specs.Sending.{SendCause, has_too_few, has_break, has_long, has_broken, lacks_memory, in_row}
use Rattle.pgw_tree.specs.Runs.{rows_fault}
use Rattle.pgw_tree.proofs.Runs.{broken_one}
use Rattle.pgw_meta.specs.Known.{Known}

is_truncated : (e : CopyReadError) → fault_of e ≡ Truncated → e ≡ reader_truncated
is_truncated BadHeader h = absurd (cc)
is_truncated (BadFlags flags) h = absurd (cc)
is_truncated reader_truncated h = refl
is_truncated (BadFieldCount count) h = absurd (cc)
is_truncated reader_failed h = absurd (cc)
is_truncated NoMemory h = absurd (cc)

is_failed : (e : CopyReadError) → fault_of e ≡ ReadFault → e ≡ reader_failed
is_failed BadHeader h = absurd (cc)
is_failed (BadFlags flags) h = absurd (cc)
is_failed reader_truncated h = absurd (cc)
is_failed (BadFieldCount count) h = absurd (cc)
is_failed reader_failed h = refl
is_failed NoMemory h = absurd (cc)

-- what is said of an error, at the one that was answered
pub said_at : {X E : Type 0} (r : Result X E) (e : E) (P : E → Type 0) → r ≡ Err e → IfErr r P → P e
said_at {X = X} {E = E} r e P is h = subst (λ (s : Result X E). IfErr s P) is h

pub err_weaker : {X E : Type 0} (r : Result X E) (P Q : E → Type 0) → IfErr r P → ((e : E) → P e → Q e) → IfErr r Q
err_weaker (Ok x) P Q h w = tt
err_weaker (Err e) P Q h w = w e h

-- The reader's error is the fault of the call.
pub reader_first : {X Y O : Type 0} {a b : SourceState O} {P1 : Y → List ℕ → Type 0} {Fault1 : CopyReadError → List ℕ → Type 0} {r : Result X CopyFault} {e : CopyReadError} (P : X → List ℕ → Type 0) (Fault : CopyFault → List ℕ → Type 0)
    → r ≡ Err (fault_of e) → Reads {X = Y} a b (Err e) P1 Fault1 → ((bytes : List ℕ) → Fault1 e bytes → Fault (fault_of e) bytes) → Copies a b r P Fault
reader_first {e = e} P Fault is u stops = takes_first_as fault_of P Fault is u (is_truncated e) (is_failed e) stops

-- the same behind what was taken before
pub reader_later : {X Y O : Type 0} {a b c : SourceState O} {P0 : List ℕ → Type 0} {P1 : Y → List ℕ → Type 0} {Fault1 : CopyReadError → List ℕ → Type 0} {r : Result X CopyFault} {e : CopyReadError} (P : X → List ℕ → Type 0) (Fault : CopyFault → List ℕ → Type 0)
    → r ≡ Err (fault_of e) → Took a b P0 → Reads {X = Y} b c (Err e) P1 Fault1 → ((first second : List ℕ) → P0 first → Fault1 e second → Fault (fault_of e) (first ++ second)) → Copies a c r P Fault
reader_later {e = e} P Fault is t u stops = takes_later_as fault_of P Fault is t u (is_truncated e) (is_failed e) stops

-- what an error of a count says of the rows behind it
pub count_cause : (limits : Limits) (ts : List Shape) (rows : ℕ) (e : CopyReadError) (bytes : List ℕ) → CountError e bytes → RowCause limits ts rows (fault_of e) bytes
count_cause limits ts rows e bytes (bad_count count is bad) = bad_field_count count (ap fault_of is) bad
count_cause limits ts rows e bytes (cut_count (cut_off is short)) = truncated (ap fault_of is) (inl short, λ two. omega (arith, short, two))
count_cause limits ts rows e bytes (cut_count (cut_unread is short)) = read_fault (ap fault_of is) (inl short, λ two. omega (arith, short, two))

-- what an error of the fields behind a count says of the row
pub fields_cause : (limits : Limits) (ts : List Shape) (rows n : ℕ) (e : CopyReadError) (x y : List ℕ) → rows < limits.rows_max → IsCount (Some n) x → KeptError (AreCutFields n) (AreWholeFields n) e y → RowCause limits ts rows (fault_of e) (x ++ y)
fields_cause limits ts rows n e x y allowed count (cut_short (cut_off is cut)) = truncated (ap fault_of is) (is_cut_row n x y count cut, λ _. allowed)
fields_cause limits ts rows n e x y allowed count (cut_short (cut_unread is cut)) = read_fault (ap fault_of is) (is_cut_row n x y count cut, λ _. allowed)
fields_cause limits ts rows n e x y allowed count (kept_no_memory is (inl cut)) = no_memory (ap fault_of is) allowed (inl (is_cut_row n x y count cut))
fields_cause limits ts rows n e x y allowed count (kept_no_memory is (inr whole)) = no_memory (ap fault_of is) allowed (inr (whole.0, row_of n whole.0 x y count whole.1 whole.2))

-- A count and the fields behind it were taken: a row of the cells that are lent.
pub row_taken : (limits : Limits) (before n : ℕ) {O : Type 0} {a b c : SourceState O} (cells : List Cell) (lent : List ℕ) → before < limits.rows_max → length cells ≡ n
    → Took a b (IsCount (Some n)) → Took b c (λ taken. AreFields cells taken × (lent ≡ to_be_bytes w16 n ++ taken)) → Took a c (IsRowAt limits before cells)
row_taken limits before n cells lent allowed many counted each =
    took_then counted each (λ x y count fields. record { allowed = allowed; is = row_of n cells x y count many fields.0 })

-- Where nothing was sent, the sink did not fail.
pub filled_cause : {most : ℕ} {ts : List Shape} {cells : List Cell} (Broken : Type 0) (fault : SendFault) → SendCause most ts cells ⊥ fault → SendCause most ts cells Broken fault
filled_cause Broken fault (has_too_few is few) = has_too_few is few
filled_cause Broken fault (has_break column kind is breaks) = has_break column kind is breaks
filled_cause Broken fault (has_long column is long) = has_long column is long
filled_cause Broken fault (has_broken is broken) = absurd broken
filled_cause Broken fault (lacks_memory is) = lacks_memory is

-- What was wrong with the values of a row, said of the row.
pub sent_cause : (known : Known) (limits : Limits) (ts : List Shape) (rows : ℕ) {O : Type 0} {a b : SinkState O} (cells : List Cell) (bytes : List ℕ) (fault : SendFault) → IsRowAt limits rows cells bytes
    → SendCause limits.field_max ts cells ((values : List Value) × SpellsFit limits.field_max ts cells values × WroteFront (Wrote a b) (canonical_row known ts values) × HasFailed a b) fault
    → (fault ≢ send_write_fault → Wrote a b []) → rows_fault known limits ts rows (Wrote a b) (in_row rows fault) bytes
sent_cause known limits ts rows cells bytes fault row (has_too_few is few) still = inl (unexpected_end_of_row cells (ap (in_row rows) is) row few, still (λ e. absurd (cc (is, e))))
sent_cause known limits ts rows cells bytes fault row (has_break column kind is breaks) still = inl (bad_value cells column kind (ap (in_row rows) is) row breaks, still (λ e. absurd (cc (is, e))))
sent_cause known limits ts rows cells bytes fault row (has_long column is long) still = inl (too_long cells column (ap (in_row rows) is) row long, still (λ e. absurd (cc (is, e))))
sent_cause known limits ts rows cells bytes fault row (has_broken is broken) still = inr (
  ap (in_row rows) is,
  broken_one known limits ts rows bytes broken.0 row.allowed (record { cells = cells; is = row.is; spelled = broken.1.spelled; fit = broken.1.fit }) broken.2,
)
sent_cause known limits ts rows cells bytes fault row (lacks_memory is) still = inl (no_memory (ap (in_row rows) is) row.allowed (inr (cells, row.is)), still (λ e. absurd (cc (is, e))))

-- What is wrong with a row is neither the end of the source nor a fault of it.
pub is_inside : (rows : ℕ) (fault : SendFault) → (in_row rows fault ≢ Truncated) × (in_row rows fault ≢ ReadFault)
is_inside rows send_too_few = ((λ e. absurd (cc)), (λ e. absurd (cc)))
is_inside rows (send_bad_value column kind) = ((λ e. absurd (cc)), (λ e. absurd (cc)))
is_inside rows (send_too_long column) = ((λ e. absurd (cc)), (λ e. absurd (cc)))
is_inside rows send_write_fault = ((λ e. absurd (cc)), (λ e. absurd (cc)))
is_inside rows send_no_memory = ((λ e. absurd (cc)), (λ e. absurd (cc)))

-- The sink failed where the fault says so.
pub sent_failed : {most : ℕ} {ts : List Shape} {cells : List Cell} {Broken Failed : Type 0} (rows : ℕ) (fault : SendFault) → SendCause most ts cells Broken fault → (Broken → Failed) → in_row rows fault ≡ WriteFault → Failed
sent_failed rows fault (has_too_few is few) failed e = absurd (cc (is, e))
sent_failed rows fault (has_break column kind is breaks) failed e = absurd (cc (is, e))
sent_failed rows fault (has_long column is long) failed e = absurd (cc (is, e))
sent_failed rows fault (has_broken is broken) failed e = failed broken
sent_failed rows fault (lacks_memory is) failed e = absurd (cc (is, e))

pub some_count : (o : Option ℕ) (none : Bool) → is_some o ≡ not none → none ≡ false → (n : ℕ) × (o ≡ Some n)
some_count None none e is = absurd (cc)
some_count (Some n) none e is = (n, refl)

pub no_count : (o : Option ℕ) (none : Bool) → is_some o ≡ not none → none ≡ true → o ≡ None
no_count None none e is = refl
no_count (Some n) none e is = absurd (cc)
