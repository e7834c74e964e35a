use Rattle.std.proofs.Common.{◌≡◌, ◌∙◌, ◌⊎◌, ℕ, List, [], ◌++◌, Option, None, Some, refl, sym, ap, subst, inl, inr}
use Rattle.std.specs.Prelude.{◌==◌, ◌≢◌, true, if◌then◌else◌}
use Rattle.std.specs.Io.KnownBytes.{prepend_known}
use Rattle.pgw_wire.specs.Outside.{SourceState, SinkState, left, Wrote}
use Rattle.pgw_wire.proofs.Taking.{took_from, ended}
use Rattle.pgw_tree.specs.declared.fault.CopyFault.{CopyFault}
use Rattle.pgw_tree.specs.declared.fault.CopyFault.TheVariants.{ReadFault, WriteFault, NoMemory}
use Rattle.pgw_tree.specs.Stream.{IsValidStream}
use Rattle.pgw_tree.proofs.Excluded.{excluded}
use Rattle.pgcopy.specs.declared.report.Status.{Status}
use Rattle.pgcopy.specs.declared.report.Status.TheVariants.{Copied as status_copied, Words as status_words, Refused as status_refused, Outside as status_outside, UnknownType as status_unknown_type, NoMemory as status_no_memory}
use Rattle.pgcopy.specs.Report.{fault_status}
use Rattle.pgcopy.specs.Words.{PlanData, missing, canonical_rows}
use Rattle.pgcopy.specs.Runs.{MetFault}
use Rattle.pgcopy.proofs.Looked.{no_lookup, says_of_stream}
use Rattle.std.specs.Io.Buffered.{writer_inner, writer_buffer}
use Rattle.pgcopy.proofs.Reached.{arrives, got_none, appends_none, told_of, line_got, copied_out, stopped_out}
use Rattle.pgcopy.proofs.edge.copy.Goals as goal

-- A buffer that was filled with nothing yet leaves what its reader leaves.
fresh : (capacity : ℕ) (buffer : List ℕ) (inner : Option (List ℕ)) (left : List ℕ) → capacity ≡ 262144 → buffer ≡ [] → inner ≡ Some left → (if capacity == 0 then None else prepend_known buffer inner) ≡ Some left
fresh capacity buffer inner left room empty told = rw (room, empty, told) refl

pub returns-clause-copied : goal.returns-clause-copied
returns-clause-copied g c = λ copied.
    let h = c.run-status.ensures.copied copied in (
      h.0,
      h.1,
      (λ left told.
          let begins = c.new-source.ensures.left ∙ fresh _ _ _ left c.in_ok-reader.ensures.capacity c.in_ok-reader.ensures.empty (ap (λ i. g.I.Read.remaining i.inner) c.in_ok-reader.ensures.inner ∙ told) in
          let t = took_from _ _ _ h.4 left begins in
          let stream = t.has.stream in
          record { front = t.taken; rest = t.rest; is = ap Some t.left_is; has = (stream.0, stream.1, stream.2) }),
    )

-- A fault of the outside has the status of one, or that of want of memory.
outside_status : (fault : CopyFault) → (fault ≡ ReadFault) ⊎ (fault ≡ WriteFault) ⊎ (fault ≡ NoMemory) → (fault_status fault ≡ status_outside) ⊎ (fault_status fault ≡ status_no_memory)
outside_status fault (inl is) = inl (ap fault_status is)
outside_status fault (inr (inl is)) = inl (ap fault_status is)
outside_status fault (inr (inr is)) = inr (ap fault_status is)

-- A run of a plan copied, or had a fault.
by_status : (status : Status) (P : Type 0) → (status ≢ status_copied → P) → (status ≡ status_copied) ⊎ P
by_status status_copied P fault = inl refl
by_status status_words P fault = inr (fault (λ e. absurd (cc)))
by_status status_refused P fault = inr (fault (λ e. absurd (cc)))
by_status status_outside P fault = inr (fault (λ e. absurd (cc)))
by_status status_unknown_type P fault = inr (fault (λ e. absurd (cc)))
by_status status_no_memory P fault = inr (fault (λ e. absurd (cc)))

-- Where a fault came and a valid stream was there, the fault is one of the outside, or memory was missing.
at_fault : {S K : Type 0} (status : Status) (a b : SourceState S) (before now : SinkState K) (plan : PlanData) (fault : CopyFault) (front rest : List ℕ) → missing plan ≡ None → status ≡ fault_status fault → MetFault plan fault a b before now
    → left a ≡ Some (front ++ rest) → IsValidStream plan.limits plan.columns front → (status ≡ status_outside) ⊎ (status ≡ status_no_memory)
at_fault status a b before now plan fault front rest none is met begins valid =
    let t = took_from a b _ met.says (front ++ rest) begins in
    subst (λ (s : Status). (s ≡ status_outside) ⊎ (s ≡ status_no_memory)) (sym is)
    (outside_status fault (excluded plan.limits plan.columns (canonical_rows plan) fault (Wrote before now) t.taken t.rest front rest (says_of_stream plan fault (no_lookup plan fault met none) t.has) (λ e. ended (left b) t.rest (met.at_end e) t.now_is) valid (sym t.left_is)))

pub returns-clause-complete : goal.returns-clause-complete
returns-clause-complete g c = λ plan is none valid.
    by_status c.run-status.result _ (λ not_copied.
    let f = c.run-status.ensures.fault plan is not_copied in
    at_fault c.run-status.result _ _ _ _ plan f.0 valid.front valid.rest none f.1 f.3
    (c.new-source.ensures.left ∙ fresh _ _ _ _ c.in_ok-reader.ensures.capacity c.in_ok-reader.ensures.empty (ap (λ i. g.I.Read.remaining i.inner) c.in_ok-reader.ensures.inner ∙ valid.is))
    valid.has)

pub returns-clause-words_line : goal.returns-clause-words_line
returns-clause-words_line g c = λ wrong first status.
    line_got _ (λ x w. (arrives g.E.Write.contents c.new-notes.result c.run-status.new.notes _ c.finish-errors.result _ (ap (λ w. writer_inner w) c.new-notes.ensures.inner ∙ c.in_ok-line.ensures.inner) (ap (λ w. writer_buffer w) c.new-notes.ensures.inner ∙ c.in_ok-line.ensures.empty) c.new-notes.ensures.flushed refl c.finish-errors.ensures (search) x w).0) (c.run-status.ensures.words_line wrong first status)

pub returns-clause-memory_line : goal.returns-clause-memory_line
returns-clause-memory_line g c = λ none status.
    line_got _ (λ x w. (arrives g.E.Write.contents c.new-notes.result c.run-status.new.notes _ c.finish-errors.result _ (ap (λ w. writer_inner w) c.new-notes.ensures.inner ∙ c.in_ok-line.ensures.inner) (ap (λ w. writer_buffer w) c.new-notes.ensures.inner ∙ c.in_ok-line.ensures.empty) c.new-notes.ensures.flushed refl c.finish-errors.ensures (search) x w).0) (c.run-status.ensures.memory_line none status)

pub returns-clause-untouched : goal.returns-clause-untouched
returns-clause-untouched g c = λ none.
    got_none (arrives g.O.Write.contents c.new-sink.result c.run-status.new.sink _ c.finish-output.result _ (ap (λ w. writer_inner w) c.new-sink.ensures.inner ∙ c.in_ok-writer.ensures.inner) (ap (λ w. writer_buffer w) c.new-sink.ensures.inner ∙ c.in_ok-writer.ensures.empty) c.new-sink.ensures.flushed refl c.finish-output.ensures (search) [] (appends_none _ _ (ap (told_of g.O.Write.contents) (c.run-status.ensures.sink_untouched none)))).0

pub returns-clause-output : goal.returns-clause-output
returns-clause-output g c = λ copied.
    let h = c.run-status.ensures.copied copied in
    let flushed : c.run-status.new.sink.is_flushed ≡ true = cc (c.run-status.ensures.settled copied) in (
      h.0,
      h.1,
      h.2,
      copied_out h.0 h.2 _ _ _ _ (g.I.Read.remaining c.args.input) _ _ _ _
          (λ left told. c.new-source.ensures.left ∙ fresh _ _ _ left c.in_ok-reader.ensures.capacity c.in_ok-reader.ensures.empty (ap (λ i. g.I.Read.remaining i.inner) c.in_ok-reader.ensures.inner ∙ told))
          (λ x w. (arrives g.O.Write.contents c.new-sink.result c.run-status.new.sink _ c.finish-output.result _ (ap (λ w. writer_inner w) c.new-sink.ensures.inner ∙ c.in_ok-writer.ensures.inner) (ap (λ w. writer_buffer w) c.new-sink.ensures.inner ∙ c.in_ok-writer.ensures.empty) c.new-sink.ensures.flushed refl c.finish-output.ensures (search) x w).1 flushed)
          h.4
          (line_got _ (λ x w. (arrives g.E.Write.contents c.new-notes.result c.run-status.new.notes _ c.finish-errors.result _ (ap (λ w. writer_inner w) c.new-notes.ensures.inner ∙ c.in_ok-line.ensures.inner) (ap (λ w. writer_buffer w) c.new-notes.ensures.inner ∙ c.in_ok-line.ensures.empty) c.new-notes.ensures.flushed refl c.finish-errors.ensures (search) x w).0) h.3),
    )

pub returns-clause-fault : goal.returns-clause-fault
returns-clause-fault g c = λ plan is not_copied.
    let h = c.run-status.ensures.fault plan is not_copied in (
      h.0,
      h.1,
      stopped_out plan h.0 _ _ _ _ (g.I.Read.remaining c.args.input) _ _ _ _
          (λ left told. c.new-source.ensures.left ∙ fresh _ _ _ left c.in_ok-reader.ensures.capacity c.in_ok-reader.ensures.empty (ap (λ i. g.I.Read.remaining i.inner) c.in_ok-reader.ensures.inner ∙ told))
          (λ x w. (arrives g.O.Write.contents c.new-sink.result c.run-status.new.sink _ c.finish-output.result _ (ap (λ w. writer_inner w) c.new-sink.ensures.inner ∙ c.in_ok-writer.ensures.inner) (ap (λ w. writer_buffer w) c.new-sink.ensures.inner ∙ c.in_ok-writer.ensures.empty) c.new-sink.ensures.flushed refl c.finish-output.ensures (search) x w).0)
          h.3
          (line_got _ (λ x w. (arrives g.E.Write.contents c.new-notes.result c.run-status.new.notes _ c.finish-errors.result _ (ap (λ w. writer_inner w) c.new-notes.ensures.inner ∙ c.in_ok-line.ensures.inner) (ap (λ w. writer_buffer w) c.new-notes.ensures.inner ∙ c.in_ok-line.ensures.empty) c.new-notes.ensures.flushed refl c.finish-errors.ensures (search) x w).0) h.2),
    )

pub returns-clause-unknown_type : goal.returns-clause-unknown_type
returns-clause-unknown_type g c = λ unknown.
    let h = c.run-status.ensures.unknown_type unknown in (
      h.0,
      h.1,
      h.2,
      h.3,
      line_got _ (λ x w. (arrives g.E.Write.contents c.new-notes.result c.run-status.new.notes _ c.finish-errors.result _ (ap (λ w. writer_inner w) c.new-notes.ensures.inner ∙ c.in_ok-line.ensures.inner) (ap (λ w. writer_buffer w) c.new-notes.ensures.inner ∙ c.in_ok-line.ensures.empty) c.new-notes.ensures.flushed refl c.finish-errors.ensures (search) x w).0) h.4,
    )

pub returns-clause-unwritten : goal.returns-clause-unwritten
returns-clause-unwritten g c = λ unknown.
    got_none (arrives g.O.Write.contents c.new-sink.result c.run-status.new.sink _ c.finish-output.result _ (ap (λ w. writer_inner w) c.new-sink.ensures.inner ∙ c.in_ok-writer.ensures.inner) (ap (λ w. writer_buffer w) c.new-sink.ensures.inner ∙ c.in_ok-writer.ensures.empty) c.new-sink.ensures.flushed refl c.finish-output.ensures (search) [] (appends_none _ _ (ap (told_of g.O.Write.contents) (c.run-status.ensures.unwritten unknown)))).0
