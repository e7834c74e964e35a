use Rattle.std.proofs.Common.{ap, ◌∙◌, subst, sym}
use Rattle.std.proofs.lemmas.Result.{IfErr-weaker}
use Rattle.pgcopy.specs.declared.report.Outcome.{Outcome}
use Rattle.pgcopy.specs.Words.{plan_of}
use Rattle.pgcopy.specs.Report.{line_of, status_of, WroteUnlessFailed}
use Rattle.pgcopy.proofs.Plans.{no_plan, with_plan, some_plan, for_plan, for_fault, for_no_plan, fault_of_no_plan}
use Rattle.pgcopy.proofs.Looked.{unknown_told}
use Rattle.pgcopy.proofs.Told.{bad_word_is, memory_is, status_without_plan}
use Rattle.pgcopy.proofs.Sending.{line_gained}
use Rattle.pgcopy.proofs.run.run.Goals as goal

pub returns-clause-planned : goal.returns-clause-planned
returns-clause-planned g c = λ not_words not_memory.
    let is = c.execute-outcome.ensures.planned (λ e. not_words (c.status.ensures ∙ e)) (λ e. not_memory (c.status.ensures ∙ e)) in
    some_plan c.args.words.now is

pub returns-clause-memory_line : goal.returns-clause-memory_line
returns-clause-memory_line g c = λ none memory.
    for_no_plan c.args.words.now _ (IfErr-weaker (plan_of c.args.words.now) _ _ (λ wrong is. subst (λ (o : Outcome). WroteUnlessFailed (g.N.Sink.state c.args.notes.now) (g.N.Sink.state c.report.new.notes) (line_of o)) (memory_is c.execute-outcome.result _ _ _ is (sym c.status.ensures ∙ memory)) c.report.ensures.line) c.execute-outcome.ensures.bad_word) none

pub returns-clause-fault : goal.returns-clause-fault
returns-clause-fault g c = λ plan is not_copied.
    let h = for_plan c.args.words.now _ c.execute-outcome.ensures.fault plan is (λ e. not_copied (c.status.ensures ∙ e)) in (
      h.0,
      c.status.ensures ∙ ap status_of h.1,
      subst (λ (o : Outcome). WroteUnlessFailed (g.N.Sink.state c.args.notes.now) (g.N.Sink.state c.report.new.notes) (line_of o)) h.1 c.report.ensures.line,
      h.2,
    )

pub returns-clause-copied : goal.returns-clause-copied
returns-clause-copied g c = λ copied.
    let h = with_plan c.args.words.now _ (c.execute-outcome.ensures.copied (sym c.status.ensures ∙ copied)) in (
      h.0,
      h.1,
      h.2.0,
      subst (λ (o : Outcome). WroteUnlessFailed (g.N.Sink.state c.args.notes.now) (g.N.Sink.state c.report.new.notes) (line_of o)) h.2.1 c.report.ensures.line,
      h.2.2,
    )

pub returns-clause-first_fault : goal.returns-clause-first_fault
returns-clause-first_fault g c = fault_of_no_plan c.args.words.now

pub returns-clause-words_line : goal.returns-clause-words_line
returns-clause-words_line g c =
    for_fault c.args.words.now _ (IfErr-weaker (plan_of c.args.words.now) _ _ (λ wrong is words. subst (λ (o : Outcome). WroteUnlessFailed (g.N.Sink.state c.args.notes.now) (g.N.Sink.state c.report.new.notes) (line_of o)) (bad_word_is c.execute-outcome.result _ _ is (sym c.status.ensures ∙ words)) c.report.ensures.line) c.execute-outcome.ensures.bad_word)

pub returns-clause-source_untouched : goal.returns-clause-source_untouched
returns-clause-source_untouched g c = for_no_plan c.args.words.now _ c.execute-outcome.ensures.source_untouched

pub returns-clause-sink_untouched : goal.returns-clause-sink_untouched
returns-clause-sink_untouched g c = for_no_plan c.args.words.now _ c.execute-outcome.ensures.sink_untouched

pub returns-clause-noted : goal.returns-clause-noted
returns-clause-noted g c = line_gained c.report.ensures.line

pub returns-clause-words : goal.returns-clause-words
returns-clause-words g c = λ is. (no_plan c.args.words.now).0 (c.execute-outcome.ensures.words (sym c.status.ensures ∙ is))

pub returns-clause-no_plan : goal.returns-clause-no_plan
returns-clause-no_plan g c =
    rw c.status.ensures (for_fault c.args.words.now _ (IfErr-weaker (plan_of c.args.words.now) _ _ (λ wrong is. status_without_plan c.execute-outcome.result wrong is) c.execute-outcome.ensures.bad_word))

pub returns-clause-complete : goal.returns-clause-complete
returns-clause-complete g c = rw c.status.ensures (for_plan c.args.words.now _ c.execute-outcome.ensures.complete)

pub returns-clause-refused : goal.returns-clause-refused
returns-clause-refused g c = rw c.status.ensures (for_plan c.args.words.now _ c.execute-outcome.ensures.refused)

pub returns-clause-unknown_type : goal.returns-clause-unknown_type
returns-clause-unknown_type g c = λ status.
    let of = sym c.status.ensures ∙ status in
    let plan = some_plan c.args.words.now (c.execute-outcome.ensures.planned (λ e. absurd (cc)) (λ e. absurd (cc))) in
    let h = for_plan c.args.words.now _ c.execute-outcome.ensures.fault plan.0 plan.1 (λ e. absurd (cc)) in
    let line = subst (λ (o : Outcome). WroteUnlessFailed (g.N.Sink.state c.args.notes.now) (g.N.Sink.state c.report.new.notes) (line_of o)) h.1 c.report.ensures.line in
    let told = unknown_told plan.0 h.0 (WroteUnlessFailed (g.N.Sink.state c.args.notes.now) (g.N.Sink.state c.report.new.notes)) h.2 (sym (ap status_of h.1) ∙ of) line in
    (plan.0, plan.1, told.0, told.1, told.2)

pub returns-clause-unread : goal.returns-clause-unread
returns-clause-unread g c = λ status. c.execute-outcome.ensures.unread (sym c.status.ensures ∙ status)

pub returns-clause-unwritten : goal.returns-clause-unwritten
returns-clause-unwritten g c = λ status. c.execute-outcome.ensures.unwritten (sym c.status.ensures ∙ status)

pub returns-clause-unmet : goal.returns-clause-unmet
returns-clause-unmet g c = λ plan key is missing. rw c.status.ensures (for_plan c.args.words.now _ c.execute-outcome.ensures.unmet plan is key missing)
