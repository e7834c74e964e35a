use Rattle.std.proofs.Common.{Err, refl, ap, ◌∙◌, inr, map, string_bytes}
use Rattle.std.proofs.lemmas.Result.{IfErr-weaker}
use Rattle.pgcopy.specs.Words.{plan_of}
use Rattle.std.proofs.lemmas.Bool.{false≢true}
use Rattle.pgw_tree.specs.declared.fault.CopyFault.TheVariants.{NoMemory}
use Rattle.pgcopy.specs.WordsRead.{plan_data}
use Rattle.pgcopy.proofs.Told.{ok_then, status_at_fault, refused_at_fault, no_memory_met}
use Rattle.pgcopy.proofs.Looked.{plan_entries, no_lookup, unknown_status, unmet_status}
use Rattle.pgcopy.proofs.run.execute.Goals as goal

pub copy_plan-requires-clause-entries : goal.copy_plan-requires-clause-entries
copy_plan-requires-clause-entries g c = plan_entries (map string_bytes c.args.words.now) _ c.in-Ok.ensures.is_plan

pub returns-in-Ok-copy_plan-clause-copied : goal.returns-in-Ok-copy_plan-clause-copied
returns-in-Ok-copy_plan-clause-copied g c = rw c.in-Ok.ensures.plan (λ _. (c.in-Ok-copy_plan.copied.rows, refl, c.in-Ok-copy_plan.ensures.copied))

pub returns-in-Ok-clause-fault : goal.returns-in-Ok-clause-fault
returns-in-Ok-clause-fault g c = rw c.in-Ok.ensures.plan (λ _. (c.in-Err.fault, refl, c.copy_plan.ensures.fault c.in-Err.fault c.in-Err.is))

pub returns-in-Ok-clause-unread : goal.returns-in-Ok-clause-unread
returns-in-Ok-clause-unread g c = λ status.
    let unknown = unknown_status c.in-Err.fault status in
    (c.copy_plan.ensures.untouched unknown.0 (c.in-Err.is ∙ ap Err unknown.1)).0

pub returns-in-Ok-clause-unwritten : goal.returns-in-Ok-clause-unwritten
returns-in-Ok-clause-unwritten g c = λ status.
    let unknown = unknown_status c.in-Err.fault status in
    (c.copy_plan.ensures.untouched unknown.0 (c.in-Err.is ∙ ap Err unknown.1)).1

pub returns-in-Ok-clause-unmet : goal.returns-in-Ok-clause-unmet
returns-in-Ok-clause-unmet g c =
    rw c.in-Ok.ensures.plan (λ key missing. unmet_status c.copy_plan.result c.in-Err.fault key c.in-Err.is (c.copy_plan.ensures.unmet key missing))

pub returns-in-Ok-clause-complete : goal.returns-in-Ok-clause-complete
returns-in-Ok-clause-complete g c =
    rw c.in-Ok.ensures.plan (λ none valid reads writes.
    inr (status_at_fault c.copy_plan.result c.in-Err.fault c.in-Err.is (c.copy_plan.ensures.complete none valid reads writes)))

pub returns-in-Ok-copy_plan-clause-refused : goal.returns-in-Ok-copy_plan-clause-refused
returns-in-Ok-copy_plan-clause-refused g c =
    rw c.in-Ok.ensures.plan (λ _ front _ _. absurd (false≢true (c.in-Ok-copy_plan.ensures.refused front)))

pub returns-in-Ok-clause-refused : goal.returns-in-Ok-clause-refused
returns-in-Ok-clause-refused g c =
    rw c.in-Ok.ensures.plan (λ none _ reads writes.
    let met = c.copy_plan.ensures.fault c.in-Err.fault c.in-Err.is in
    refused_at_fault c.in-Err.fault (no_lookup (plan_data c.in-Ok.plan) c.in-Err.fault met none) met.source_failed met.sink_failed reads writes)

pub returns-clause-fault : goal.returns-clause-fault
returns-clause-fault g c = ok_then (plan_of c.args.words.now) _ (λ plan _. (NoMemory, refl, no_memory_met plan _ _))

pub returns-clause-bad_word : goal.returns-clause-bad_word
returns-clause-bad_word g c = IfErr-weaker (plan_of c.args.words.now) _ _ (λ wrong of_column. inr (refl, of_column)) (c.read_words.ensures.no_memory (cc))
