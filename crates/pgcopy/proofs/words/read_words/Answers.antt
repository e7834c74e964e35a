use Rattle.std.proofs.Common.{◌≡◌, ◌-◌, ◌≤◌, Result, Err, map, string_bytes, sym, ap, subst, ◌∙◌}
use Rattle.std.proofs.lemmas.List.{length-map}
use Rattle.pgw_meta.specs.Schema.{fault_number}
use Rattle.pgcopy.specs.declared.words.WordError.TheVariants.{Fault}
use Rattle.pgcopy.specs.declared.words.WordFault.TheVariants.{Schema}
use Rattle.pgcopy.specs.Words.{texts, place_of}
use Rattle.pgcopy.proofs.AllWords.{place_fits, column_told, without_memory}
use Rattle.pgcopy.proofs.Plans.{found_is_first, fault_no_plan, plans_agree, faults_agree}
use Rattle.pgcopy.proofs.words.read_words.Goals as goal

err_is : {X E : Type 0} {x y : E} → ◌≡◌ {A = Result X E} (Err x) (Err y) → x ≡ y
err_is e = cc

pub returns-in-Err-clause-no_plan : goal.returns-in-Err-clause-no_plan
returns-in-Err-clause-no_plan c = λ _ _ _. fault_no_plan (map string_bytes c.args.words.now) _ c.in-Err.ensures.err

pub returns-in-Err-clause-plans : goal.returns-in-Err-clause-plans
returns-in-Err-clause-plans c = plans_agree c.args.words.now

pub returns-in-Err-clause-faults : goal.returns-in-Err-clause-faults
returns-in-Err-clause-faults c = faults_agree c.args.words.now

pub returns-in_err-entries-clause-no_memory : goal.returns-in_err-entries-clause-no_memory
returns-in_err-entries-clause-no_memory c = λ _. without_memory (texts c.args.words.now) c.in-Ok.seen c.in-Ok.ensures.ok

pub returns-in_err-entries-clause-plans : goal.returns-in_err-entries-clause-plans
returns-in_err-entries-clause-plans c = plans_agree c.args.words.now

pub returns-in_err-entries-clause-faults : goal.returns-in_err-entries-clause-faults
returns-in_err-entries-clause-faults c = faults_agree c.args.words.now

pub column_fault-requires : goal.column_fault-requires
column_fault-requires c = record {
  fits = subst (λ n. place_of (n - c.in-Ok.seen.types) n c.in-Err-known_schema.error ≤ n) (length-map c.args.words.now string_bytes)
      (place_fits (texts c.args.words.now) c.in-Ok.seen c.in-Err-known_schema.error c.in-Ok.ensures.ok c.in-Err-known_schema.ensures.fault);
}

pub returns-in-Err-known_schema-clause-fault : goal.returns-in-Err-known_schema-clause-fault
returns-in-Err-known_schema-clause-fault c = λ place fault is.
    column_told (texts c.args.words.now) c.in-Ok.seen c.in-Err-known_schema.error c.column_fault.result c.in-Ok.ensures.ok c.in-Err-known_schema.ensures.fault c.column_fault.ensures.memory
    (λ other. c.column_fault.ensures.placed other ∙ ap (λ n. Fault (place_of (n - c.in-Ok.seen.types) n c.in-Err-known_schema.error) (Schema (fault_number c.in-Err-known_schema.error))) (sym (length-map c.args.words.now string_bytes)))
    place fault (err_is is)

pub returns-in-Err-known_schema-clause-no_plan : goal.returns-in-Err-known_schema-clause-no_plan
returns-in-Err-known_schema-clause-no_plan c = λ place fault is.
    fault_no_plan (texts c.args.words.now) _
    (column_told (texts c.args.words.now) c.in-Ok.seen c.in-Err-known_schema.error c.column_fault.result c.in-Ok.ensures.ok c.in-Err-known_schema.ensures.fault c.column_fault.ensures.memory
    (λ other. c.column_fault.ensures.placed other ∙ ap (λ n. Fault (place_of (n - c.in-Ok.seen.types) n c.in-Err-known_schema.error) (Schema (fault_number c.in-Err-known_schema.error))) (sym (length-map c.args.words.now string_bytes)))
    place fault (err_is is))

pub returns-in-Err-known_schema-clause-first_fault : goal.returns-in-Err-known_schema-clause-first_fault
returns-in-Err-known_schema-clause-first_fault c = λ place fault is.
    found_is_first (texts c.args.words.now) _
    (column_told (texts c.args.words.now) c.in-Ok.seen c.in-Err-known_schema.error c.column_fault.result c.in-Ok.ensures.ok c.in-Err-known_schema.ensures.fault c.column_fault.ensures.memory
    (λ other. c.column_fault.ensures.placed other ∙ ap (λ n. Fault (place_of (n - c.in-Ok.seen.types) n c.in-Err-known_schema.error) (Schema (fault_number c.in-Err-known_schema.error))) (sym (length-map c.args.words.now string_bytes)))
    place fault (err_is is))

pub returns-in-Err-known_schema-clause-no_memory : goal.returns-in-Err-known_schema-clause-no_memory
returns-in-Err-known_schema-clause-no_memory c = λ _. without_memory (texts c.args.words.now) c.in-Ok.seen c.in-Ok.ensures.ok

pub returns-in-Err-known_schema-clause-plans : goal.returns-in-Err-known_schema-clause-plans
returns-in-Err-known_schema-clause-plans c = plans_agree c.args.words.now

pub returns-in-Err-known_schema-clause-faults : goal.returns-in-Err-known_schema-clause-faults
returns-in-Err-known_schema-clause-faults c = faults_agree c.args.words.now

pub returns-clause-plans : goal.returns-clause-plans
returns-clause-plans c = plans_agree c.args.words.now

pub returns-clause-faults : goal.returns-clause-faults
returns-clause-faults c = faults_agree c.args.words.now
