use Rattle.std.proofs.Common.{◌≡◌, subst, Err, refl, ap, ◌∙◌}
use Rattle.pgw_wire.proofs.Taking.{exit, took_weaker}
use Rattle.pgw_tree.specs.declared.fault.CopyFault.TheVariants.{NoMemory}
use Rattle.pgcopy.specs.Runs.{MetFault}
use Rattle.pgw_meta.specs.Catalog.{catalog_state, never_fails}
use Rattle.pgw_meta.specs.Needs.{needs_of}
use Rattle.pgw_meta.specs.Types.{column_shapes}
use Rattle.pgcopy.specs.Words.{named}
use Rattle.pgcopy.proofs.Given.{says_by_known, copied_by_known}
use Rattle.pgw_tree.specs.Canonical.{canonical_front}
use Rattle.pgw_meta.specs.NamedOids.{known_of}
use Rattle.pgw_wire.specs.Outside.{Took, Wrote, Settled}
use Rattle.pgw_tree.specs.Causes.{copy_says}
use Rattle.pgw_tree.specs.Lookups.{AreFound}
use Rattle.std.specs.Prelude.{IfOk}
use Rattle.pgcopy.specs.WordsRead.{plan_data}
use Rattle.pgcopy.proofs.Told.{no_memory_met}
use Rattle.pgcopy.proofs.Looked.{told_is, never_failed, met_all}
use Rattle.pgcopy.proofs.run.copy_plan.Goals as goal

pub returns-clause-copied : goal.returns-clause-copied
returns-clause-copied g c =
    let told = told_is (plan_data c.args.plan.now) c.in_ok-catalog.catalog _ _ c.in_ok-catalog.ensures c.as_slice.ensures c.new-lookup.ensures.known in
    let columns = column_shapes c.args.plan.now.schema in
    copied_by_known (Settled (g.K.Sink.state c.args.sink.now) (g.K.Sink.state c.recopy.new.sink)) c.args.plan.now.limits (g.S.Source.state c.args.source.now) (g.S.Source.state c.recopy.new.source) (named (plan_data c.args.plan.now)) columns (λ copied. copied.oids) (λ copied. copied.rows) c.recopy.result
    (subst (λ known. IfOk c.recopy.result (λ copied. AreFound known (needs_of columns) copied.oids)) told c.recopy.ensures.oids) c.recopy.ensures.copied

pub returns-clause-fault : goal.returns-clause-fault
returns-clause-fault g c = λ fault is.
    let told = told_is (plan_data c.args.plan.now) c.in_ok-catalog.catalog _ _ c.in_ok-catalog.ensures c.as_slice.ensures c.new-lookup.ensures.known in
    record {
      says = took_weaker (subst (λ known. Took (g.S.Source.state c.args.source.now) (g.S.Source.state c.recopy.new.source)
          (copy_says c.args.plan.now.limits (column_shapes c.args.plan.now.schema) (AreFound known (needs_of (column_shapes c.args.plan.now.schema))) (λ found. canonical_front (known_of found) (column_shapes c.args.plan.now.schema)) fault
          (Wrote (g.K.Sink.state c.args.sink.now) (g.K.Sink.state c.recopy.new.sink)))) told (c.recopy.ensures.fault fault is))
          (λ taken. says_by_known c.args.plan.now.limits fault (Wrote (g.K.Sink.state c.args.sink.now) (g.K.Sink.state c.recopy.new.sink)) taken (named (plan_data c.args.plan.now)) (column_shapes c.args.plan.now.schema));
      at_end = λ e. c.recopy.ensures.truncated (is ∙ ap Err e);
      source_failed = λ e. c.recopy.ensures.read_fault (is ∙ ap Err e);
      sink_failed = λ e. c.recopy.ensures.write_fault (is ∙ ap Err e);
      is_missing = λ key e. c.recopy.ensures.unknown_type key (is ∙ ap Err e) (named (plan_data c.args.plan.now)) told;
      looked_up = λ e. never_failed (needs_of (column_shapes c.args.plan.now.schema)) c.in_ok-catalog.catalog c.recopy.new.lookup.catalog _ _ (ap (λ catalog. never_fails catalog.searches.fails) c.in_ok-catalog.ensures)
          (ap (λ t. t.faultless) c.recopy.ensures.told ∙ ap (λ catalog. (catalog_state catalog).told.faultless) c.new-lookup.ensures.catalog) refl (c.recopy.ensures.lookup_fault (is ∙ ap Err e));
    }

pub returns-clause-unmet : goal.returns-clause-unmet
returns-clause-unmet g c = λ key missing.
    let told = told_is (plan_data c.args.plan.now) c.in_ok-catalog.catalog _ _ c.in_ok-catalog.ensures c.as_slice.ensures c.new-lookup.ensures.known in
    c.recopy.ensures.unmet (named (plan_data c.args.plan.now)) key told missing (never_failed (needs_of (column_shapes c.args.plan.now.schema)) c.in_ok-catalog.catalog c.recopy.new.lookup.catalog _ _ (ap (λ catalog. never_fails catalog.searches.fails) c.in_ok-catalog.ensures)
    (ap (λ t. t.faultless) c.recopy.ensures.told ∙ ap (λ catalog. (catalog_state catalog).told.faultless) c.new-lookup.ensures.catalog) refl)

pub returns-clause-complete : goal.returns-clause-complete
returns-clause-complete g c = λ none valid reads writes.
    let told = told_is (plan_data c.args.plan.now) c.in_ok-catalog.catalog _ _ c.in_ok-catalog.ensures c.as_slice.ensures c.new-lookup.ensures.known in
    c.recopy.ensures.complete (met_all _ (named (plan_data c.args.plan.now)) (needs_of (column_shapes c.args.plan.now.schema)) told none) (never_failed (needs_of (column_shapes c.args.plan.now.schema)) c.in_ok-catalog.catalog c.recopy.new.lookup.catalog _ _ (ap (λ catalog. never_fails catalog.searches.fails) c.in_ok-catalog.ensures)
    (ap (λ t. t.faultless) c.recopy.ensures.told ∙ ap (λ catalog. (catalog_state catalog).told.faultless) c.new-lookup.ensures.catalog) refl) valid reads writes

pub returns-in_err-catalog-clause-fault : goal.returns-in_err-catalog-clause-fault
returns-in_err-catalog-clause-fault g c = λ fault is.
    let same : NoMemory ≡ fault = cc (exit c.from_residual.result _ c.from_residual.ensures.1) in
    subst (λ f. MetFault (plan_data c.args.plan.now) f (g.S.Source.state c.args.source.now) (g.S.Source.state c.args.source.now) (g.K.Sink.state c.args.sink.now) (g.K.Sink.state c.args.sink.now)) same
    (no_memory_met (plan_data c.args.plan.now) _ _)
