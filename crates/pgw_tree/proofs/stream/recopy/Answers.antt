use Rattle.std.proofs.Common.{◌∙◌, ap}
use Rattle.std.proofs.lemmas.Result.{IfOk-weaker}
use Rattle.pgw_meta.specs.Types.{column_shapes}
use Rattle.pgw_meta.specs.Needs.{needed_keys}
use Rattle.pgw_tree.specs.Canonical.{canonical_front}
use Rattle.pgw_tree.proofs.Finish.{settled_ok, complete, refused, taken_of, gained_of}
use Rattle.pgw_tree.proofs.Covered.{covered}
use Rattle.pgw_meta.specs.NamedOids.{known_of}
use Rattle.pgw_tree.proofs.stream.recopy.Goals as goal

pub returns-clause-settled : goal.returns-clause-settled
returns-clause-settled g c =
    let ts = column_shapes c.args.schema.now in
    settled_ok c.args.limits ts _ (λ found. canonical_front (known_of found) ts) _ _ _ _ c.copy_found.result (rw (c.as_slice.ensures ∙ c.columns.ensures.types, ap needed_keys c.as_slice-2.ensures ∙ c.needs.ensures) at c.copy_found.ensures.takes)

pub returns-clause-complete : goal.returns-clause-complete
returns-clause-complete g c = λ met asked.
    let ts = column_shapes c.args.schema.now in
    complete c.args.limits ts _ (λ found. canonical_front (known_of found) ts) _ _ _ _ c.copy_found.result (rw (c.as_slice.ensures ∙ c.columns.ensures.types, ap needed_keys c.as_slice-2.ensures ∙ c.needs.ensures) at c.copy_found.ensures.takes) c.copy_found.ensures.write_fault
    ((rw (ap needed_keys c.as_slice-2.ensures ∙ c.needs.ensures) at c.copy_found.ensures.met) met asked)

pub returns-clause-refused : goal.returns-clause-refused
returns-clause-refused g c =
    let ts = column_shapes c.args.schema.now in
    refused c.args.limits ts _ (λ found. canonical_front (known_of found) ts) _ _ _ _ c.copy_found.result (rw (c.as_slice.ensures ∙ c.columns.ensures.types, ap needed_keys c.as_slice-2.ensures ∙ c.needs.ensures) at c.copy_found.ensures.takes)

pub returns-clause-taken : goal.returns-clause-taken
returns-clause-taken g c =
    let ts = column_shapes c.args.schema.now in
    taken_of c.args.limits ts _ (λ found. canonical_front (known_of found) ts) _ _ _ _ c.copy_found.result (rw (c.as_slice.ensures ∙ c.columns.ensures.types, ap needed_keys c.as_slice-2.ensures ∙ c.needs.ensures) at c.copy_found.ensures.takes)

pub returns-clause-gained : goal.returns-clause-gained
returns-clause-gained g c =
    let ts = column_shapes c.args.schema.now in
    gained_of c.args.limits ts _ (λ found. canonical_front (known_of found) ts) _ _ _ _ c.copy_found.result (rw (c.as_slice.ensures ∙ c.columns.ensures.types, ap needed_keys c.as_slice-2.ensures ∙ c.needs.ensures) at c.copy_found.ensures.takes)

pub returns-clause-unknown_type : goal.returns-clause-unknown_type
returns-clause-unknown_type g c = rw (ap needed_keys c.as_slice-2.ensures ∙ c.needs.ensures) at c.copy_found.ensures.unknown_type

pub returns-clause-lookup_fault : goal.returns-clause-lookup_fault
returns-clause-lookup_fault g c = rw (ap needed_keys c.as_slice-2.ensures ∙ c.needs.ensures) at c.copy_found.ensures.lookup_fault

pub returns-clause-unmet : goal.returns-clause-unmet
returns-clause-unmet g c = rw (ap needed_keys c.as_slice-2.ensures ∙ c.needs.ensures) at c.copy_found.ensures.unmet

pub returns-clause-met : goal.returns-clause-met
returns-clause-met g c = rw (ap needed_keys c.as_slice-2.ensures ∙ c.needs.ensures) at c.copy_found.ensures.met

pub returns-clause-oids : goal.returns-clause-oids
returns-clause-oids g c = rw (ap needed_keys c.as_slice-2.ensures ∙ c.needs.ensures) at c.copy_found.ensures.oids

pub returns-clause-unasked : goal.returns-clause-unasked
returns-clause-unasked g c = rw (ap needed_keys c.as_slice-2.ensures ∙ c.needs.ensures) at c.copy_found.ensures.unasked

pub returns-clause-covers : goal.returns-clause-covers
returns-clause-covers g c =
    IfOk-weaker c.copy_found.result _ _ (λ copied found. covered _ (column_shapes c.args.schema.now) copied.oids found) (rw (ap needed_keys c.as_slice-2.ensures ∙ c.needs.ensures) at c.copy_found.ensures.oids)

pub returns-clause-fault : goal.returns-clause-fault
returns-clause-fault g c = λ fault is.
    (rw (c.as_slice.ensures ∙ c.columns.ensures.types, ap needed_keys c.as_slice-2.ensures ∙ c.needs.ensures) at c.copy_found.ensures.takes).err fault is
