use Rattle.std.proofs.Common.{◌∙◌, refl, sym, subst}
use Rattle.std.proofs.lemmas.Option.{none-some}
use Rattle.std.proofs.lemmas.Result.{err_from_is_err_and}
use Rattle.pgw_wire.proofs.Taking.{exit, took_none, takes_refused, takes_first, takes_done}
use Rattle.pgw_meta.specs.Types.{column_shapes}
use Rattle.pgw_meta.specs.Needs.{needed_keys}
use Rattle.pgw_tree.specs.Canonical.{canonical_front}
use Rattle.pgw_tree.specs.Lookups.{IsLookupFault}
use Rattle.pgw_tree.specs.declared.fault.CopyFault.TheVariants.{UnknownType, LookupFault}
use Rattle.pgw_tree.proofs.LookedUp.{cause_says, found_says, cause_not_cut, cause_not_unread, cause_not_unwritten, cause_unknown, cause_failed, cause_unmet, cause_met, lookup_answer, no_lookup_answer}
use Rattle.pgw_meta.specs.NamedOids.{known_of}
use Rattle.pgw_tree.proofs.stream.copy_found.Goals as goal

pub returns-in_err-oids-clause-takes : goal.returns-in_err-oids-clause-takes
returns-in_err-oids-clause-takes g c =
    let ts = column_shapes c.args.types.now in
    let cause = c.in_err-oids.ensures.err in
    takes_refused _ _ (exit c.from_residual.result _ c.from_residual.ensures.1) (took_none (cause_says c.args.limits ts _ (λ found. canonical_front (known_of found) ts) _ _ cause))
    (λ is. absurd (cause_not_cut cause is)) (λ is. absurd (cause_not_unread cause is))

pub returns-in_err-oids-clause-write_fault : goal.returns-in_err-oids-clause-write_fault
returns-in_err-oids-clause-write_fault g c = λ is.
    let exits = exit c.from_residual.result _ c.from_residual.ensures.1 in
    absurd (cause_not_unwritten c.in_err-oids.ensures.err (cc))

pub returns-in_err-oids-clause-unknown_type : goal.returns-in_err-oids-clause-unknown_type
returns-in_err-oids-clause-unknown_type g c = λ key is.
    let exits = exit c.from_residual.result _ c.from_residual.ensures.1 in
    cause_unknown c.in_err-oids.ensures.err key (cc)

pub returns-in_err-oids-clause-lookup_fault : goal.returns-in_err-oids-clause-lookup_fault
returns-in_err-oids-clause-lookup_fault g c = λ is.
    let exits = exit c.from_residual.result _ c.from_residual.ensures.1 in
    cause_failed c.in_err-oids.ensures.err (cc)

pub returns-in_err-oids-clause-unmet : goal.returns-in_err-oids-clause-unmet
returns-in_err-oids-clause-unmet g c = λ k key told unmet well.
    cause_unmet (needed_keys c.args.needs.now) c.from_residual.result k key (exit c.from_residual.result _ c.from_residual.ensures.1) c.in_err-oids.ensures.err told unmet well

pub returns-in_err-oids-clause-met : goal.returns-in_err-oids-clause-met
returns-in_err-oids-clause-met g c = λ met well lookup.
    let e = err_from_is_err_and c.from_residual.result lookup in
    let exits = exit c.from_residual.result _ c.from_residual.ensures.1 in
    cause_met _ _ (needed_keys c.args.needs.now) (λ none. let ok = (c.in_err-oids.ensures.no_needs none).0 in absurd (cc)) c.in_err-oids.ensures.err met well (subst IsLookupFault (cc) e.2)

pub returns-in_err-rows-clause-takes : goal.returns-in_err-rows-clause-takes
returns-in_err-rows-clause-takes g c =
    takes_first _ _ (exit c.from_residual-in_err-rows.result _ c.from_residual-in_err-rows.ensures.1) c.in_err-rows.ensures.takes (λ d bytes says. found_says c.in_ok-oids.oids (c.in_ok-oids.ensures.found) says)

pub returns-in_err-rows-clause-untouched : goal.returns-in_err-rows-clause-untouched
returns-in_err-rows-clause-untouched g c = λ lookup.
    let took = c.in_err-rows.ensures.takes.err _ refl in
    absurd (no_lookup_answer c.from_residual-in_err-rows.result took.has (exit c.from_residual-in_err-rows.result _ c.from_residual-in_err-rows.ensures.1) lookup)

pub returns-in_err-rows-clause-unknown_type : goal.returns-in_err-rows-clause-unknown_type
returns-in_err-rows-clause-unknown_type g c = λ key is.
    let took = c.in_err-rows.ensures.takes.err _ refl in
    absurd (no_lookup_answer c.from_residual-in_err-rows.result took.has (exit c.from_residual-in_err-rows.result _ c.from_residual-in_err-rows.ensures.1)
    (lookup_answer c.from_residual-in_err-rows.result (UnknownType key) is tt))

pub returns-in_err-rows-clause-lookup_fault : goal.returns-in_err-rows-clause-lookup_fault
returns-in_err-rows-clause-lookup_fault g c = λ is.
    let took = c.in_err-rows.ensures.takes.err _ refl in
    absurd (no_lookup_answer c.from_residual-in_err-rows.result took.has (exit c.from_residual-in_err-rows.result _ c.from_residual-in_err-rows.ensures.1)
    (lookup_answer c.from_residual-in_err-rows.result LookupFault is tt))

pub returns-in_err-rows-clause-met : goal.returns-in_err-rows-clause-met
returns-in_err-rows-clause-met g c = λ met well lookup.
    let took = c.in_err-rows.ensures.takes.err _ refl in
    no_lookup_answer c.from_residual-in_err-rows.result took.has (exit c.from_residual-in_err-rows.result _ c.from_residual-in_err-rows.ensures.1) lookup

pub returns-in_err-rows-clause-unmet : goal.returns-in_err-rows-clause-unmet
returns-in_err-rows-clause-unmet g c = λ k key told unmet well.
    absurd (none-some key (sym (c.in_ok-oids.ensures.none_unmet k told) ∙ unmet))

pub returns-clause-takes : goal.returns-clause-takes
returns-clause-takes g c = takes_done _ _ _ (c.in_ok-rows.ensures.takes.ok _ refl)

pub returns-clause-unmet : goal.returns-clause-unmet
returns-clause-unmet g c = λ k key told unmet well.
    absurd (none-some key (sym (c.in_ok-oids.ensures.none_unmet k told) ∙ unmet))

pub returns-in_err-oids-clause-unasked : goal.returns-in_err-oids-clause-unasked
returns-in_err-oids-clause-unasked g c = λ none. (c.in_err-oids.ensures.no_needs none).1

pub returns-in_err-rows-clause-unasked : goal.returns-in_err-rows-clause-unasked
returns-in_err-rows-clause-unasked g c = λ none. (c.in_ok-oids.ensures.no_needs none).1

pub returns-clause-unasked : goal.returns-clause-unasked
returns-clause-unasked g c = λ none. (c.in_ok-oids.ensures.no_needs none).1
