use Rattle.std.proofs.Common.{◌∙◌, ◌+◌, ◌∷◌, [], ◌++◌, take, Ok, refl, sym, ap, subst, arith}
use Rattle.std.proofs.lemmas.List.{take_all, length-map}
use Rattle.pgw_wire.proofs.Taking.{exit}
use Rattle.pgw_meta.specs.Known.{Knowledge, known}
use Rattle.pgw_meta.specs.Needs.{needed_key, needed_keys}
use Rattle.pgw_tree.specs.Lookups.{AreFound, IsFound, no_memory}
use Rattle.pgw_tree.proofs.Found.{found_more, need_at, first_behind, all_met, cause_here, no_needs_no_place}
use Rattle.pgw_tree.proofs.needs.look_up_all.Goals as goal

pub loop-need-init : goal.loop-need-init
loop-need-init g c = record {
  found = subst (λ fs. AreFound (known (g.L.PgMetadataLookup.state c.args.lookup.now)) [] fs) (sym c.new-oids.ensures) tt;
  first = λ k is. refl;
  told = refl;
  faults = omega arith;
  none = λ none. (c.new-oids.ensures, refl);
}

pub loop-need-preserved : goal.loop-need-preserved
loop-need-preserved g c =
    let before = g.L.PgMetadataLookup.state c.args.lookup.now in
    let needs = needed_keys c.args.needs.now in
    let i = c.loop-need.need-index in
    let n = needed_key c.need-item.result in
    let oids = c.loop-need.oids in
    let f = c.in_ok-found.found in
    let inv = c.loop-need.invariant in
    let at = need_at c.args.needs.now i c.need-item.result c.loop-need-test.true c.need-item.is in
    let one : IsFound (known before) n f = subst (λ (t : Knowledge). IsFound t.known n f) inv.told c.in_ok-found.ensures.found in
    record {
      found = subst (λ fs. AreFound (known before) (take (i + 1) needs) fs) (sym c.in_ok-push.ensures.ok)
          (subst (λ ns. AreFound (known before) ns (oids ++ (f ∷ []))) (sym at.first) (found_more (known before) (take i needs) oids n f inv.found one));
      first = λ k is. first_behind (known before) needs i n f k at one is (inv.first k is);
      told = c.in_ok-found.ensures.told ∙ inv.told;
      faults = omega (arith, inv.faults, c.in_ok-found.ensures.faults);
      none = λ none. no_needs_no_place c.args.needs.now i c.loop-need-test.true none;
    }

pub returns-in_err-found-clause-err : goal.returns-in_err-found-clause-err
returns-in_err-found-clause-err g c =
    let inv = c.loop-need.invariant in
    let i = c.loop-need.need-index in
    let at = need_at c.args.needs.now i c.need-item.result c.loop-need-test.true c.need-item.is in
    rw (exit c.from_residual.result _ c.from_residual.ensures.1)
    (cause_here _ _ _ c.args.needs.now i c.need-item.result _ c.loop-need-test.true at inv.told inv.faults inv.first c.in_err-found.ensures.err)

pub returns-in_err-found-clause-no_needs : goal.returns-in_err-found-clause-no_needs
returns-in_err-found-clause-no_needs g c = λ none. no_needs_no_place c.args.needs.now c.loop-need.need-index c.loop-need-test.true none

pub returns-in_err-push-clause-no_needs : goal.returns-in_err-push-clause-no_needs
returns-in_err-push-clause-no_needs g c = λ none. no_needs_no_place c.args.needs.now c.loop-need.need-index c.loop-need-test.true none

pub returns-clause-found : goal.returns-clause-found
returns-clause-found g c =
    let needs = needed_keys c.args.needs.now in
    let i = c.loop-need.need-index in
    subst (λ ns. AreFound (known (g.L.PgMetadataLookup.state c.args.lookup.now)) ns c.loop-need.oids)
    (take_all i needs (omega (arith, c.loop-need-test.false, length-map c.args.needs.now needed_key))) c.loop-need.invariant.found

pub returns-clause-none_unmet : goal.returns-clause-none_unmet
returns-clause-none_unmet g c = λ k is.
    let needs = needed_keys c.args.needs.now in
    all_met needs c.loop-need.need-index k (omega (arith, c.loop-need-test.false, length-map c.args.needs.now needed_key)) (c.loop-need.invariant.first k is)

pub returns-clause-no_needs : goal.returns-clause-no_needs
returns-clause-no_needs g c = λ none. let same = c.loop-need.invariant.none none in (ap Ok same.0, same.1)

pub returns-in_err-push-clause-err : goal.returns-in_err-push-clause-err
returns-in_err-push-clause-err g c = rw (exit c.from_residual-in_err-push.result _ c.from_residual-in_err-push.ensures.1) (no_memory refl)
