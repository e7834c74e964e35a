use Rattle.std.proofs.Common.{◌≡◌, ◌∙◌, ◌+◌, OnOk, drop, sym, ap, subst}
use Rattle.std.proofs.lemmas.Result.{on_ok_weaker}
use Rattle.pgw_meta.specs.Needs.{needed_keys, with_needs, oid_needs, field_needs, components_needs}
use Rattle.pgw_meta.specs.Types.{shape, shapes}
use Rattle.pgw_meta.specs.declared.types.PgType.{PgType}
use Rattle.pgw_meta.proofs.AddedNeeds.{components_more, record_needs, array_needs}
use Rattle.pgw_meta.proofs.needs.+needs.Goals as goal

pub add_components_needs-loop-component-preserved : goal.add_components_needs-loop-component-preserved
add_components_needs-loop-component-preserved t c =
    let rest = components_needs (shapes (drop (c.loop-component.component-index + 1) c.args.components.now)) in
    ap (λ ns. with_needs ns rest) (c.in_ok-add_field_needs.ensures ∙ ap (λ ns. with_needs ns (field_needs (shape c.component-item.result))) c.in_ok-add_oid_needs.ensures)
    ∙ sym (components_more (needed_keys c.loop-component.needs) c.args.components.now c.loop-component.component-index c.component-item.result c.loop-component-test.true c.component-item.is)
    ∙ c.loop-component.invariant

pub add_field_needs-returns-in_ok-add_oid_needs-in-Array : goal.add_field_needs-returns-in_ok-add_oid_needs-in-Array
add_field_needs-returns-in_ok-add_oid_needs-in-Array t c =
    on_ok_weaker c.add_field_needs.result (array_needs (needed_keys c.args.needs.now) (needed_keys c.add_oid_needs.new.needs) (needed_keys c.add_field_needs.new.needs) c.args.t.now c.in-Array.element c.in-Array.is
    (c.in_ok-add_oid_needs-in-Array.ensures ∙ ap (λ (u : PgType). with_needs (needed_keys c.args.needs.now) (oid_needs (shape u))) c.deref.ensures))
    (subst (λ (u : PgType). OnOk c.add_field_needs.result (needed_keys c.add_field_needs.new.needs ≡ with_needs (needed_keys c.add_oid_needs.new.needs) (field_needs (shape u)))) c.deref-in-Array.ensures c.add_field_needs.ensures)

pub add_field_needs-returns-in-Record : goal.add_field_needs-returns-in-Record
add_field_needs-returns-in-Record t c =
    on_ok_weaker c.add_components_needs.result
    (record_needs (needed_keys c.args.needs.now) (needed_keys c.add_components_needs.new.needs) c.args.t.now c.in-Record.components c.as_slice.result.now c.in-Record.is c.as_slice.ensures)
    c.add_components_needs.ensures
