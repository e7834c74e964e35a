use Rattle.std.proofs.Common.{◌∙◌, ◌+◌, drop, flat_map, sym, ap}
use Rattle.pgw_meta.specs.Types.{column_shapes}
use Rattle.pgw_meta.specs.Needs.{needed_keys, with_needs, field_needs}
use Rattle.pgw_meta.proofs.AddedNeeds.{columns_more}
use Rattle.pgw_meta.proofs.needs.needs_of_columns.Goals as goal

pub loop-t-preserved : goal.loop-t-preserved
loop-t-preserved c =
    let rest = flat_map field_needs (column_shapes (drop (c.loop-t.t-index + 1) c.args.columns.now)) in
    ap (λ ns. with_needs ns rest) c.in_ok-add_field_needs.ensures
    ∙ sym (columns_more (needed_keys c.loop-t.needs) c.args.columns.now c.loop-t.t-index c.t-item.result c.loop-t-test.true c.t-item.is)
    ∙ c.loop-t.invariant
