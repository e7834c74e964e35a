use Rattle.std.specs.declared.ops.Bound.TheVariants.{Included, Excluded}
use Rattle.pgw_nested.proofs.RangeWritings.{value_wrote}
use Rattle.pgw_nested.proofs.range_writing.write_bound.Goals as goal

pub returns-in_ok-write_element-in-Included-clause-wrote : goal.returns-in_ok-write_element-in-Included-clause-wrote
returns-in_ok-write_element-in-Included-clause-wrote g c =
    let a = c.in_ok-write_element-in-Included.ensures.wrote in
    rw c.in-Included.is
    (a.0, a.1, λ k t. let w = value_wrote (g.T.ToSql.writes k) c.in-Included.value.now a.0 c.in_ok-write_element-in-Included.field-0 (a.2 k t) in (Included w.0, w.1, w.2))

pub returns-in_ok-write_element-in-Excluded-clause-wrote : goal.returns-in_ok-write_element-in-Excluded-clause-wrote
returns-in_ok-write_element-in-Excluded-clause-wrote g c =
    let a = c.in_ok-write_element-in-Excluded.ensures.wrote in
    rw c.in-Excluded.is
    (a.0, a.1, λ k t. let w = value_wrote (g.T.ToSql.writes k) c.in-Excluded.value.now a.0 c.in_ok-write_element-in-Excluded.field-0 (a.2 k t) in (Excluded w.0, w.1, w.2))
