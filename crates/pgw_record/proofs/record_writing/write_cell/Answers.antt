use Rattle.std.proofs.Common.{◌++◌, List, ℕ, ap, ◌∙◌, append_assoc}
use Rattle.std.specs.Int.{w32, to_be_bytes}
use Rattle.pgw_meta.specs.Known.{known}
use Rattle.pgw_nested.proofs.RangeWritings.{value_wrote}
use Rattle.pgw_record.proofs.record_writing.write_cell.Goals as goal

pub returns-clause-wrote : goal.returns-clause-wrote
returns-clause-wrote g c =
    let b = c.in_ok-begin_component.ensures in
    let a = c.in_ok-write_element.ensures.wrote in
    let oid = to_be_bytes w32 c.args.oid in (
      oid ++ a.0,
      a.1 ∙ ap (λ (x : List ℕ). x ++ a.0) b.ok ∙ append_assoc c.args.out.now.out.now.bytes oid a.0,
      λ k t.
          let w = value_wrote (g.T.ToSql.writes k) c.args.value.now a.0 c.in_ok-write_element.field-0 (a.2 k (ap (λ l. known (g.L.PgMetadataLookup.state l)) b.lookup ∙ t)) in
          (w.0, w.1, ap (λ (x : List ℕ). oid ++ x) w.2),
    )
