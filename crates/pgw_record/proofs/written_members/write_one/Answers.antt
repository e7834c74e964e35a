use Rattle.pgw_record.proofs.MembersWritten.{component_alone}
use Rattle.pgw_record.proofs.written_members.write_one.Goals as goal

pub returns-clause-wrote : goal.returns-clause-wrote
returns-clause-wrote g c =
    component_alone g.bound-3.names g.A.ToSql.writes c.args.a.now _ _ (g.L.PgMetadataLookup.state c.args.out.now.lookup.now).told _ _ c.in_ok-write_component.ensures.wrote
