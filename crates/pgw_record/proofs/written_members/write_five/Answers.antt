use Rattle.pgw_record.specs.Written.{no_member, member}
use Rattle.pgw_record.proofs.MembersWritten.{component_then}
use Rattle.pgw_record.proofs.written_members.write_five.Goals as goal

pub returns-clause-wrote : goal.returns-clause-wrote
returns-clause-wrote g c =
    component_then g.bound-7.names g.A.ToSql.writes c.args.a.now
    (λ k. member g.bound-8.names g.B.ToSql.writes k c.args.b.now (member g.bound-9.names g.C.ToSql.writes k c.args.c.now (member g.bound-10.names g.D.ToSql.writes k c.args.d.now (member g.bound-11.names g.E.ToSql.writes k c.args.e.now no_member))))
    _ _ _ (g.L.PgMetadataLookup.state c.args.out.now.lookup.now).told (g.L.PgMetadataLookup.state c.write_component.new.out.lookup.now).told _ c.write_four.result c.in_ok-write_component.ensures.wrote c.in_ok-write_component.ensures.told c.write_four.ensures.wrote
