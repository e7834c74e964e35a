use Rattle.pgw_record.specs.Written.{no_member, member}
use Rattle.pgw_record.proofs.MembersWritten.{component_then}
use Rattle.pgw_record.proofs.written_members.write_three.Goals as goal

pub returns-clause-wrote : goal.returns-clause-wrote
returns-clause-wrote g c =
    component_then g.bound-5.names g.A.ToSql.writes c.args.a.now
    (λ k. member g.bound-6.names g.B.ToSql.writes k c.args.b.now (member g.bound-7.names g.C.ToSql.writes k c.args.c.now no_member))
    _ _ _ (g.L.PgMetadataLookup.state c.args.out.now.lookup.now).told (g.L.PgMetadataLookup.state c.write_component.new.out.lookup.now).told _ c.write_two.result c.in_ok-write_component.ensures.wrote c.in_ok-write_component.ensures.told c.write_two.ensures.wrote
