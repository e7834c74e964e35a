use Rattle.std.proofs.Common.{◌≡◌, [], Some, sym, append-nil, inl, refl, ap, ◌∙◌}
use Rattle.pgw_meta.specs.Known.{known}
use Rattle.pgw_meta.specs.Metadata.{failed_key}
use Rattle.pgw_record.proofs.MembersWritten.{component_wrote}
use Rattle.pgw_record.proofs.record_writing.write_component.Goals as goal

pub returns-in-Ok-clause-wrote : goal.returns-in-Ok-clause-wrote
returns-in-Ok-clause-wrote g c =
    let w = c.write_cell.ensures.wrote in
    let m = c.in_ok-metadata.ensures in (
      w.0,
      w.1,
      λ k t.
          let asked : known (g.L.PgMetadataLookup.state c.metadata_lookup.result.now) ≡ Some k = ap (λ l. known (g.L.PgMetadataLookup.state l)) c.metadata_lookup.ensures.value ∙ t in
          component_wrote g.bound-3.names g.T.ToSql.writes k c.args.value.now (record { oid = c.in-Ok.oid; array_oid = c.in-Ok.field-0-1 }) w.0 c.write_cell.result
          (sym (c.in-Ok.ensures ∙ m.named k asked)) (w.2 k (ap (λ s. s.known) m.told ∙ asked)),
    )

pub returns-in-Err-clause-wrote : goal.returns-in-Err-clause-wrote
returns-in-Err-clause-wrote g c = (
  [],
  sym (append-nil _),
  λ k t.
      let asked : known (g.L.PgMetadataLookup.state c.metadata_lookup.result.now) ≡ Some k = ap (λ l. known (g.L.PgMetadataLookup.state l)) c.metadata_lookup.ensures.value ∙ t in
      inl (failed_key c.in-Err.unknown, sym (c.in-Err.ensures ∙ c.in_ok-metadata.ensures.named k asked), refl),
)
