use Rattle.std.proofs.Common.{◌∙◌, option_map, sym, ap}
use Rattle.pgw_meta.specs.Known.{Knowledge, known}
use Rattle.pgw_meta.specs.Keys.{key_of}
use Rattle.pgw_meta.specs.Metadata.{oids_of}
use Rattle.pgw_meta.specs.Cached.{cached, behind_cache}
use Rattle.pgw_meta.proofs.SameKeys.{behind_kept, not_cached}
use Rattle.pgw_meta.proofs.cached_lookup.CachedLookupPgMetadataLookup.lookup_type.Goals as goal

pub returns-in_ok-store_type-in-Some-2-clause-known : goal.returns-in_ok-store_type-in-Some-2-clause-known
returns-in_ok-store_type-in-Some-2-clause-known g c =
    let before = c.args.self.now in
    let key = key_of c.borrowed-key.result in
    ap (λ (told : Knowledge). option_map (behind_cache c.store_type.new.self) told.known) c.in_ok-oids.ensures.told
    ∙ behind_kept before.cache c.store_type.new.self key (oids_of c.in-Some-2.oids) (known (g.C.TypeCatalog.state before.catalog))
    (not_cached c.lookup_type.result (cached before.cache key) c.in_default.is c.lookup_type.ensures)
    c.in_ok-store_type-in-Some-2.ensures.stored
    (λ k told. ap (option_map oids_of) (sym c.in-Some-2.is) ∙ c.in_ok-oids.ensures.found k told)
