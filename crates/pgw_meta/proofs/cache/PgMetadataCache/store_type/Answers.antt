use Rattle.std.proofs.Common.{◌∙◌, Some, cond, List, ap}
use Rattle.pgw_meta.specs.Known.{Key, Oids}
use Rattle.pgw_meta.specs.Keys.{key_of}
use Rattle.pgw_meta.specs.Metadata.{oids_of}
use Rattle.pgw_meta.specs.Needs.{is_same_key}
use Rattle.pgw_meta.specs.Cached.{cached, entries_of}
use Rattle.pgw_meta.proofs.SameKeys.{stored_is_cached}
use Rattle.pgw_meta.proofs.cache.PgMetadataCache.store_type.Goals as goal

pub returns-clause-stored : goal.returns-clause-stored
returns-clause-stored c = λ key.
    let old = c.self.inside.entries.entries in
    let w = Some (oids_of c.args.type_metadata) in
    let updates = c.in_ok-insert.ensures.updates in
    stored_is_cached c.in_ok-key.key c.args.type_metadata old c.insert.new.self.entries updates.1 updates.3 key
    ∙ ap (λ (k : Key). cond (is_same_key key k) w (cached (entries_of old) key)) c.in_ok-key.ensures
    ∙ ap (λ (es : List (Key × Oids)). cond (is_same_key key (key_of c.args.type_name)) w (cached es key)) c.self.view_is
