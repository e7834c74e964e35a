use Rattle.std.proofs.Common.{◌∙◌, Ok, Some, None, option_map, ap}
use Rattle.pgw_meta.specs.Metadata.{metadata_of}
use Rattle.pgw_meta.proofs.SameKeys.{found_in_cache}
use Rattle.pgw_meta.proofs.cache.PgMetadataCache.lookup_type.Goals as goal

pub returns-in_err-oids : goal.returns-in_err-oids
returns-in_err-oids c =
    ap (option_map metadata_of) c.from_residual.ensures
    ∙ ap (option_map Ok) (found_in_cache c.args.key.now c.self.inside.entries.entries c.args.self.now None c.in_err-oids.ensures.value c.self.view_is)

pub returns : goal.returns
returns c =
    ap Some c.new.ensures
    ∙ ap (option_map Ok) (found_in_cache c.args.key.now c.self.inside.entries.entries c.args.self.now (Some c.in_ok-oids.oids.now) c.in_ok-oids.ensures.value c.self.view_is)
