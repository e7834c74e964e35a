use Rattle.std.proofs.Common.{◌∙◌, ap, refl}
use Rattle.std.proofs.lemmas.Result.{IfOk-weaker}
use Rattle.pgw_meta.specs.Metadata.{found}
use Rattle.pgw_meta.specs.Keys.{key_of, owned_key, text_of}
use Rattle.pgw_tree.proofs.Found.{asked_key}
use Rattle.pgw_tree.proofs.needs.ask.Goals as goal

pub returns-clause-found : goal.returns-clause-found
returns-clause-found g c =
    let same = asked_key (text_of c.schema.result) c.type_name.result.now (key_of c.as_key-key.result) (key_of c.as_key-key.result) (owned_key c.args.key.now) c.schema.ensures c.type_name.ensures refl c.as_key-key.ensures in
    IfOk-weaker c.lookup_type.result _ _ (λ metadata h k told. h k told ∙ ap (found k) same) c.lookup_type.ensures.found
