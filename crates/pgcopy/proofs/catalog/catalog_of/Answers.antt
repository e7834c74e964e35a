use Rattle.std.proofs.Common.{◌≡◌, Err, IsSome, ap, ◌∙◌, subst}
use Rattle.std.specs.Option.{unwrap_or}
use Rattle.pgw_meta.specs.Keys.{owned_key}
use Rattle.pgw_meta.specs.Catalog.{Catalog, in_schema}
use Rattle.pgw_meta.specs.NamedOids.{known_of}
use Rattle.pgcopy.specs.OidWords.{schema_of, searched_schema}
use Rattle.pgcopy.proofs.Looked.{entry_new, said_text}
use Rattle.pgcopy.proofs.catalog.catalog_of.Goals as goal

pub unreachable-requires : goal.unreachable-requires
unreachable-requires c =
    let entry = c.entry-item.result in
    let at : c.unwrap_or-schema.result.now ≡ schema_of (owned_key entry.key) = ap (λ t. t.now) c.unwrap_or-schema.ensures ∙ said_text c.schema.result _ ∙ ap (λ s. unwrap_or s searched_schema) (c.schema.ensures ∙ ap (λ k. k.schema) c.as_key-key.ensures) in
    let called : c.type_name.result.now ≡ entry.key.name = c.type_name.ensures ∙ ap (λ k. k.name) c.as_key-key.ensures in
    entry_new c.args.entries.now c.loop-entry.entry-index entry _ _ c.requires c.loop-entry-test.true c.entry-item.is at called
    (subst (λ (catalog : Catalog). IsSome (known_of catalog.entries (in_schema c.unwrap_or-schema.result.now c.type_name.result.now))) c.loop-entry.invariant
    (c.add.ensures.repeated.0 (c.in-Err-Repeated.is ∙ ap Err c.in-Err-Repeated.field-0-is)))
