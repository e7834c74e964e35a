-- What is answered of a type whose oids never change.
use Rattle.std.specs.Prelude.{◌≡◌, ℕ, Result, Ok, Err}
use Rattle.pgw_meta.specs.Metadata.{metadata_of}
use Rattle.pgw_meta.specs.declared.backend.PgTypeMetadata.{PgTypeMetadata}
use Rattle.pgw_meta.specs.declared.metadata_lookup.LookupError.{LookupError}

-- The answer is Ok, with these oids, of the type and of its arrays.
abbrev pub AreOids : ℕ → ℕ → Result PgTypeMetadata LookupError → Type 0
AreOids oid array_oid (Ok metadata) = metadata_of metadata ≡ Ok (record { oid = oid; array_oid = array_oid })
AreOids oid array_oid (Err e) = ⊥
