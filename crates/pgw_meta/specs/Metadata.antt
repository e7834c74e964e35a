-- The oids that metadata hold, or the key that was looked up and is not known.
use Rattle.std.specs.Borrow.{Bor}
use Rattle.std.specs.Prelude.{ℕ, Result}
use Rattle.std.specs.Option.{ok_or}
use Rattle.std.specs.Result.{result_map_both}
use Rattle.pgw_meta.specs.Known.{Key, Oids, Known}
use Rattle.pgw_meta.specs.Keys.{key_of}
use Rattle.pgw_meta.specs.declared.backend.InnerPgTypeMetadata.{InnerPgTypeMetadata}
use Rattle.pgw_meta.specs.declared.backend.FailedToLookupTypeError.{FailedToLookupTypeError}
use Rattle.pgw_meta.specs.declared.backend.PgTypeMetadata.{PgTypeMetadata}

abbrev pub oids_of : InnerPgTypeMetadata → Oids
oids_of m = record { oid = m.oid; array_oid = m.array_oid }

-- the key that is not known
abbrev pub failed_key : FailedToLookupTypeError → Key
failed_key e = key_of e.key

abbrev pub metadata_of : PgTypeMetadata → Result Oids Key
metadata_of m = result_map_both oids_of failed_key m.oids

-- the two oids as a pair, or the error with the key that is not known
abbrev pub oids_or_key : Result (ℕ × ℕ) FailedToLookupTypeError → Result Oids Key
oids_or_key r = result_map_both (λ p. record { oid = p.0; array_oid = p.1 }) failed_key r

-- the oid of the type, or of its arrays, or the key that is not known
abbrev pub type_oid : PgTypeMetadata → Result ℕ Key
type_oid m = result_map_both (λ oids. oids.oid) failed_key m.oids

abbrev pub array_type_oid : PgTypeMetadata → Result ℕ Key
array_type_oid m = result_map_both (λ oids. oids.array_oid) failed_key m.oids

-- an oid, or the error that the metadata keep
abbrev pub oid_or_key : Result ℕ (Bor FailedToLookupTypeError) → Result ℕ Key
oid_or_key r = result_map_both (λ oid. oid) (λ e. failed_key e.now) r

-- what is found of a key: its two oids, or the key itself, where it is not known
abbrev pub found : Known → Key → Result Oids Key
found known key = ok_or (known key) key
