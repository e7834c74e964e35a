-- What a cache holds: the two oids of each key in it.
use Rattle.std.specs.Prelude.{◌≡◌, List, map, Some, Result, Ok, Err, if◌then◌else◌}
use Rattle.std.specs.Option.{option_or}
use Rattle.std.specs.Map.{lookup}
use Rattle.pgw_meta.specs.Known.{Key, Oids, Known}
use Rattle.pgw_meta.specs.Keys.{key_of}
use Rattle.pgw_meta.specs.Metadata.{oids_of}
use Rattle.pgw_meta.specs.Needs.{is_same_key}
use Rattle.pgw_meta.specs.declared.backend.InnerPgTypeMetadata.{InnerPgTypeMetadata}
use Rattle.pgw_meta.specs.declared.key.PgMetadataCacheKey.{PgMetadataCacheKey}

-- the entries of a map by their texts and numbers
abbrev pub entries_of : List (PgMetadataCacheKey × InnerPgTypeMetadata) → List (Key × Oids)
entries_of es = map (λ e. (key_of e.0, oids_of e.1)) es

-- as a finite map
abbrev pub cached : List (Key × Oids) → Known
cached entries key = lookup (is_same_key key) entries

-- What is known behind a cache: what it holds, and what is known besides of each key that it does not hold.
abbrev pub behind_cache : List (Key × Oids) → Known → Known
behind_cache entries known key = option_or (cached entries key) (known key)

-- What a lookup by this key stores, by what it answers: the oids that it has, in place of those that the key had, and of a
-- key that is not known nothing.
abbrev pub Stores : List (Key × Oids) → List (Key × Oids) → Key → Result Oids Key → Type 0
Stores before now key (Ok oids) = (k : Key) → cached now k ≡ (if is_same_key k key then Some oids else cached before k)
Stores before now key (Err unknown) = now ≡ before
