-- The oids that a word gives a type: `oid=`, and behind it `[schema.]name:OID:ARRAYOID`.
use Rattle.std.specs.Prelude.{ℕ, ◌≡◌, ◌==◌, ◌&&◌, ◌||◌, ◌⊎◌, List, [], ◌∷◌, ◌++◌, length, codes, Bool, true, nat_lt, nat_le, Option, None, Some, option_map, map, IsSome, if◌then◌else◌}
use Rattle.std.specs.Char.{is_ascii_alphanumeric}
use Rattle.std.specs.List.{list_all, AllByRecursion, IsDistinct}
use Rattle.std.specs.Option.{unwrap_or, option_and_then}
use Rattle.pgw_meta.specs.Known.{Key}
use Rattle.pgw_meta.specs.Keys.{owned_key}
use Rattle.pgw_meta.specs.Needs.{is_same_key}
use Rattle.pgw_meta.specs.declared.found_oids.Found.{Found}
use Rattle.pgcopy.specs.Numbers.{read_number}
use Rattle.pgcopy.specs.declared.oid_words.GivenOids.{GivenOids}

-- a letter of ASCII, a digit or `_`
abbrev pub is_name_byte : ℕ → Bool
is_name_byte byte = is_ascii_alphanumeric byte || byte == 95

-- A name has 1 to 63 of these.
abbrev pub is_name : List ℕ → Bool
is_name text = nat_lt 0 (length text) && nat_le (length text) 63 && list_all is_name_byte text

-- the schema that a name without one stands in
abbrev pub searched_schema : List ℕ
searched_schema = codes "public"

-- A text stands for a type of a schema: the schema's name, a point and the type's, or of `public` the type's alone.
abbrev pub StandsFor : List ℕ → List ℕ → List ℕ → Type 0
StandsFor text schema name = (text ≡ schema ++ codes "." ++ name) ⊎ ((text ≡ name) × (schema ≡ searched_schema))

-- Bytes spell an entry: what stands for its type, the oid and the oid of the arrays, with a colon between each two.
pub record SpellsEntry (bytes : List ℕ) (entry : Found) : Type 0 where
  pub text : List ℕ
  pub oid : List ℕ
  pub array_oid : List ℕ
  pub is : bytes ≡ text ++ codes ":" ++ oid ++ codes ":" ++ array_oid
  pub schema : List ℕ
  pub in_schema : entry.key.schema ≡ Some schema
  pub stands_for : StandsFor text schema entry.key.name
  pub schema_is_name : is_name schema ≡ true
  pub name_is_name : is_name entry.key.name ≡ true
  pub oid_is : read_number 4294967295 oid ≡ Some entry.oid
  pub array_oid_is : read_number 4294967295 array_oid ≡ Some entry.array_oid

-- what stands in bytes in front of the first of these, and behind it
abbrev pub cut_at : ℕ → List ℕ → Option (List ℕ × List ℕ)
cut_at byte [] = None
cut_at byte (first ∷ bytes) =
    if first == byte then Some ([], bytes) else option_map (λ parts. (first ∷ parts.0, parts.1)) (cut_at byte bytes)

-- the schema and the name of what a text may stand for
abbrev pub names_in : List ℕ → List ℕ × List ℕ
names_in text = unwrap_or (cut_at 46 text) (searched_schema, text)

-- the entry of a schema and a name, where they are names, and of two oids, where these are there
abbrev pub entry_from : List ℕ × List ℕ → Option ℕ → Option ℕ → Option Found
entry_from names None array_oid = None
entry_from names (Some oid) None = None
entry_from names (Some oid) (Some array_oid) =
    if is_name names.0 && is_name names.1
    then Some (record { key = record { schema = Some names.0; name = names.1 }; oid = oid; array_oid = array_oid })
    else None

-- the entry of bytes that are cut at their first colon
abbrev pub entry_behind : List ℕ × List ℕ → Option Found
entry_behind parts =
    option_and_then
    (λ (oids : List ℕ × List ℕ). entry_from (names_in parts.0) (read_number 4294967295 oids.0) (read_number 4294967295 oids.1))
    (cut_at 58 parts.1)

-- The entry that bytes spell. `SpellsEntry` says which that is, and `proofs/OidWords.antt` that they agree.
abbrev pub entry_in : List ℕ → Option Found
entry_in bytes = option_and_then entry_behind (cut_at 58 bytes)

-- the schema that a key stands in
abbrev pub schema_of : Key → List ℕ
schema_of key = unwrap_or key.schema searched_schema

-- the key of an entry
abbrev pub entry_key : Found → Key
entry_key entry = owned_key entry.key

-- These may be the entries of a catalog: each key says its schema, and no two keys are the same.
pub record AreEntries (entries : List Found) : Type 0 where
  pub placed : AllByRecursion (λ (entry : Found). IsSome entry.key.schema) entries
  pub once : IsDistinct is_same_key (map entry_key entries)

-- the entry of the oids that a word gives
abbrev pub given_entry : GivenOids → Found
given_entry given = record {
  key = record { schema = Some given.schema.now; name = given.name.now };
  oid = given.oid;
  array_oid = given.array_oid;
}
