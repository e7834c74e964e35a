-- What a catalog in memory has, and which of its entries a key finds.
use Rattle.std.specs.Prelude.{ℕ, ◌≡◌, Bool, true, false, IsTrue, List, [], ◌∷◌, Option, None, Some}
use Rattle.std.specs.Option.{option_or}
use Rattle.pgw_wire.specs.Memory.{Calls}
use Rattle.std.proofs.Common.{refl}
use Rattle.std.proofs.lemmas.Bool.{false≢true}
use Rattle.pgw_meta.specs.Known.{Key, Oids, Known, LookupState}
use Rattle.pgw_meta.specs.NamedOids.{known_of}
use Rattle.pgw_meta.specs.declared.found_oids.Found.{Found}

-- its entries, each of a name in a schema, the schemas that a name without one is searched in, and its searches
pub record Catalog : Type 0 where
  pub entries : List Found
  pub path : List (List ℕ)
  pub searches : Calls

abbrev pub in_schema : List ℕ → List ℕ → Key
in_schema schema name = record { schema = Some schema; name = name }

-- the oids of a name in the first schema of a path that has it
abbrev pub on_path : List Found → List (List ℕ) → List ℕ → Option Oids
on_path entries [] name = None
on_path entries (schema ∷ path) name = option_or (known_of entries (in_schema schema name)) (on_path entries path name)

-- the oids of a name in a schema, or in none that is said
abbrev pub oids_in : List Found → List (List ℕ) → Option (List ℕ) → List ℕ → Option Oids
oids_in entries path None name = on_path entries path name
oids_in entries path (Some schema) name = known_of entries (in_schema schema name)

abbrev pub catalog_known : Catalog → Known
catalog_known c key = oids_in c.entries c.path key.schema key.name

-- A catalog without searches that fail is told to never fail, and counts no fault.
abbrev pub never_fails : List ℕ → Bool
never_fails [] = true
never_fails (k ∷ ks) = false

abbrev pub faults_of : List ℕ → ℕ → ℕ
faults_of [] n = 0
faults_of (k ∷ ks) n = n

abbrev pub catalog_state : Catalog → LookupState
catalog_state c = record {
  told = record { known = Some (catalog_known c); faultless = never_fails c.searches.fails };
  fault_count = faults_of c.searches.fails c.searches.faults;
  origin = tt;
}

no_faults_of : (fails : List ℕ) (n : ℕ) → IsTrue (never_fails fails) → faults_of fails n ≡ 0
no_faults_of [] n h = refl
no_faults_of (k ∷ ks) n h = absurd (false≢true h)

pub no_faults : (c : Catalog) → IsTrue (catalog_state c).told.faultless → (catalog_state c).fault_count ≡ 0
no_faults c h = no_faults_of c.searches.fails c.searches.faults h
