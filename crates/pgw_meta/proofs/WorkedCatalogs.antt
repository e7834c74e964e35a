-- What the definitions say of a catalog, and of a cache over one, that are written out.
use Rattle.std.proofs.Common.{◌≡◌, ℕ, List, [], ◌∷◌, Some, None, refl}
use Rattle.pgw_meta.specs.Known.{Key, Oids}
use Rattle.pgw_meta.specs.Cached.{behind_cache}
use Rattle.pgw_meta.specs.Catalog.{Catalog, in_schema, catalog_known}
use Rattle.pgw_meta.specs.declared.found_oids.Found.{Found}

-- the names `t` and `u`, and the schemas `a` and `b`
abbrev t : List ℕ
t = 116 ∷ []

abbrev u : List ℕ
u = 117 ∷ []

abbrev a : List ℕ
a = 97 ∷ []

abbrev b : List ℕ
b = 98 ∷ []

abbrev bare : List ℕ → Key
bare name = record { schema = None; name = name }

abbrev both : ℕ → ℕ → Oids
both n m = record { oid = n; array_oid = m }

abbrev entry : List ℕ → List ℕ → ℕ → ℕ → Found
entry schema name n m = record { key = record { schema = Some schema; name = name }; oid = n; array_oid = m }

-- the catalog of `a.t`, `b.t` and `a.u` with this path, of which no search fails
abbrev catalog : List (List ℕ) → Catalog
catalog path = record {
  entries = entry a t 1 2 ∷ entry b t 3 4 ∷ entry a u 5 6 ∷ [];
  path = path;
  searches = record { fails = []; calls = 0; faults = 0 };
}

pub on_the_path : catalog_known (catalog (b ∷ [])) (bare t) ≡ Some (both 3 4)
on_the_path = refl

pub in_a_schema : catalog_known (catalog (b ∷ [])) (in_schema a t) ≡ Some (both 1 2)
in_a_schema = refl

-- The path is searched from its front, and a name that its first schema lacks is found in the next.
pub first_of_the_path : catalog_known (catalog (a ∷ b ∷ [])) (bare t) ≡ Some (both 1 2)
first_of_the_path = refl

pub next_of_the_path : catalog_known (catalog (b ∷ a ∷ [])) (bare u) ≡ Some (both 5 6)
next_of_the_path = refl

pub not_on_the_path : catalog_known (catalog (b ∷ [])) (bare u) ≡ None
not_on_the_path = refl

pub no_path : catalog_known (catalog []) (bare t) ≡ None
no_path = refl

-- What the cache holds counts, and of other keys what is known besides.
abbrev cache : List (Key × Oids)
cache = (bare t, both 7 8) ∷ []

pub cache_counts : behind_cache cache (catalog_known (catalog (b ∷ []))) (bare t) ≡ Some (both 7 8)
cache_counts = refl

pub cache_lacks : behind_cache cache (catalog_known (catalog (b ∷ []))) (in_schema b t) ≡ Some (both 3 4)
cache_lacks = refl
