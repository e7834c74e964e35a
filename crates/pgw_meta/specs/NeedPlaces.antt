-- Where a key stands among needs, for the crate's own functions.
use Rattle.std.specs.Prelude.{ℕ, ◌<◌, List, length, get_or, IsTrue, IsFalse}
use Rattle.pgw_meta.specs.Known.{Key}
use Rattle.pgw_meta.specs.Keys.{owned_key}
use Rattle.pgw_meta.specs.Needs.{is_same_key}
use Rattle.pgw_meta.specs.declared.needs.Need.{Need}

-- None of the first n needs has the key.
abbrev pub IsNewKey : List Need → Key → ℕ → Type 0
IsNewKey needs key n = (i : ℕ) (d : Need) → i < n → IsFalse (is_same_key (owned_key (get_or needs i d).key) key)

-- It is the place of the first need that has the key.
pub record IsFirstPlace (needs : List Need) (key : Key) (place : ℕ) : Type 0 where
  pub within : place < length needs
  pub has : (d : Need) → IsTrue (is_same_key (owned_key (get_or needs place d).key) key)
  pub first : IsNewKey needs key place
