-- How the type of a marker is named: by oids that never change, or by a key that is looked up.
use Rattle.std.specs.Prelude.{ℕ, ◌≡◌, Option, None, Some, Result, Ok, Err}
use Rattle.std.specs.Option.{ok_or}
use Rattle.std.proofs.Common.{sym, ◌∙◌, ap, subst, refl}
use Rattle.pgw_meta.specs.Known.{Key, Oids, Known}
use Rattle.pgw_meta.specs.Metadata.{found}

-- Under what is known, the oids of the type, or the key that it is looked up by. A key comes only where it is not known.
pub record Naming : Type 0 where
  pub oids : Known → Result Oids Key
  pub unknown : (known : Known) (key : Key) → oids known ≡ Err key → known key ≡ None

IsOk : Result Oids Key → Type 0
IsOk (Ok oids) = Unit {0}
IsOk (Err key) = ⊥

key_or : Key → Result Oids Key → Key
key_or key (Ok oids) = key
key_or key (Err other) = other

pub built_in_known : (oids : Oids) (known : Known) (key : Key) → Ok oids ≡ Err key → known key ≡ None
unfolding IsOk
built_in_known oids known key h = absurd (subst IsOk h tt)

-- PostgreSQL has the type, and its oids are these.
abbrev pub built_in : ℕ → ℕ → Naming
built_in oid array_oid =
    let oids : Oids = record { oid = oid; array_oid = array_oid } in
    record { oids = λ _. Ok oids; unknown = built_in_known oids }

same_key : (looked_up key : Key) (oids : Option Oids) → ok_or oids looked_up ≡ Err key → (oids ≡ None) × (looked_up ≡ key)
unfolding IsOk key_or
same_key looked_up key None h = (refl, ap (key_or key) h)
same_key looked_up key (Some oids) h = absurd (subst IsOk h tt)

pub looked_up_unknown : (looked_up : Key) (known : Known) (key : Key) → found known looked_up ≡ Err key → known key ≡ None
looked_up_unknown looked_up known key h =
    let same = same_key looked_up key (known looked_up) h in
    ap known (sym same.1) ∙ same.0

-- The type is looked up by this key.
abbrev pub looked_up_by : Key → Naming
looked_up_by key = record { oids = λ known. found known key; unknown = looked_up_unknown key }
