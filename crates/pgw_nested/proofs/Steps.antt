-- The steps of a reader, of which each may fail, and whose errors are told by a name.
use Rattle.std.proofs.Common.{◌≡◌, ◌⊎◌, inl, inr, Result, Ok, Err, refl, sym, ap}
use Rattle.pgw_wire.specs.declared.sql_error.SqlError.{SqlError}
use Rattle.pgw_nested.specs.Reading.{◌>>=◌, named}
use Rattle.pgw_nested.proofs.Exact.{ok_is, err_is}

pub bind_ok : {E A B : Type 0} (r : Result A E) (f : A → Result B E) (y : B) → (r >>= f) ≡ Ok y → (x : A) × (r ≡ Ok x) × (f x ≡ Ok y)
bind_ok (Ok x) f y e = (x, refl, e)
bind_ok (Err d) f y e = absurd cc

-- Either the first step fails, or the second.
pub bind_err : {E A B : Type 0} (r : Result A E) (f : A → Result B E) (d : E) → (r >>= f) ≡ Err d → (r ≡ Err d) ⊎ ((x : A) × (r ≡ Ok x) × (f x ≡ Err d))
bind_err (Ok x) f d e = inr (x, refl, e)
bind_err (Err k) f d e = inl cc

pub named_ok : {A E : Type 0} (name : SqlError → E) (r : Result A SqlError) (x : A) → named name r ≡ Ok x → r ≡ Ok x
named_ok {A = A} {E = E} name (Ok y) x e = ap Ok (ok_is {E = E} y x e)
named_ok name (Err d) x e = absurd cc

pub named_err : {A E : Type 0} (name : SqlError → E) (r : Result A SqlError) (e : E) → named name r ≡ Err e → (error : SqlError) × (r ≡ Err error) × (e ≡ name error)
named_err name (Ok y) e h = absurd cc
named_err {A = A} name (Err d) e h = (d, refl, sym (err_is {A = A} (name d) e h))

pub no_err : {A E : Type 0} (x : A) (e : E) → (let ok : A → Result A E = λ y. Ok y in ok x ≡ Err e) → ⊥
no_err x e h = absurd cc
