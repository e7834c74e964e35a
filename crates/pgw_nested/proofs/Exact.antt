-- When a function reads what is spelled, and refuses what fails. Then of one input at most one of both is so.
use Rattle.std.proofs.Common.{◌≡◌, ◌⊎◌, inl, inr, Result, Ok, Err, refl, sym, ◌∙◌}

-- A value that is spelled is read, and of an input of `Given` one that is read is spelled. Likewise of what fails.
pub record IsExact {C A E : Type 0} (Given : C → Type 0) (Spell : C → A → Type 0) (Fail : C → E → Type 0) (read : C → Result A E) : Type 0 where
  pub again : (c : C) (x : A) → Spell c x → read c ≡ Ok x
  pub spelled : (c : C) (x : A) → Given c → read c ≡ Ok x → Spell c x
  pub refused : (c : C) (e : E) → Fail c e → read c ≡ Err e
  pub fails : (c : C) (e : E) → Given c → read c ≡ Err e → Fail c e

pub ok_is : {A E : Type 0} (x y : A) → (let ok : A → Result A E = λ z. Ok z in ok x ≡ ok y) → x ≡ y
ok_is x y e = cc

pub err_is : {A E : Type 0} (x y : E) → (let err : E → Result A E = λ z. Err z in err x ≡ err y) → x ≡ y
err_is x y e = cc

pub never_both : {A E : Type 0} (r : Result A E) (x : A) (e : E) → r ≡ Ok x → r ≡ Err e → ⊥
never_both r x e ok err = absurd (cc)

module _ {C A E : Type 0} {Given : C → Type 0} {Spell : C → A → Type 0} {Fail : C → E → Type 0} {read : C → Result A E} (exact : IsExact Given Spell Fail read) where
  pub one_value : (c : C) (x y : A) → Spell c x → Spell c y → x ≡ y
  one_value c x y s t = ok_is {E = E} x y (sym (exact.again c x s) ∙ exact.again c y t)

  pub one_fault : (c : C) (d e : E) → Fail c d → Fail c e → d ≡ e
  one_fault c d e s t = err_is {A = A} d e (sym (exact.refused c d s) ∙ exact.refused c e t)

  pub spelled_or_fails : (c : C) (x : A) (e : E) → Spell c x → Fail c e → ⊥
  spelled_or_fails c x e s t = never_both (read c) x e (exact.again c x s) (exact.refused c e t)

  pub always_one : (c : C) → Given c → ((x : A) × Spell c x) ⊎ ((e : E) × Fail c e)
  always_one c given = cases (read c) refl
    where
      cases : (r : Result A E) → read c ≡ r → ((x : A) × Spell c x) ⊎ ((e : E) × Fail c e)
      cases (Ok x) is = inl (x, exact.spelled c x given is)
      cases (Err e) is = inr (e, exact.fails c e given is)
