-- What a sink gained, call by call, and whether that is settled.
use Rattle.std.proofs.Common.{◌≡◌, ℕ, zero, suc, ◌<◌, ◌≤◌, Bool, false, cond, eqb, List, [], ◌++◌, length, length-append, take, drop, ◌+◌, rules, arith, subst, Option, None, Some, refl, sym, ap, ◌∙◌, append_assoc, append-nil}
use Rattle.std.proofs.Math.Seq.{take-add}
use Rattle.std.proofs.lemmas.List.{length-take}
use Rattle.std.specs.Prelude.{option_map}
use Rattle.std.specs.Io.KnownBytes.{Appends, Keeps}
use Rattle.pgw_wire.specs.Outside.{SinkState, gained, settled, GoesOn, Gains, settled_after, Wrote}
use Rattle.pgw_wire.proofs.Taking.{goes_on_still, goes_on_then}

-- two calls added the bytes of both
pub appends_then : (a b c : Option (List ℕ)) (x y : List ℕ) → Appends a b x → Appends b c y → Appends a c (x ++ y)
appends_then None b c x y h k = tt
appends_then (Some xs) None c x y h k = absurd h
appends_then (Some xs) (Some ys) None x y h k = absurd k
appends_then (Some xs) (Some ys) (Some zs) x y h k = k ∙ ap (λ l. l ++ y) h ∙ append_assoc xs x y

pub appends_kept : (a b : Option (List ℕ)) → Keeps a b → Appends a b []
appends_kept None b h = tt
appends_kept (Some xs) None h = absurd h
appends_kept (Some xs) (Some ys) h = h ∙ sym (append-nil xs)

twice : (a : Option Bool) → option_map {T = Bool} {U = Bool} (λ _. false) (option_map {T = Bool} {U = Bool} (λ _. false) a) ≡ option_map (λ _. false) a
twice None = refl
twice (Some b) = refl

settled_positive : (k : ℕ) (a : Option Bool) → 0 < k → settled_after k a ≡ option_map {T = Bool} {U = Bool} (λ _. false) a
settled_positive zero a h = absurd (omega (arith, h))
settled_positive (suc k) a h = ap (λ t. cond t a (option_map {T = Bool} {U = Bool} (λ _. false) a)) (isnt (suc k) h)
  where
    isnt : (j : ℕ) → 0 < j → eqb j 0 ≡ false
    isnt j p = search rules

-- Two writes leave a sink settled or not as one of the bytes of both does.
pub settled_more : (a b c : Option Bool) (m n : ℕ) → b ≡ settled_after m a → c ≡ settled_after n b → c ≡ settled_after (m + n) a
settled_more a b c zero n e f = f ∙ ap (settled_after n) e ∙ ap (λ k. settled_after k a) (zero_plus n)
  where
    zero_plus : (k : ℕ) → k ≡ 0 + k
    zero_plus k = omega arith
settled_more a b c (suc m) zero e f = f ∙ e ∙ ap (λ k. settled_after k a) (plus_zero (suc m))
  where
    plus_zero : (k : ℕ) → k ≡ k + 0
    plus_zero k = omega arith
settled_more a b c (suc m) (suc n) e f = f ∙ settled_positive (suc n) b (omega arith) ∙ ap (option_map {T = Bool} {U = Bool} (λ _. false)) (e ∙ settled_positive (suc m) a (omega arith)) ∙ twice a ∙ sym (settled_positive (suc m + suc n) a (omega arith))

keeps_same : (a : Option (List ℕ)) → Keeps a a
keeps_same None = tt
keeps_same (Some xs) = refl

-- Nothing was written.
pub wrote_none : {O : Type 0} (a : SinkState O) → Wrote a a []
wrote_none a = record { appends = appends_kept (gained a) (gained a) (keeps_same (gained a)); settles = refl; goes_on = goes_on_still a }

-- The sink is as before, so nothing was written.
pub wrote_still : {Z O : Type 0} (state : Z → SinkState O) (before now : Z) → now ≡ before → Wrote (state before) (state now) []
wrote_still {Z = Z} state before now same = subst (λ (z : Z). Wrote (state before) (state z) []) (sym same) (wrote_none (state before))

-- What was written, and what was written behind it.
pub wrote_then : {O : Type 0} {a b c : SinkState O} {x y : List ℕ} → Wrote a b x → Wrote b c y → Wrote a c (x ++ y)
wrote_then {a = a} {b = b} {c = c} {x = x} {y = y} w v = record {
  appends = appends_then (gained a) (gained b) (gained c) x y w.appends v.appends;
  settles = settled_more (settled a) (settled b) (settled c) (length x) (length y) w.settles v.settles ∙ ap (λ n. settled_after n (settled a)) (sym (length-append x y));
  goes_on = goes_on_then a b c w.goes_on v.goes_on;
}

-- A flush adds nothing.
pub appends_keeps : (a b c : Option (List ℕ)) (x : List ℕ) → Appends a b x → Keeps b c → Appends a c x
appends_keeps a b c x h k = subst (λ (l : List ℕ). Appends a c l) (append-nil x) (appends_then a b c x [] h (appends_kept b c k))

-- A call that failed wrote nothing.
pub wrote_kept : {O : Type 0} {a b c : SinkState O} {x : List ℕ} → Wrote a b x → Keeps (gained b) (gained c) → settled c ≡ settled b → GoesOn b c → Wrote a c x
wrote_kept {a = a} {b = b} {c = c} {x = x} w k same on = record { appends = appends_keeps (gained a) (gained b) (gained c) x w.appends k; settles = same ∙ w.settles; goes_on = goes_on_then a b c w.goes_on on }

-- A longer front of the piece was written.
pub wrote_more : {O : Type 0} {a b c : SinkState O} (piece : List ℕ) (sent n : ℕ) → Wrote a b (take sent piece) → Wrote b c (take n (drop sent piece)) → Wrote a c (take (sent + n) piece)
wrote_more {a = a} {c = c} piece sent n w v = subst (λ (l : List ℕ). Wrote a c l) (sym (take-add sent n piece)) (wrote_then w v)

-- what a write that succeeds has written
pub wrote_front : {O : Type 0} {a b : SinkState O} (bytes piece : List ℕ) (n : ℕ) → n ≤ length piece → piece ≡ bytes → Appends (gained a) (gained b) (take n piece) → settled b ≡ settled_after n (settled a) → GoesOn a b → Wrote a b (take n bytes)
wrote_front {a = a} {b = b} bytes piece n within is added settles on = rw (← is) record {
  appends = added;
  settles = settles ∙ ap (λ k. settled_after k (settled a)) (omega (arith, within, length-take n piece));
  goes_on = on;
}

-- What was written was gained.
pub wrote_gains : {O : Type 0} {a b : SinkState O} {bytes : List ℕ} → Wrote a b bytes → Gains a b
wrote_gains {bytes = bytes} w = record { bytes = bytes; appends = w.appends; goes_on = w.goes_on }
