-- What was taken from a source, call by call.
use Rattle.std.proofs.Common.{◌≡◌, ℕ, List, [], ◌++◌, Option, None, Some, Result, Ok, Err, refl, sym, ap, ◌∙◌, arith, append_assoc}
use Rattle.std.specs.Prelude.{◌≢◌}
use Rattle.std.specs.Result.{IsErrAnd, IfOk, IfErr}
use Rattle.std.proofs.lemmas.Result.{err_from_is_err_and}
use Rattle.std.specs.Io.KnownBytes.{Consumes, IsAtEnd, Keeps}
use Rattle.pgw_wire.specs.Outside.{Outside, SourceState, left, HasFailed, GoesOn, TakenFrom, Took, Takes}

pub along : {Z : Type 0} (R : Z → Type 0) {u v : Z} → u ≡ v → R u → R v
along R e p = rw (← e) p

consumes_none : (a : Option (List ℕ)) → Consumes a a []
consumes_none None = tt
consumes_none (Some xs) = refl

consumes_then : (a b c : Option (List ℕ)) (x y : List ℕ) → Consumes a b x → Consumes b c y → Consumes a c (x ++ y)
consumes_then None b c x y h k = tt
consumes_then (Some xs) None c x y h k = absurd h
consumes_then (Some xs) (Some ys) None x y h k = absurd k
consumes_then (Some xs) (Some ys) (Some zs) x y h k = h ∙ ap (λ r. x ++ r) k ∙ sym (append_assoc x y zs)

consumes_kept : (a b : Option (List ℕ)) → Keeps a b → Consumes a b []
consumes_kept None b h = tt
consumes_kept (Some xs) None h = absurd h
consumes_kept (Some xs) (Some ys) h = sym h

-- A call that isn't made leaves all as it is.
pub goes_on_still : {T O : Type 0} (a : Outside T O) → GoesOn a a
goes_on_still a = (omega arith, refl)

-- two calls, one behind the other
pub goes_on_then : {T O : Type 0} (a b c : Outside T O) → GoesOn a b → GoesOn b c → GoesOn a c
goes_on_then a b c g h = (omega (arith, g.0, h.0), h.1 ∙ g.1)

-- The second of two calls failed.
pub failed_then : {T O : Type 0} (a b c : Outside T O) → GoesOn a b → HasFailed b c → HasFailed a c
failed_then a b c g f = omega (arith, g.0, f)

-- where it is told what was left
pub took_from : {O : Type 0} (a b : SourceState O) (P : List ℕ → Type 0) → Took a b P → (bytes : List ℕ) → left a ≡ Some bytes → TakenFrom bytes (left b) P
took_from a b P t bytes e = record { taken = t.taken; rest = (split (left a) (left b) t.consumed e).0; now_is = (split (left a) (left b) t.consumed e).1; left_is = (split (left a) (left b) t.consumed e).2; has = t.has }
  where
    split : (before now : Option (List ℕ)) → Consumes before now t.taken → before ≡ Some bytes → (rest : List ℕ) × (now ≡ Some rest) × (bytes ≡ t.taken ++ rest)
    split None now c is = absurd (cc)
    split (Some xs) None c is = absurd c
    split (Some xs) (Some ys) c is = let same : xs ≡ bytes = cc in (ys, refl, sym same ∙ c)

-- where nothing was read, nothing was taken
pub took_none : {O : Type 0} {a : SourceState O} {P : List ℕ → Type 0} → P [] → Took a a P
took_none {a = a} p = record { taken = []; consumed = consumes_none (left a); goes_on = goes_on_still a; has = p }

-- two calls took the bytes of both
pub took_then : {O : Type 0} {a b c : SourceState O} {P Q R : List ℕ → Type 0} → Took a b P → Took b c Q → ((x y : List ℕ) → P x → Q y → R (x ++ y)) → Took a c R
took_then {a = a} {b = b} {c = c} t u both = record {
  taken = t.taken ++ u.taken;
  consumed = consumes_then (left a) (left b) (left c) t.taken u.taken t.consumed u.consumed;
  goes_on = goes_on_then a b c t.goes_on u.goes_on;
  has = both t.taken u.taken t.has u.has;
}

pub took_weaker : {O : Type 0} {a b : SourceState O} {P Q : List ℕ → Type 0} → Took a b P → ((x : List ℕ) → P x → Q x) → Took a b Q
took_weaker t weaker = record { taken = t.taken; consumed = t.consumed; goes_on = t.goes_on; has = weaker t.taken t.has }

-- in std's words
pub took_consumed : {O : Type 0} (a b : SourceState O) (bytes : List ℕ) (P : List ℕ → Type 0) → Consumes (left a) (left b) bytes → GoesOn a b → P bytes → Took a b P
took_consumed a b bytes P h on p = record { taken = bytes; consumed = h; goes_on = on; has = p }

pub took_kept : {O : Type 0} (a b : SourceState O) (P : List ℕ → Type 0) → Keeps (left a) (left b) → GoesOn a b → P [] → Took a b P
took_kept a b P h on p = took_consumed a b [] P (consumes_kept (left a) (left b) h) on p

pub ended : (b : Option (List ℕ)) (rest : List ℕ) → IsAtEnd b → b ≡ Some rest → rest ≡ []
ended None rest end is = absurd (cc)
ended (Some xs) rest end is = let same : xs ≡ rest = cc in sym same ∙ end

-- all was taken
pub takes_done : {X E O : Type 0} {cut unread : E} {a b : SourceState O} (x : X) (P : X → List ℕ → Type 0) (Fault : E → List ℕ → Type 0) → Took a b (P x) → Takes cut unread a b (Ok x) P Fault
takes_done x P Fault t = record {
  ok = λ y e. let same : x ≡ y = cc in took_weaker t (λ bytes p. along (λ z. P z bytes) same p);
  err = λ e h. absurd (cc);
  at_end = λ h. absurd (cc);
  has_failed = λ h. absurd (cc);
}

-- an error, for which each cause is shown
pub takes_error : {X E O : Type 0} {cut unread : E} {a b : SourceState O} (e : E) (P : X → List ℕ → Type 0) (Fault : E → List ℕ → Type 0)
    → Took a b (Fault e) → (e ≡ cut → IsAtEnd (left b)) → (e ≡ unread → HasFailed a b) → Takes {X = X} cut unread a b (Err e) P Fault
takes_error e P Fault t end failed = record {
  ok = λ y h. absurd (cc);
  err = λ d h. let same : e ≡ d = cc in took_weaker t (λ bytes p. along (λ z. Fault z bytes) same p);
  at_end = λ h. end (cc);
  has_failed = λ h. failed (cc);
}

-- The second call's answer is that of both.
pub takes_then : {X E O : Type 0} {cut unread : E} {a b c : SourceState O} {P1 : List ℕ → Type 0} {r : Result X E} {P2 : X → List ℕ → Type 0} {Fault2 : E → List ℕ → Type 0} (P : X → List ℕ → Type 0) (Fault : E → List ℕ → Type 0)
    → Took a b P1 → Takes cut unread b c r P2 Fault2
    → ((x : X) (first second : List ℕ) → P1 first → P2 x second → P x (first ++ second))
    → ((e : E) (first second : List ℕ) → P1 first → Fault2 e second → Fault e (first ++ second)) → Takes cut unread a c r P Fault
takes_then {a = a} {b = b} {c = c} P Fault t u joins stops = record {
  ok = λ x h. took_then t (u.ok x h) (joins x);
  err = λ e h. took_then t (u.err e h) (stops e);
  at_end = u.at_end;
  has_failed = λ h. failed_then a b c t.goes_on (u.has_failed h);
}

-- what the exit of a `?` returns
pub exit : {X E : Type 0} (r : Result X E) (e : E) → IsErrAnd r (λ y. y ≡ e) → r ≡ Err e
exit r e h = let p = err_from_is_err_and r h in p.1 ∙ ap Err p.2

same_error : {X Y E : Type 0} (r : Result X E) (e f : E) → r ≡ Err e → r ≡ Err f → ◌≡◌ {A = Result Y E} (Err e) (Err f)
same_error r e f is h = let k : e ≡ f = cc in ap Err k

-- The first call's error is that of both.
pub takes_first : {X Y E O : Type 0} {cut unread : E} {a b : SourceState O} {P1 : Y → List ℕ → Type 0} {Fault1 : E → List ℕ → Type 0} {r : Result X E} {e : E} (P : X → List ℕ → Type 0) (Fault : E → List ℕ → Type 0)
    → r ≡ Err e → Takes {X = Y} cut unread a b (Err e) P1 Fault1 → ((d : E) (bytes : List ℕ) → Fault1 d bytes → Fault d bytes) → Takes cut unread a b r P Fault
takes_first {cut = cut} {unread = unread} {r = r} {e = e} P Fault is u stops = record {
  ok = λ y h. absurd (cc);
  err = λ d h. took_weaker (u.err d (same_error r e d is h)) (stops d);
  at_end = λ h. u.at_end (same_error r e cut is h);
  has_failed = λ h. u.has_failed (same_error r e unread is h);
}

-- A later call's error is that of all, behind what was taken before it.
pub takes_later : {X Y E O : Type 0} {cut unread : E} {a b c : SourceState O} {P0 : List ℕ → Type 0} {P1 : Y → List ℕ → Type 0} {Fault1 : E → List ℕ → Type 0} {r : Result X E} {e : E} (P : X → List ℕ → Type 0) (Fault : E → List ℕ → Type 0)
    → r ≡ Err e → Took a b P0 → Takes {X = Y} cut unread b c (Err e) P1 Fault1
    → ((d : E) (first second : List ℕ) → P0 first → Fault1 d second → Fault d (first ++ second)) → Takes cut unread a c r P Fault
takes_later {cut = cut} {unread = unread} {a = a} {b = b} {c = c} {r = r} {e = e} P Fault is t u stops = record {
  ok = λ y h. absurd (cc);
  err = λ d h. took_then t (u.err d (same_error r e d is h)) (stops d);
  at_end = λ h. u.at_end (same_error r e cut is h);
  has_failed = λ h. failed_then a b c t.goes_on (u.has_failed (same_error r e unread is h));
}

-- an error of a test of what was taken
pub takes_refused : {X E O : Type 0} {cut unread : E} {a b : SourceState O} {r : Result X E} {e : E} (P : X → List ℕ → Type 0) (Fault : E → List ℕ → Type 0)
    → r ≡ Err e → Took a b (Fault e) → (e ≡ cut → IsAtEnd (left b)) → (e ≡ unread → HasFailed a b) → Takes cut unread a b r P Fault
takes_refused {X = X} {cut = cut} {unread = unread} {a = a} {b = b} {e = e} P Fault is t end failed =
    along (λ s. Takes {X = X} cut unread a b s P Fault) (sym is) (takes_error e P Fault t end failed)

-- The first call's error is that of both, by another name.
pub takes_first_as : {X Y E F O : Type 0} {cut unread : E} {cut_as unread_as : F} {a b : SourceState O} {P1 : Y → List ℕ → Type 0} {Fault1 : E → List ℕ → Type 0} {r : Result X F} {e : E} (name : E → F) (P : X → List ℕ → Type 0) (Fault : F → List ℕ → Type 0)
    → r ≡ Err (name e) → Takes {X = Y} cut unread a b (Err e) P1 Fault1 → (name e ≡ cut_as → e ≡ cut) → (name e ≡ unread_as → e ≡ unread) → ((bytes : List ℕ) → Fault1 e bytes → Fault (name e) bytes) → Takes cut_as unread_as a b r P Fault
takes_first_as {e = e} name P Fault is u cut unread stops =
    takes_refused P Fault is (took_weaker (u.err e refl) stops) (λ h. u.at_end (ap Err (cut h))) (λ h. u.has_failed (ap Err (unread h)))

-- the same of a later call's, behind what was taken before it
pub takes_later_as : {X Y E F O : Type 0} {cut unread : E} {cut_as unread_as : F} {a b c : SourceState O} {P0 : List ℕ → Type 0} {P1 : Y → List ℕ → Type 0} {Fault1 : E → List ℕ → Type 0} {r : Result X F} {e : E} (name : E → F) (P : X → List ℕ → Type 0) (Fault : F → List ℕ → Type 0)
    → r ≡ Err (name e) → Took a b P0 → Takes {X = Y} cut unread b c (Err e) P1 Fault1 → (name e ≡ cut_as → e ≡ cut) → (name e ≡ unread_as → e ≡ unread) → ((first second : List ℕ) → P0 first → Fault1 e second → Fault (name e) (first ++ second)) → Takes cut_as unread_as a c r P Fault
takes_later_as {a = a} {b = b} {c = c} {e = e} name P Fault is t u cut unread stops =
    takes_refused P Fault is (took_then t (u.err e refl) stops) (λ h. u.at_end (ap Err (cut h))) (λ h. failed_then a b c t.goes_on (u.has_failed (ap Err (unread h))))

-- What was taken is tested.
pub takes_tested : {X E O : Type 0} {cut unread : E} {a b : SourceState O} {P1 : List ℕ → Type 0} (r : Result X E) (P : X → List ℕ → Type 0) (Fault : E → List ℕ → Type 0)
    → Took a b P1 → IfOk r (λ x. (bytes : List ℕ) → P1 bytes → P x bytes) → IfErr r (λ e. ((bytes : List ℕ) → P1 bytes → Fault e bytes) × (e ≢ cut) × (e ≢ unread)) → Takes cut unread a b r P Fault
takes_tested (Ok x) P Fault t ok err = takes_done x P Fault (took_weaker t ok)
takes_tested (Err e) P Fault t ok err = takes_error e P Fault (took_weaker t err.0) (λ h. absurd (err.1 h)) (λ h. absurd (err.2 h))
