-- What reaches a lent writer through a buffer in front of it.
use Rattle.std.proofs.Common.{◌≡◌, ◌∙◌, ℕ, ◌-◌, ◌≤◌, List, [], ◌∷◌, ◌++◌, true, false, length, append_assoc, append-nil, Option, None, Some, refl, sym, ap, subst, inl, inr, arith}
use Rattle.std.specs.Prelude.{IfSome}
use Rattle.std.specs.Io.KnownBytes.{Appends, Consumes, IsAtEnd, Keeps, append_known}
use Rattle.pgw_wire.specs.Outside.{SourceState, SinkState, left, gained, Took, WroteFront}
use Rattle.pgw_wire.proofs.Taking.{ended}
use Rattle.pgw_tree.specs.declared.fault.CopyFault.{CopyFault}
use Rattle.pgw_meta.specs.Shape.{Shape}
use Rattle.pgw_tree.specs.Limits.{Limits}
use Rattle.pgw_tree.specs.Causes.{Form, IsCopied, rows_say, in_header, in_row, in_end}
use Rattle.pgcopy.specs.declared.report.Outcome.TheVariants.{Copied, Fault}
use Rattle.std.specs.Io.Buffered.{writer_inner, writer_buffer}
use Rattle.pgcopy.specs.declared.lent.LentWriter.{LentWriter}
use Rattle.pgcopy.specs.declared.lent.FinalSink.{FinalSink}
use Rattle.pgcopy.specs.Words.{PlanData}
use Rattle.pgcopy.specs.Runs.{CopiedRows, run_says, MetFault}
use Rattle.pgcopy.specs.Report.{line_of, WroteUnlessFailed}
use Rattle.pgcopy.specs.Lent.{marked, kept_back, GotFront, CopiedOut, StoppedOut}

-- Of two ways to cut a list, the one behind is no shorter.
beyond : (xs ys lost bytes : List ℕ) → length xs ≤ length ys → ys ++ lost ≡ xs ++ bytes → (front : List ℕ) × (ys ≡ xs ++ front) × (bytes ≡ front ++ lost)
beyond [] ys lost bytes within is = (ys, refl, sym is)
beyond (x ∷ xs) [] lost bytes within is = absurd (omega (arith, within))
beyond (x ∷ xs) (y ∷ ys) lost bytes within is =
    let tails : ys ++ lost ≡ xs ++ bytes = cc in
    let heads : y ≡ x = cc in
    let h = beyond xs ys lost bytes (omega (arith, within)) tails in
    (h.0, ap (λ l. y ∷ l) h.1 ∙ ap (λ z. z ∷ (xs ++ h.0)) heads, h.2)

-- What was written through a buffer, where some of it was lost at the end.
reached : (before now told : Option (List ℕ)) (name again passed : ℕ) (bytes lost xs : List ℕ) → before ≡ Some xs → Appends (append_known (marked name 0 before) []) told bytes → Keeps told (append_known (marked again passed now) lost)
    → (name ≡ again) × ((front : List ℕ) × (bytes ≡ front ++ lost) × Appends before now front)
reached None now told name again passed bytes lost xs is h k = absurd (cc)
reached (Some ws) now None name again passed bytes lost xs is h k = absurd h
reached (Some ws) None (Some ts) name again passed bytes lost xs is h k = absurd k
reached (Some ws) (Some ys) (Some ts) name again passed bytes lost xs is h k =
    let whole : again ∷ (length ys - passed) ∷ (ys ++ lost) ≡ name ∷ (length ws - 0) ∷ ((ws ++ []) ++ bytes) = k ∙ h in
    let names : again ≡ name = cc in
    let bases : length ys - passed ≡ length ws - 0 = cc in
    let tails : ys ++ lost ≡ (ws ++ []) ++ bytes = cc in
    let b = beyond ws ys lost bytes (omega (arith, bases)) (tails ∙ ap (λ l. l ++ bytes) (append-nil ws)) in
    (sym names, (b.0, b.2, b.1))

by_told : (P : Type 0) (told : Option (List ℕ)) → (told ≡ None → P) → ((xs : List ℕ) → told ≡ Some xs → P) → P
by_told P None none some = none refl
by_told P (Some xs) none some = some xs refl

untold : (before now : Option (List ℕ)) (bytes : List ℕ) → before ≡ None → Appends before now bytes
untold before now bytes is = rw is tt

-- A front of what was written was got, and behind it some was lost.
got : {W : Type 0} (contents : W → Option (List ℕ)) (old now end : W) (told : Option (List ℕ)) (name again passed : ℕ) (bytes lost : List ℕ) → (name ≡ again → end ≡ now)
    → Appends (append_known (marked name 0 (contents old)) []) told bytes → Keeps told (append_known (marked again passed (contents now)) lost)
    → GotFront (contents old) (contents end) bytes × (lost ≡ [] → Appends (contents old) (contents end) bytes)
got contents old now end told name again passed bytes lost same h k = by_told _ (contents old)
    (λ none. (
      record { front = bytes; rest = []; is = sym (append-nil bytes); appends = untold _ _ bytes none },
      λ e. untold _ _ bytes none,
    ))
    (λ xs is.
    let r = reached (contents old) (contents now) told name again passed bytes lost xs is h k in
    let appends : Appends (contents old) (contents end) r.1.0 = subst (λ w. Appends (contents old) (contents w) r.1.0) (sym (same r.0)) r.1.2 in (
      record { front = r.1.0; rest = lost; is = r.1.1; appends = appends },
      λ none. subst (λ l. Appends (contents old) (contents end) l) (sym (r.1.1 ∙ ap (λ l. r.1.0 ++ l) none ∙ append-nil r.1.0)) appends,
    ))

-- what a sink over a lent writer tells of its bytes
abbrev pub told_of : {W : Type 0} → (W → Option (List ℕ)) → FinalSink (LentWriter W) → Option (List ℕ)
told_of contents s = append_known (marked (writer_inner s.inner).inner.ghost_name (writer_inner s.inner).passed (contents (writer_inner s.inner).inner.now)) (kept_back s.is_flushed (writer_buffer s.inner))

-- Of what was written to a new sink over a lent writer, the writer got a front, or all of it where the sink was flushed.
pub arrives : {W : Type 0} (contents : W → Option (List ℕ)) (fresh now : FinalSink (LentWriter W)) (lent back : LentWriter W) (end : W)
    → writer_inner fresh.inner ≡ lent → writer_buffer fresh.inner ≡ [] → fresh.is_flushed ≡ false → lent.passed ≡ 0
    → (lost : List ℕ) × (now.is_flushed ≡ true → lost ≡ []) × Keeps (told_of contents now) (append_known (marked back.inner.ghost_name back.passed (contents back.inner.now)) lost)
    → (lent.inner.ghost_name ≡ back.inner.ghost_name → end ≡ back.inner.now)
    → (bytes : List ℕ) → Appends (told_of contents fresh) (told_of contents now) bytes
    → GotFront (contents lent.inner.now) (contents end) bytes × (now.is_flushed ≡ true → Appends (contents lent.inner.now) (contents end) bytes)
arrives contents fresh now lent back end inner empty unflushed new finished same bytes h =
    let begins : told_of contents fresh ≡ append_known (marked lent.inner.ghost_name 0 (contents lent.inner.now)) [] = rw (unflushed, inner, empty, new) refl in
    let g = got contents lent.inner.now back.inner.now end (told_of contents now) lent.inner.ghost_name back.inner.ghost_name back.passed bytes finished.0 same (subst (λ a. Appends a (told_of contents now) bytes) begins h) finished.2 in
    (g.0, λ flushed. g.1 (finished.1 flushed))

-- Of a front of some bytes a front was got.
pub front_of_front : {before now : Option (List ℕ)} (front rest : List ℕ) → GotFront before now front → GotFront before now (front ++ rest)
front_of_front front rest g = record { front = g.front; rest = g.rest ++ rest; is = ap (λ l. l ++ rest) g.is ∙ append_assoc g.front g.rest rest; appends = g.appends }

wrote_front_as : {P Q : List ℕ → Type 0} {bytes : List ℕ} → ((x : List ℕ) → P x → Q x) → WroteFront P bytes → WroteFront Q bytes
wrote_front_as to w = record { front = w.front; rest = w.rest; is = w.is; missing = w.missing; written = to w.front w.written }

-- What is said of the bytes written is said of them in other words.
pub copied_as : {limits : Limits} {ts : List Shape} {form : Form} {n : ℕ} {P Q : List ℕ → Type 0} {taken : List ℕ} → ((x : List ℕ) → P x → Q x) → IsCopied limits ts form n P taken → IsCopied limits ts form n Q taken
copied_as to c = record { stream = c.stream; canonical = λ rows is. to _ (c.canonical rows is) }

rows_as : {limits : Limits} {ts : List Shape} {form : Form} {fault : CopyFault} {P Q : List ℕ → Type 0} {taken : List ℕ} → ((x : List ℕ) → P x → Q x) → rows_say limits ts form fault P taken → rows_say limits ts form fault Q taken
rows_as to (inl h) = inl (record { front = h.front; behind = h.behind; rows = h.rows; begins = h.begins; within = h.within; is = h.is; cause = h.cause; written = to _ h.written })
rows_as to (inr (is, in_header header p)) = inr (is, in_header header (wrote_front_as to p))
rows_as to (inr (is, in_row rows last next begins within form_is p)) = inr (is, in_row rows last next begins within form_is (wrote_front_as (λ x. to _) p))
rows_as to (inr (is, in_end rows front begins within end (inl p))) = inr (is, in_end rows front begins within end (inl (wrote_front_as (λ x. to _) p)))
rows_as to (inr (is, in_end rows front begins within end (inr w))) = inr (is, in_end rows front begins within end (inr (to _ w)))

pub run_as : (plan : PlanData) (fault : CopyFault) {P Q : List ℕ → Type 0} {taken : List ℕ} → ((x : List ℕ) → P x → Q x) → run_says plan fault P taken → run_says plan fault Q taken
run_as plan fault to (inl h) = inl (h.0, h.1, to _ h.2)
run_as plan fault to (inr (inl h)) = inr (inl (h.0, to _ h.1))
run_as plan fault to (inr (inr h)) = inr (inr (rows_as to h))

-- What was taken is what the input began with.
pub input_began : {S : Type 0} (a b : SourceState S) (P : List ℕ → Type 0) (t : Took a b P) (input : Option (List ℕ)) → ((bytes : List ℕ) → input ≡ Some bytes → left a ≡ Some bytes) → (rest : List ℕ) × IfSome input (λ bytes. bytes ≡ t.taken ++ rest) × (IsAtEnd (left b) → IfSome input (λ _. rest ≡ []))
input_began a b P t None is = ([], tt, λ e. tt)
input_began a b P t (Some bytes) is =
    let k = split (left a) (left b) (is bytes refl) t.consumed in
    (k.0, k.2, λ e. ended (left b) k.0 e k.1)
  where
    split : (before now : Option (List ℕ)) → before ≡ Some bytes → Consumes before now t.taken → (rest : List ℕ) × (now ≡ Some rest) × (bytes ≡ t.taken ++ rest)
    split None now is c = absurd (cc)
    split (Some xs) None is c = absurd c
    split (Some xs) (Some ys) is c = let same : xs ≡ bytes = cc in (ys, refl, sym same ∙ c)

-- A front of a line was got, whether or not the sink that it was written to failed.
pub line_got : {N : Type 0} {a b : SinkState N} {before now : Option (List ℕ)} (bytes : List ℕ) → ((x : List ℕ) → Appends (gained a) (gained b) x → GotFront before now x) → WroteUnlessFailed a b bytes → GotFront before now bytes
line_got bytes reach (inl w) = reach bytes w.appends
line_got {before = before} {now = now} bytes reach (inr (p, failed)) = subst (λ (x : List ℕ). GotFront before now x) (sym p.is) (front_of_front p.front p.rest (reach p.front p.written.appends))

pub copied_out : {S K : Type 0} (plan : PlanData) (n : ℕ) (a b : SourceState S) (k l : SinkState K) (input output output_now errors errors_now : Option (List ℕ)) → ((bytes : List ℕ) → input ≡ Some bytes → left a ≡ Some bytes)
    → ((x : List ℕ) → Appends (gained k) (gained l) x → Appends output output_now x) → CopiedRows plan n a b k l → GotFront errors errors_now (line_of (Copied n)) → CopiedOut plan n input output output_now errors errors_now
copied_out plan n a b k l input output output_now errors errors_now is reach t line =
    let r = input_began a b _ t input is in
    record { taken = t.taken; rest = r.0; began = r.1; copied = copied_as (λ x w. reach x w.appends) t.has; line = line }

pub stopped_out : {S K : Type 0} (plan : PlanData) (fault : CopyFault) (a b : SourceState S) (k l : SinkState K) (input output output_now errors errors_now : Option (List ℕ)) → ((bytes : List ℕ) → input ≡ Some bytes → left a ≡ Some bytes)
    → ((x : List ℕ) → Appends (gained k) (gained l) x → GotFront output output_now x) → MetFault plan fault a b k l → GotFront errors errors_now (line_of (Fault fault)) → StoppedOut plan fault input output output_now errors errors_now
stopped_out plan fault a b k l input output output_now errors errors_now is reach met line =
    let r = input_began a b _ met.says input is in
    record { taken = met.says.taken; rest = r.0; began = r.1; at_end = λ e. r.2 (met.at_end e); says = run_as plan fault (λ x w. reach x w.appends) met.says.has; is_missing = met.is_missing; looked_up = met.looked_up; line = line }

-- Of no bytes the front is none.
pub got_none : {before now : Option (List ℕ)} → GotFront before now [] → Appends before now []
got_none {before = before} {now = now} g = subst (λ (l : List ℕ). Appends before now l) (first g.front g.rest g.is) g.appends
  where
    first : (front rest : List ℕ) → [] ≡ front ++ rest → front ≡ []
    first [] rest is = refl
    first (x ∷ front) rest is = absurd (cc)

pub appends_none : (a b : Option (List ℕ)) → b ≡ a → Appends a b []
appends_none None b is = tt
appends_none (Some xs) None is = absurd (cc)
appends_none (Some xs) (Some ys) is = let same : ys ≡ xs = cc in same ∙ sym (append-nil xs)
