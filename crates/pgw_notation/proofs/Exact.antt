-- What is read of a text is the type that is written so, or the first thing that is wrong.
use Rattle.std.proofs.Common.{◌≡◌, ◌+◌, ◌≢◌, ◌⊎◌, inl, inr, ℕ, List, [], ◌∷◌, ◌++◌, length, Option, None, Some, Result, Ok, Err, Bool, true, false, refl, sym, ap, ap₂, ◌∙◌, subst, append-nil, append_assoc, arith}
use Rattle.std.proofs.lemmas.Bool.{false≢true}
use Rattle.std.proofs.lemmas.Grind.{flat_map-append}
use Rattle.std.proofs.lemmas.List.{length-append}
use Rattle.std.proofs.lemmas.Option.{none-some}
use Rattle.std.specs.Option.{option_and_then}
use Rattle.std.specs.Result.{IfOk, MatchResult}
use Rattle.pgw_meta.specs.Shape.{Shape}
use Rattle.pgw_meta.specs.Types.{shape}
use Rattle.pgw_meta.specs.declared.types.PgType.{PgType}
use Rattle.pgw_notation.specs.Tokens.{Token, token_bytes, joined, tokens}
use Rattle.pgw_notation.specs.Notation.{notation, IsWritable}
use Rattle.pgw_notation.specs.Faults.{BeginType, WriteType, is_too_deep, IsShallow, IsTextOf, StandsAt, StopsAt, DeepensAt, IsFaultOf}
use Rattle.pgw_notation.specs.Reading.{Frame, Mode, no_type, behind_at, behind_name, behind_point, behind_key, behind_colon, behind_type, State, start, in_mode, step, is_deep, unless_deep, read_end, read_on, read_tokens, Answers}
use Rattle.pgw_notation.specs.declared.fault.TypeFault.{TypeFault}
use Rattle.pgw_notation.specs.declared.fault.TypeFault.TheVariants.{Syntax, TooDeep, NoMemory}
use Rattle.pgw_notation.proofs.FirstTokens.{joined_tokens}
use Rattle.pgw_notation.proofs.Steps.{steps, steps_append, suffixes_of, accepts}
use Rattle.pgw_notation.proofs.States.{Means, start_means, step_means, state_begins}
use Rattle.pgw_notation.proofs.Depths.{Counts, start_counts, step_counts, deep_is}

-- a token of some tokens and one more is the last, or one of the others
split_push : (ts : List Token) (t : Token) (before : List Token) (x : Token) (after : List Token) → ts ++ t ∷ [] ≡ before ++ x ∷ after
    → ((ts ≡ before) × (t ≡ x)) ⊎ ((rest : List Token) × (ts ≡ before ++ x ∷ rest))
split_push [] t [] x after e = inl (refl, cc)
split_push [] t (b ∷ bs) x after e = let same = ap length e in let len = length-append bs (x ∷ after) in absurd (omega (arith, same, len))
split_push (u ∷ us) t [] x after e = let same : u ≡ x = cc in inr (us, ap (λ y. y ∷ us) same)
split_push (u ∷ us) t (b ∷ bs) x after e =
    let head : u ≡ b = cc in
    let tail : us ++ t ∷ [] ≡ bs ++ x ∷ after = cc in
    longer head (split_push us t bs x after tail)
  where
    longer : u ≡ b → ((us ≡ bs) × (t ≡ x)) ⊎ ((rest : List Token) × (us ≡ bs ++ x ∷ rest)) → ((u ∷ us ≡ b ∷ bs) × (t ≡ x)) ⊎ ((rest : List Token) × (u ∷ us ≡ b ∷ (bs ++ x ∷ rest)))
    longer head (inl p) = let rest = p.0 in inl (cc, p.1)
    longer head (inr p) = let rest = p.1 in inr (p.0, cc)

none_shallow : IsShallow []
none_shallow [] t after e = let same = ap length e in absurd (omega (arith, same))
none_shallow (b ∷ before) t after e = let same = ap length e in absurd (omega (arith, same))

shallow_push : (ts : List Token) (t : Token) → IsShallow ts → is_too_deep ts t ≡ false → IsShallow (ts ++ t ∷ [])
shallow_push ts t h k before x after e = by (split_push ts t before x after e)
  where
    by : ((ts ≡ before) × (t ≡ x)) ⊎ ((rest : List Token) × (ts ≡ before ++ x ∷ rest)) → is_too_deep before x ≡ false
    by (inl p) = ap (λ us. is_too_deep us x) (sym p.0) ∙ ap (is_too_deep ts) (sym p.1) ∙ k
    by (inr p) = h before x p.0 p.1

-- how long the text of tokens is
width : List Token → ℕ
width ts = length (joined ts)

-- The state that tokens lead to, none of which is too deep.
record Reached (ts : List Token) (st : State) : Type 0 where
  reads : steps start ts ≡ Some st
  means : Means st ts
  counts : Counts st ts
  shallow : IsShallow ts

start_reached : Reached [] start
start_reached = record { reads = refl; means = start_means; counts = start_counts; shallow = none_shallow }

steps_push : (ts : List Token) (t : Token) (st : State) → steps start ts ≡ Some st → steps start (ts ++ t ∷ []) ≡ option_and_then (λ next. Some next) (step st.open_ones st.mode t)
steps_push ts t st e = steps_append start ts (t ∷ []) ∙ ap (option_and_then (λ next. steps next (t ∷ []))) e

next_reached : (ts : List Token) (t : Token) (st next : State) → Reached ts st → step st.open_ones st.mode t ≡ Some next → is_too_deep ts t ≡ false → Reached (ts ++ t ∷ []) next
next_reached ts t st next r e k = record {
  reads = steps_push ts t st r.reads ∙ ap (option_and_then (λ n. Some n)) e;
  means = step_means st.open_ones st.mode t next ts r.means e;
  counts = step_counts st.open_ones st.mode t next ts r.counts e;
  shallow = shallow_push ts t r.shallow k;
}

place_push : (ts : List Token) (t : Token) (place : ℕ) → place ≡ length (joined ts) → place + length (token_bytes t) ≡ length (joined (ts ++ t ∷ []))
place_push ts t place e =
    let all = ap length (flat_map-append token_bytes ts (t ∷ [])) in
    let parts = length-append (joined ts) (joined (t ∷ [])) in
    let last = ap length (append-nil (token_bytes t)) in
    omega (arith, all, parts, last)

-- What is written goes through, and leads to its type.
writes : (t : Shape) → IsWritable t → steps start (notation t) ≡ Some (in_mode [] (behind_type (suffixes_of t) t))
writes t h = ap (steps start) (sym (append-nil (notation t))) ∙ accepts t [] [] h

-- What begins a type's text goes through.
begins_through : (ts : List Token) → BeginType ts → (st : State) × (steps start ts ≡ Some st)
begins_through ts b = by (steps start ts) refl
  where
    whole : steps start (ts ++ b.behind) ≡ Some (in_mode [] (behind_type (suffixes_of b.written) b.written))
    whole = ap (steps start) (sym b.is) ∙ writes b.written b.writable

    by : (r : Option State) → steps start ts ≡ r → (st : State) × (steps start ts ≡ Some st)
    by (Some st) e = (st, e)
    by None e = absurd (none-some _ (sym (steps_append start ts b.behind ∙ ap (option_and_then (λ n. steps n b.behind)) e) ∙ whole))

-- A token that may not follow begins no type's text.
no_beginning : (ts : List Token) (t : Token) (st : State) → steps start ts ≡ Some st → step st.open_ones st.mode t ≡ None → BeginType (ts ++ t ∷ []) → ⊥
no_beginning ts t st e none b =
    let through = begins_through (ts ++ t ∷ []) b in
    none-some through.0 (sym (steps_push ts t st e ∙ ap (option_and_then (λ n. Some n)) none) ∙ through.1)

-- what is told of a text
Told : List ℕ → Result Shape TypeFault → Type 0
Told text (Ok t) = IsTextOf t text
Told text (Err e) = IsFaultOf e text

-- the end of a text that is no type's
early_end : (text : List ℕ) (place : ℕ) (st : State) → place ≡ length (joined (tokens text)) → Reached (tokens text) st → ((t : Shape) → in_mode [] (behind_type (suffixes_of t) t) ≡ st → ⊥) → StopsAt text place
early_end text place st at r other =
    inr (at ∙ ap length (joined_tokens text), state_begins st.open_ones st.mode (tokens text) r.means, r.shallow, unwritten)
  where
    unwritten : WriteType (tokens text) → ⊥
    unwritten w =
        let same : Some (in_mode [] (behind_type (suffixes_of w.written) w.written)) ≡ Some st =
        sym (writes w.written w.writable) ∙ ap (steps start) w.is ∙ r.reads in
        other w.written cc

-- another mode than behind a type
is_behind_type : Mode → Bool
is_behind_type (behind_type n t) = true
is_behind_type _ = false

other_mode : (fs : List Frame) (mode : Mode) → is_behind_type mode ≡ false → (t : Shape) → in_mode [] (behind_type (suffixes_of t) t) ≡ in_mode fs mode → ⊥
unfolding is_behind_type
other_mode fs mode h t e = false≢true (sym h ∙ sym (ap (λ (s : State). is_behind_type s.mode) e))

still_open : (frame : Frame) (fs : List Frame) (mode : Mode) (t : Shape) → in_mode [] (behind_type (suffixes_of t) t) ≡ in_mode (frame ∷ fs) mode → ⊥
still_open frame fs mode t e = let same = ap (λ (s : State). length s.open_ones) e in absurd (omega (arith, same))

end_told : (text : List ℕ) (place : ℕ) (fs : List Frame) (mode : Mode) → place ≡ length (joined (tokens text)) → Reached (tokens text) (in_mode fs mode) → Told text (read_end place fs mode)
unfolding Told is_behind_type
end_told text place [] (behind_type n t) at r = record { writable = r.means.mode; is = r.means.are; shallow = r.shallow }
end_told text place [] no_type at r = early_end text place _ at r (other_mode [] no_type refl)
end_told text place [] behind_at at r = early_end text place _ at r (other_mode [] behind_at refl)
end_told text place [] (behind_name name) at r = early_end text place _ at r (other_mode [] (behind_name name) refl)
end_told text place [] (behind_point name) at r = early_end text place _ at r (other_mode [] (behind_point name) refl)
end_told text place [] (behind_key key) at r = early_end text place _ at r (other_mode [] (behind_key key) refl)
end_told text place [] (behind_colon key) at r = early_end text place _ at r (other_mode [] (behind_colon key) refl)
end_told text place (frame ∷ fs) mode at r = early_end text place _ at r (still_open frame fs mode)

-- What is read behind tokens is told of the text.
tokens_told : (after : List Token) (text : List ℕ) (before : List Token) (place : ℕ) (st : State) → tokens text ≡ before ++ after → place ≡ length (joined before) → Reached before st → Told text (read_tokens place st after)
unfolding Told
tokens_told [] text before place st is at r =
    let same : before ≡ tokens text = sym (is ∙ append-nil before) in
    end_told text place st.open_ones st.mode (at ∙ ap (λ ts. length (joined ts)) same) (subst (λ ts. Reached ts st) same r)
tokens_told (t ∷ after) text before place st is at r =
    by (step st.open_ones st.mode t) refl
    (λ next. tokens_told after text (before ++ t ∷ []) (place + length (token_bytes t)) next (is ∙ sym (append_assoc before (t ∷ []) after)) (place_push before t place at))
  where
    stands : StandsAt text place before t
    stands = record { after = after; is = is; at = at; begins = state_begins st.open_ones st.mode before r.means; shallow = r.shallow }

    follows : (next : State) → step st.open_ones st.mode t ≡ Some next → BeginType (before ++ t ∷ [])
    follows next e = state_begins next.open_ones next.mode (before ++ t ∷ []) (step_means st.open_ones st.mode t next before r.means e)

    may : (deep : Bool) (next : State) → is_deep st.open_ones st.mode t ≡ deep → step st.open_ones st.mode t ≡ Some next
        → ((n : State) → Reached (before ++ t ∷ []) n → Told text (read_tokens (place + length (token_bytes t)) n after))
        → Told text (read_on (λ n. read_tokens (place + length (token_bytes t)) n after) (unless_deep place deep (Some next)))
    may true next k e more = (before, t, stands, follows next e, sym (deep_is st.open_ones st.mode t next before r.counts e) ∙ k)
    may false next k e more = more next (next_reached before t st next r e (sym (deep_is st.open_ones st.mode t next before r.counts e) ∙ k))

    by : (s : Option State) → step st.open_ones st.mode t ≡ s
        → ((n : State) → Reached (before ++ t ∷ []) n → Told text (read_tokens (place + length (token_bytes t)) n after))
        → Told text (read_on (λ n. read_tokens (place + length (token_bytes t)) n after) (unless_deep place (is_deep st.open_ones st.mode t) s))
    by None e more = inl (before, t, stands, no_beginning before t st r.reads e)
    by (Some next) e more = may (is_deep st.open_ones st.mode t) next refl e more

told : (text : List ℕ) → Told text (read_tokens 0 start (tokens text))
told text = tokens_told (tokens text) text [] 0 start refl refl start_reached

pub read_is_text : (text : List ℕ) (t : Shape) → read_tokens 0 start (tokens text) ≡ Ok t → IsTextOf t text
unfolding Told
read_is_text text t e = subst (Told text) e (told text)

pub fault_is_first : (text : List ℕ) (fault : TypeFault) → read_tokens 0 start (tokens text) ≡ Err fault → IsFaultOf fault text
unfolding Told
fault_is_first text fault e = subst (Told text) e (told text)

passes_one : (place : ℕ) (st next : State) (t : Token) (ts : List Token) → is_deep st.open_ones st.mode t ≡ false → step st.open_ones st.mode t ≡ Some next
    → read_tokens place st (t ∷ ts) ≡ read_tokens (place + length (token_bytes t)) next ts
passes_one place st next t ts shallow e = ap₂ (λ deep s. read_on (λ n. read_tokens (place + length (token_bytes t)) n ts) (unless_deep place deep s)) shallow e

-- what tokens that are not too deep lead to, behind others
record Passes (front mid after : List Token) (place : ℕ) (first last : State) : Type 0 where
  reached : Reached (front ++ mid) last
  reads : read_tokens place first (mid ++ after) ≡ read_tokens (place + length (joined mid)) last after

passes : (mid front after : List Token) (place : ℕ) (first last : State) → Reached front first → steps first mid ≡ Some last → IsShallow (front ++ mid) → Passes front mid after place first last
passes [] front after place first last r e h =
    let same : first ≡ last = cc in
    let none : place + 0 ≡ place = omega arith in
    record {
      reached = subst (λ st. Reached (front ++ []) st) same (subst (λ ts. Reached ts first) (sym (append-nil front)) r);
      reads = ap₂ (λ k st. read_tokens k st after) (sym none) same;
    }
passes (t ∷ mid) front after place first last r e h =
    by (step first.open_ones first.mode t) refl e
    (λ next reached k. passes mid (front ++ t ∷ []) after (place + length (token_bytes t)) next last reached k (subst IsShallow (sym (append_assoc front (t ∷ []) mid)) h))
  where
    by : (s : Option State) → step first.open_ones first.mode t ≡ s → option_and_then (λ n. steps n mid) s ≡ Some last
        → ((next : State) → Reached (front ++ t ∷ []) next → steps next mid ≡ Some last → Passes (front ++ t ∷ []) mid after (place + length (token_bytes t)) next last)
        → Passes front (t ∷ mid) after place first last
    by None is k more = absurd (none-some last k)
    by (Some next) is k more =
        let shallow : is_too_deep front t ≡ false = h front t mid refl in
        let rest = more next (next_reached front t first next r is shallow) k in
        let len = length-append (token_bytes t) (joined mid) in
        let sums : place + length (token_bytes t) + length (joined mid) ≡ place + length (joined (t ∷ mid)) = omega (arith, len) in
        record {
          reached = subst (λ ts. Reached ts last) (append_assoc front (t ∷ []) mid) rest.reached;
          reads = passes_one place first next t (mid ++ after) (deep_is first.open_ones first.mode t next front r.counts is ∙ shallow) is
              ∙ rest.reads ∙ ap (λ k. read_tokens k last after) sums;
        }

pub text_is_read : (text : List ℕ) (t : Shape) → IsTextOf t text → read_tokens 0 start (tokens text) ≡ Ok t
text_is_read text t h =
    let last = in_mode [] (behind_type (suffixes_of t) t) in
    ap (read_tokens 0 start) (sym (append-nil (tokens text)))
    ∙ (passes (tokens text) [] [] 0 start last start_reached (ap (steps start) (sym h.is) ∙ writes t h.writable) h.shallow).reads

-- up to a token behind some that begin a type's text
stands_read : (text : List ℕ) (place : ℕ) (before : List Token) (t : Token) → StandsAt text place before t
    → (st : State) × (after : List Token) × Reached before st × (read_tokens 0 start (tokens text) ≡ read_tokens place st (t ∷ after))
stands_read text place before t stands =
    let through = begins_through before stands.begins in
    let way = passes before [] (t ∷ stands.after) 0 start through.0 start_reached through.1 stands.shallow in
    let here : 0 + length (joined before) ≡ place = (let at = stands.at in omega (arith, at)) in
    (through.0, stands.after, way.reached, ap (read_tokens 0 start) stands.is ∙ way.reads ∙ ap (λ k. read_tokens k through.0 (t ∷ stands.after)) here)

end_stops : (place : ℕ) (fs : List Frame) (mode : Mode) (ts : List Token) → Means (in_mode fs mode) ts → (WriteType ts → ⊥) → read_end place fs mode ≡ Err (Syntax place)
end_stops place [] (behind_type n t) ts m unwritten = absurd (unwritten (record { written = t; writable = m.mode; is = m.are }))
end_stops place [] no_type ts m unwritten = refl
end_stops place [] behind_at ts m unwritten = refl
end_stops place [] (behind_name name) ts m unwritten = refl
end_stops place [] (behind_point name) ts m unwritten = refl
end_stops place [] (behind_key key) ts m unwritten = refl
end_stops place [] (behind_colon key) ts m unwritten = refl
end_stops place (frame ∷ fs) mode ts m unwritten = refl

stop_is_read : (text : List ℕ) (place : ℕ) → StopsAt text place → read_tokens 0 start (tokens text) ≡ Err (Syntax place)
stop_is_read text place (inl (before, t, stands, never)) =
    let way = stands_read text place before t stands in
    way.3 ∙ by way.0 way.1 way.2 (step way.0.open_ones way.0.mode t) refl
  where
    by : (st : State) (after : List Token) → Reached before st → (s : Option State) → step st.open_ones st.mode t ≡ s → read_tokens place st (t ∷ after) ≡ Err (Syntax place)
    by st after r None e = ap (λ s. read_on (λ n. read_tokens (place + length (token_bytes t)) n after) (unless_deep place (is_deep st.open_ones st.mode t) s)) e
    by st after r (Some next) e = absurd (never (state_begins next.open_ones next.mode (before ++ t ∷ []) (step_means st.open_ones st.mode t next before r.means e)))
stop_is_read text place (inr (at, begins, shallow, unwritten)) =
    let through = begins_through (tokens text) begins in
    let way = passes (tokens text) [] [] 0 start through.0 start_reached through.1 shallow in
    let whole = ap length (joined_tokens text) in
    let here : 0 + length (joined (tokens text)) ≡ place = omega (arith, at, whole) in
    ap (read_tokens 0 start) (sym (append-nil (tokens text))) ∙ way.reads
    ∙ ap (λ k. read_tokens k through.0 []) here
    ∙ end_stops place through.0.open_ones through.0.mode (tokens text) way.reached.means unwritten

depth_is_read : (text : List ℕ) (place : ℕ) → DeepensAt text place → read_tokens 0 start (tokens text) ≡ Err (TooDeep place)
depth_is_read text place (before, t, stands, begins, deep) =
    let way = stands_read text place before t stands in
    way.3 ∙ by way.0 way.1 way.2 (step way.0.open_ones way.0.mode t) refl
  where
    by : (st : State) (after : List Token) → Reached before st → (s : Option State) → step st.open_ones st.mode t ≡ s → read_tokens place st (t ∷ after) ≡ Err (TooDeep place)
    by st after r None e = absurd (no_beginning before t st r.reads e begins)
    by st after r (Some next) e =
        ap₂ (λ d s. read_on (λ n. read_tokens (place + length (token_bytes t)) n after) (unless_deep place d s)) (deep_is st.open_ones st.mode t next before r.counts e ∙ deep) e

pub first_fault_is_read : (text : List ℕ) (fault : TypeFault) → IsFaultOf fault text → read_tokens 0 start (tokens text) ≡ Err fault
first_fault_is_read text (Syntax place) h = stop_is_read text place h
first_fault_is_read text (TooDeep place) h = depth_is_read text place h
first_fault_is_read text NoMemory h = absurd h

-- A text has a type or a fault.
pub type_or_fault : (text : List ℕ) → ((t : Shape) × IsTextOf t text) ⊎ ((fault : TypeFault) × IsFaultOf fault text)
type_or_fault text = by (read_tokens 0 start (tokens text)) refl
  where
    by : (r : Result Shape TypeFault) → read_tokens 0 start (tokens text) ≡ r → ((t : Shape) × IsTextOf t text) ⊎ ((fault : TypeFault) × IsFaultOf fault text)
    by (Ok t) e = inl (t, read_is_text text t e)
    by (Err fault) e = inr (fault, fault_is_first text fault e)

pub one_type : (text : List ℕ) (t u : Shape) → IsTextOf t text → IsTextOf u text → t ≡ u
one_type text t u h k =
    let first = text_is_read text t h in
    let second = text_is_read text u k in
    cc

pub one_fault : (text : List ℕ) (fault again : TypeFault) → IsFaultOf fault text → IsFaultOf again text → fault ≡ again
one_fault text fault again h k =
    let first = first_fault_is_read text fault h in
    let second = first_fault_is_read text again k in
    cc

pub not_both : (text : List ℕ) (t : Shape) (fault : TypeFault) → IsTextOf t text → IsFaultOf fault text → ⊥
not_both text t fault h k =
    let first = text_is_read text t h in
    let second = first_fault_is_read text fault k in
    cc

pub one_text : (t : Shape) (text again : List ℕ) → IsTextOf t text → IsTextOf t again → text ≡ again
one_text t text again h k = sym (joined_tokens text) ∙ ap joined (sym h.is ∙ k.is) ∙ joined_tokens again

-- The answers of the program.
pub answers_text : (text : List ℕ) (r : Result PgType TypeFault) → Answers shape r (read_tokens 0 start (tokens text)) → IfOk r (λ t. IsTextOf (shape t) text)
answers_text text (Ok t) a = read_is_text text (shape t) a
answers_text text (Err e) a = tt

pub answers_fault : (text : List ℕ) (r : Result PgType TypeFault) → Answers shape r (read_tokens 0 start (tokens text)) → (fault : TypeFault) → fault ≢ NoMemory → r ≡ Err fault → IsFaultOf fault text
answers_fault text (Ok t) a fault some e = absurd (cc)
answers_fault text (Err (Syntax place)) a fault some e = let same : Syntax place ≡ fault = cc in fault_is_first text fault (a ∙ ap Err same)
answers_fault text (Err (TooDeep place)) a fault some e = let same : TooDeep place ≡ fault = cc in fault_is_first text fault (a ∙ ap Err same)
answers_fault text (Err NoMemory) a fault some e = let same : fault ≡ NoMemory = cc in absurd (some same)

pub answers_each_text : (text : List ℕ) (r : Result PgType TypeFault) → Answers shape r (read_tokens 0 start (tokens text)) → (t : Shape) → IsTextOf t text
    → MatchResult r (λ u. shape u ≡ t) (λ e. e ≡ NoMemory)
answers_each_text text r a t h = by r a (text_is_read text t h)
  where
    by : (q : Result PgType TypeFault) → Answers shape q (read_tokens 0 start (tokens text)) → read_tokens 0 start (tokens text) ≡ Ok t → MatchResult q (λ u. shape u ≡ t) (λ e. e ≡ NoMemory)
    by (Ok u) k e = cc
    by (Err (Syntax place)) k e = absurd (cc)
    by (Err (TooDeep place)) k e = absurd (cc)
    by (Err NoMemory) k e = refl
