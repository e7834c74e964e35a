-- A state counts the records that are open and the suffixes behind the last base, as the tokens in front of it say.
use Rattle.std.proofs.Common.{◌≡◌, ◌+◌, ℕ, List, [], ◌∷◌, ◌++◌, length, cond, Option, None, Some, Bool, true, false, nat_le, refl, sym, ap, subst, arith}
use Rattle.std.proofs.lemmas.List.{reverse-append}
use Rattle.std.proofs.lemmas.List.Sums.{sum_by-append}
use Rattle.std.proofs.lemmas.Option.{none-some}
use Rattle.std.specs.Bool.{⊤}
use Rattle.std.specs.List.{count_by, prefix_len}
use Rattle.std.specs.Str.{bytes_eq}
use Rattle.std.specs.Prelude.{codes, if◌then◌else◌, option_map}
use Rattle.pgw_meta.specs.Shape.{Shape}
use Rattle.pgw_notation.specs.Names.{is_name, type_named}
use Rattle.pgw_notation.specs.Tokens.{Token, word, question, brackets, opening, closing, comma, at_sign, point, colon}
use Rattle.pgw_notation.specs.Faults.{is_opening, is_closing, is_suffix, open_records, last_suffixes, is_too_deep}
use Rattle.pgw_notation.specs.Reading.{Frame, Mode, no_type, behind_at, behind_name, behind_point, behind_key, behind_colon, behind_type, State, start, in_mode, step, is_deep}

abbrev pub CountsSuffixes : Mode → ℕ → Type 0
CountsSuffixes (behind_type n t) count = count ≡ n
CountsSuffixes _ count = ⊤

pub record Counts (st : State) (ts : List Token) : Type 0 where
  pub records : count_by is_opening ts ≡ length st.open_ones + count_by is_closing ts
  pub suffixes : CountsSuffixes st.mode (last_suffixes ts)

pub start_counts : Counts start []
start_counts = record { records = refl; suffixes = tt }

count_push : (p : Token → Bool) (ts : List Token) (t : Token) → count_by p (ts ++ t ∷ []) ≡ count_by p ts + count_by p (t ∷ [])
count_push p ts t = sum_by-append (λ x. cond (p x) 1 0) ts (t ∷ [])

suffixes_push : (ts : List Token) (t : Token) → last_suffixes (ts ++ t ∷ []) ≡ cond (is_suffix t) (1 + last_suffixes ts) 0
suffixes_push ts t = ap (prefix_len is_suffix) (reverse-append ts (t ∷ []))

-- behind one token more
counts_on : (fs : List Frame) (mode : Mode) (ts : List Token) (t : Token) (next : State) → Counts (in_mode fs mode) ts
    → length fs + count_by is_opening (t ∷ []) ≡ length next.open_ones + count_by is_closing (t ∷ [])
    → CountsSuffixes next.mode (last_suffixes (ts ++ t ∷ [])) → Counts next (ts ++ t ∷ [])
counts_on fs mode ts t next c e s =
    let opens = count_push is_opening ts t in
    let closes = count_push is_closing ts t in
    let before = c.records in
    record { records = omega (arith, opens, closes, before, e); suffixes = s }

given : (st next : State) (ts : List Token) → Some st ≡ Some next → Counts st ts → Counts next ts
given st next ts e c = let same : st ≡ next = cc in subst (λ s. Counts s ts) same c

wants : (b : Bool) (st next : State) (ts : List Token) → (if b then Some st else None) ≡ Some next → Counts st ts → Counts next ts
wants true st next ts e c = given st next ts e c
wants false st next ts e c = absurd (none-some next e)

pub step_counts : (fs : List Frame) (mode : Mode) (t : Token) (next : State) (ts : List Token) → Counts (in_mode fs mode) ts → step fs mode t ≡ Some next → Counts next (ts ++ t ∷ [])
step_counts fs no_type (word name) next ts c e = by (type_named name) e
  where
    by : (r : Option Shape) → option_map (λ t. in_mode fs (behind_type 0 t)) r ≡ Some next → Counts next (ts ++ word name ∷ [])
    by None k = absurd (none-some next k)
    by (Some t) k = given _ next _ k (counts_on fs no_type ts (word name) (in_mode fs (behind_type 0 t)) c refl (suffixes_push ts (word name)))
step_counts fs no_type opening next ts c e = given _ next _ e (counts_on fs no_type ts opening _ c (omega arith) tt)
step_counts fs no_type at_sign next ts c e = given _ next _ e (counts_on fs no_type ts at_sign _ c refl tt)
step_counts fs behind_at (word name) next ts c e = wants (is_name name) _ next _ e (counts_on fs behind_at ts (word name) (in_mode fs (behind_name name)) c refl tt)
step_counts fs (behind_name first) point next ts c e = given _ next _ e (counts_on fs (behind_name first) ts point _ c refl tt)
step_counts fs (behind_name first) colon next ts c e = given _ next _ e (counts_on fs (behind_name first) ts colon _ c refl tt)
step_counts fs (behind_point first) (word name) next ts c e =
    wants (is_name name) _ next _ e (counts_on fs (behind_point first) ts (word name) (in_mode fs (behind_key (record { schema = Some first; name = name }))) c refl tt)
step_counts fs (behind_key key) colon next ts c e = given _ next _ e (counts_on fs (behind_key key) ts colon _ c refl tt)
step_counts fs (behind_colon key) (word name) next ts c e =
    wants (bytes_eq name (codes "text")) _ next _ e (counts_on fs (behind_colon key) ts (word name) _ c refl (suffixes_push ts (word name)))
step_counts fs (behind_colon key) opening next ts c e = given _ next _ e (counts_on fs (behind_colon key) ts opening _ c (omega arith) tt)
step_counts fs (behind_type n t) question next ts c e =
    given _ next _ e (counts_on fs (behind_type n t) ts question _ c refl (let pushed = suffixes_push ts question in let before = c.suffixes in omega (arith, pushed, before)))
step_counts fs (behind_type n t) brackets next ts c e =
    given _ next _ e (counts_on fs (behind_type n t) ts brackets _ c refl (let pushed = suffixes_push ts brackets in let before = c.suffixes in omega (arith, pushed, before)))
step_counts (frame ∷ fs) (behind_type n t) comma next ts c e = given _ next _ e (counts_on (frame ∷ fs) (behind_type n t) ts comma _ c refl tt)
step_counts (frame ∷ fs) (behind_type n t) closing next ts c e =
    given _ next _ e (counts_on (frame ∷ fs) (behind_type n t) ts closing _ c (omega arith) (suffixes_push ts closing))
step_counts _ _ _ next ts c e = absurd (none-some next e)

records_are : (fs : List Frame) (mode : Mode) (ts : List Token) → Counts (in_mode fs mode) ts → nat_le 31 (length fs) ≡ nat_le 31 (open_records ts)
records_are fs mode ts c = let counted = c.records in let same : length fs ≡ open_records ts = omega (arith, counted) in ap (nat_le 31) same

-- A token that may follow is too deep by the state where it is by the tokens.
pub deep_is : (fs : List Frame) (mode : Mode) (t : Token) (next : State) (ts : List Token) → Counts (in_mode fs mode) ts → step fs mode t ≡ Some next → is_deep fs mode t ≡ is_too_deep ts t
deep_is fs no_type (word name) next ts c e = refl
deep_is fs no_type opening next ts c e = records_are fs no_type ts c
deep_is fs no_type at_sign next ts c e = refl
deep_is fs behind_at (word name) next ts c e = refl
deep_is fs (behind_name first) point next ts c e = refl
deep_is fs (behind_name first) colon next ts c e = refl
deep_is fs (behind_point first) (word name) next ts c e = refl
deep_is fs (behind_key key) colon next ts c e = refl
deep_is fs (behind_colon key) (word name) next ts c e = refl
deep_is fs (behind_colon key) opening next ts c e = records_are fs (behind_colon key) ts c
deep_is fs (behind_type n t) question next ts c e = ap (nat_le 31) (sym c.suffixes)
deep_is fs (behind_type n t) brackets next ts c e = ap (nat_le 31) (sym c.suffixes)
deep_is (frame ∷ fs) (behind_type n t) comma next ts c e = refl
deep_is (frame ∷ fs) (behind_type n t) closing next ts c e = refl
deep_is _ _ _ next ts c e = absurd (none-some next e)
