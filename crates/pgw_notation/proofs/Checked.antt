-- The first fault of a text that is checked is that of the text as it is read.
use Rattle.std.proofs.Common.{◌≡◌, ◌+◌, ◌-◌, ◌==◌, ℕ, suc, List, [], ◌∷◌, length, codes, Option, None, Some, option_map, Result, Ok, Err, Bool, true, false, refl, ap, ◌∙◌, add-one, ne_eqb, arith, if◌then◌else◌}
use Rattle.std.specs.Option.{is_some, IfSome, IfNone}
use Rattle.std.specs.Result.{result_err}
use Rattle.std.specs.Str.{bytes_eq}
use Rattle.pgw_meta.specs.Shape.{Shape}
use Rattle.pgw_notation.specs.Names.{is_name, type_named}
use Rattle.pgw_notation.specs.Tokens.{Token, word, question, brackets, opening, closing, comma, at_sign, point, colon, token_bytes, tokens}
use Rattle.pgw_notation.specs.Faults.{IsTextOf, IsFaultOf}
use Rattle.pgw_notation.specs.Reading.{Frame, Mode, no_type, behind_at, behind_name, behind_point, behind_key, behind_colon, behind_type, State, start, in_mode, step, is_deep, unless_deep, read_end, read_on, read_tokens}
use Rattle.pgw_notation.specs.Checking.{Outline, at_start, after_at, after_name, after_point, after_key, after_colon, after_type, Sketch, sketch_at, sketch_if, outline_step, is_deep_outline, check_end, check_on, check_tokens}
use Rattle.pgw_notation.specs.declared.fault.TypeFault.{TypeFault}
use Rattle.pgw_notation.proofs.Exact.{read_is_text, fault_is_first, text_is_read, first_fault_is_read}

abbrev outline : Mode → Outline
outline no_type = at_start
outline behind_at = after_at
outline (behind_name name) = after_name
outline (behind_point schema) = after_point
outline (behind_key key) = after_key
outline (behind_colon key) = after_colon
outline (behind_type n t) = after_type n

abbrev sketch_of : State → Sketch
sketch_of st = sketch_at (length st.open_ones) (outline st.mode)

if_same : (b : Bool) (st : State) → sketch_if b (length st.open_ones) (outline st.mode) ≡ option_map sketch_of (if b then Some st else None)
if_same true st = refl
if_same false st = refl

not_none : (n : ℕ) → (suc n == 0) ≡ false
not_none n = ne_eqb (suc n) 0 (λ e. absurd (omega (arith, e)))

step_same : (fs : List Frame) (mode : Mode) (t : Token) → outline_step (length fs) (outline mode) t ≡ option_map sketch_of (step fs mode t)
step_same fs no_type (word name) = by (type_named name)
  where
    by : (r : Option Shape) → sketch_if (is_some r) (length fs) (after_type 0) ≡ option_map sketch_of (option_map (λ t. in_mode fs (behind_type 0 t)) r)
    by None = refl
    by (Some t) = refl
step_same fs no_type opening = ap (λ d. Some (sketch_at d at_start)) (add-one (length fs))
step_same fs no_type at_sign = refl
step_same fs behind_at (word name) = if_same (is_name name) (in_mode fs (behind_name name))
step_same fs (behind_name name) point = refl
step_same fs (behind_name name) colon = refl
step_same fs (behind_point schema) (word name) = if_same (is_name name) (in_mode fs (behind_key (record { schema = Some schema; name = name })))
step_same fs (behind_key key) colon = refl
step_same fs (behind_colon key) (word name) = if_same (bytes_eq name (codes "text")) _
step_same fs (behind_colon key) opening = ap (λ d. Some (sketch_at d at_start)) (add-one (length fs))
step_same fs (behind_type n t) question = ap (λ k. Some (sketch_at (length fs) (after_type k))) (add-one n)
step_same fs (behind_type n t) brackets = ap (λ k. Some (sketch_at (length fs) (after_type k))) (add-one n)
step_same [] (behind_type n t) comma = refl
step_same [] (behind_type n t) closing = refl
step_same (frame ∷ fs) (behind_type n t) comma = rw (not_none (length fs)) refl
step_same (frame ∷ fs) (behind_type n t) closing =
    let one_less : suc (length fs) - 1 ≡ length fs = omega arith in
    rw (not_none (length fs)) (ap (λ d. Some (sketch_at d (after_type 0))) one_less)
step_same _ _ _ = refl

deep_same : (fs : List Frame) (mode : Mode) (t : Token) → is_deep_outline (length fs) (outline mode) t ≡ is_deep fs mode t
deep_same fs no_type opening = refl
deep_same fs (behind_colon key) opening = refl
deep_same fs (behind_type n t) question = refl
deep_same fs (behind_type n t) brackets = refl
deep_same _ _ _ = refl

end_same : (place : ℕ) (fs : List Frame) (mode : Mode) → check_end place (length fs) (outline mode) ≡ result_err (read_end place fs mode)
end_same place [] (behind_type n t) = refl
end_same place (frame ∷ fs) (behind_type n t) = rw (not_none (length fs)) refl
end_same place (frame ∷ fs) no_type = refl
end_same place (frame ∷ fs) behind_at = refl
end_same place (frame ∷ fs) (behind_name name) = refl
end_same place (frame ∷ fs) (behind_point name) = refl
end_same place (frame ∷ fs) (behind_key key) = refl
end_same place (frame ∷ fs) (behind_colon key) = refl
end_same place [] no_type = refl
end_same place [] behind_at = refl
end_same place [] (behind_name name) = refl
end_same place [] (behind_point name) = refl
end_same place [] (behind_key key) = refl
end_same place [] (behind_colon key) = refl

goes_on : (place : ℕ) (deep : Bool) (r : Option State) (f : Sketch → Option TypeFault) (g : State → Result Shape TypeFault) → ((st : State) → f (sketch_of st) ≡ result_err (g st))
    → check_on f (unless_deep place deep (option_map sketch_of r)) ≡ result_err (read_on g (unless_deep place deep r))
goes_on place deep None f g h = refl
goes_on place true (Some st) f g h = refl
goes_on place false (Some st) f g h = h st

check_same : (ts : List Token) (place : ℕ) (st : State) → check_tokens place (sketch_of st) ts ≡ result_err (read_tokens place st ts)
check_same [] place st = end_same place st.open_ones st.mode
check_same (t ∷ ts) place st =
    let behind = place + length (token_bytes t) in
    ap (λ s. check_on (λ next. check_tokens behind next ts) (unless_deep place (is_deep_outline (length st.open_ones) (outline st.mode) t) s)) (step_same st.open_ones st.mode t)
    ∙ ap (λ d. check_on (λ next. check_tokens behind next ts) (unless_deep place d (option_map sketch_of (step st.open_ones st.mode t)))) (deep_same st.open_ones st.mode t)
    ∙ goes_on place (is_deep st.open_ones st.mode t) (step st.open_ones st.mode t) _ (λ next. read_tokens behind next ts) (λ next. check_same ts behind next)

checked : (text : List ℕ) (r : Option TypeFault) → r ≡ check_tokens 0 (sketch_at 0 at_start) (tokens text) → r ≡ result_err (read_tokens 0 start (tokens text))
checked text r e = e ∙ check_same (tokens text) 0 start

pub check_fault : (text : List ℕ) (r : Option TypeFault) → r ≡ check_tokens 0 (sketch_at 0 at_start) (tokens text) → IfSome r (λ fault. IsFaultOf fault text)
check_fault text None e = tt
check_fault text (Some fault) e = by (read_tokens 0 start (tokens text)) refl (checked text (Some fault) e)
  where
    by : (q : Result Shape TypeFault) → read_tokens 0 start (tokens text) ≡ q → Some fault ≡ result_err q → IsFaultOf fault text
    by (Ok t) is k = absurd (cc)
    by (Err found) is k =
        let same : read_tokens 0 start (tokens text) ≡ Err fault = cc in fault_is_first text fault same

pub check_none : (text : List ℕ) (r : Option TypeFault) → r ≡ check_tokens 0 (sketch_at 0 at_start) (tokens text) → IfNone r ((t : Shape) × IsTextOf t text)
check_none text (Some fault) e = tt
check_none text None e = by (read_tokens 0 start (tokens text)) refl (checked text None e)
  where
    by : (q : Result Shape TypeFault) → read_tokens 0 start (tokens text) ≡ q → None ≡ result_err q → (t : Shape) × IsTextOf t text
    by (Ok t) is k = (t, read_is_text text t is)
    by (Err found) is k = absurd (cc)

pub check_each_fault : (text : List ℕ) (r : Option TypeFault) → r ≡ check_tokens 0 (sketch_at 0 at_start) (tokens text) → (fault : TypeFault) → IsFaultOf fault text → r ≡ Some fault
check_each_fault text r e fault h = checked text r e ∙ ap result_err (first_fault_is_read text fault h)

pub check_each_text : (text : List ℕ) (r : Option TypeFault) → r ≡ check_tokens 0 (sketch_at 0 at_start) (tokens text) → (t : Shape) → IsTextOf t text → r ≡ None
check_each_text text r e t h = checked text r e ∙ ap result_err (text_is_read text t h)
