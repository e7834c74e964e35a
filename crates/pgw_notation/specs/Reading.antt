-- How tokens are read, one after the other, for the crate's own functions. `proofs/Exact.antt` proves that what is read
-- is what the notation says.
use Rattle.std.specs.Prelude.{ℕ, suc, ◌+◌, ◌≡◌, List, [], ◌∷◌, length, codes, Option, None, Some, option_map, Result, Ok, Err, Bool, false, nat_le, ⊤, if◌then◌else◌}
use Rattle.std.specs.Str.{bytes_eq}
use Rattle.pgw_meta.specs.Known.{Key}
use Rattle.pgw_meta.specs.Shape.{Shape, scalar, text, nullable, array, composite, named, Shapes, no_shapes, shape_then}
use Rattle.pgw_notation.specs.Names.{is_name, type_named}
use Rattle.pgw_notation.specs.Tokens.{Token, word, question, brackets, opening, closing, comma, at_sign, point, colon, token_bytes}
use Rattle.pgw_notation.specs.declared.fault.TypeFault.{TypeFault}
use Rattle.pgw_notation.specs.declared.fault.TypeFault.TheVariants.{Syntax, TooDeep, NoMemory}

-- a record whose `)` is still to come: the key in front of its `(`, and its components so far
pub record Frame : Type 0 where
  pub key : Option Key
  pub parts : Shapes

-- what stands in front of the next token, in the innermost record
pub data Mode : Type 0 where
  no_type : Mode
  behind_at : Mode
  behind_name : List ℕ → Mode
  behind_point : List ℕ → Mode
  behind_key : Key → Mode
  behind_colon : Key → Mode
  behind_type : ℕ → Shape → Mode

-- the records that are open, the innermost first, and what stands in front of the next token
pub record State : Type 0 where
  pub open_ones : List Frame
  pub mode : Mode

abbrev pub start : State
start = record { open_ones = []; mode = no_type }

-- with one component more
abbrev pub with_part : Shapes → Shape → Shapes
with_part no_shapes t = shape_then t no_shapes
with_part (shape_then u us) t = shape_then u (with_part us t)

-- a type that may have a key
abbrev pub keyed : Option Key → Shape → Shape
keyed None t = t
keyed (Some key) t = named key t

-- with one component more
abbrev pub extended : Frame → Shape → Frame
extended frame t = record { key = frame.key; parts = with_part frame.parts t }

-- the record that ends with this component
abbrev pub ended : Frame → Shape → Shape
ended frame t = keyed frame.key (composite (with_part frame.parts t))

-- the same with one record more open
abbrev pub opened : Option Key → List Frame → State
opened key fs = record { open_ones = record { key = key; parts = no_shapes } ∷ fs; mode = no_type }

abbrev pub in_mode : List Frame → Mode → State
in_mode fs mode = record { open_ones = fs; mode = mode }

-- what a token makes of what stands in front of it, where it may follow
abbrev pub step : List Frame → Mode → Token → Option State
step fs no_type (word name) = option_map (λ t. in_mode fs (behind_type 0 t)) (type_named name)
step fs no_type opening = Some (opened None fs)
step fs no_type at_sign = Some (in_mode fs behind_at)
step fs behind_at (word name) = if is_name name then Some (in_mode fs (behind_name name)) else None
step fs (behind_name first) point = Some (in_mode fs (behind_point first))
step fs (behind_name first) colon = Some (in_mode fs (behind_colon (record { schema = None; name = first })))
step fs (behind_point first) (word name) =
    if is_name name then Some (in_mode fs (behind_key (record { schema = Some first; name = name }))) else None
step fs (behind_key key) colon = Some (in_mode fs (behind_colon key))
step fs (behind_colon key) (word name) =
    if bytes_eq name (codes "text") then Some (in_mode fs (behind_type 0 (named key (scalar text)))) else None
step fs (behind_colon key) opening = Some (opened (Some key) fs)
step fs (behind_type n t) question = Some (in_mode fs (behind_type (suc n) (nullable t)))
step fs (behind_type n t) brackets = Some (in_mode fs (behind_type (suc n) (array t)))
step (frame ∷ fs) (behind_type n t) comma = Some (in_mode (extended frame t ∷ fs) no_type)
step (frame ∷ fs) (behind_type n t) closing = Some (in_mode fs (behind_type 0 (ended frame t)))
step _ _ _ = None

-- whether a token that may follow is too deep
abbrev pub is_deep : List Frame → Mode → Token → Bool
is_deep fs no_type opening = nat_le 31 (length fs)
is_deep fs (behind_colon key) opening = nat_le 31 (length fs)
is_deep fs (behind_type n t) question = nat_le 31 n
is_deep fs (behind_type n t) brackets = nat_le 31 n
is_deep _ _ _ = false

abbrev pub unless_deep : {A : Type 0} → ℕ → Bool → Option A → Result A TypeFault
unless_deep place deep None = Err (Syntax place)
unless_deep place deep (Some next) = if deep then Err (TooDeep place) else Ok next

-- what a token at this place makes of what stands in front of it, or its fault
abbrev pub read_token : ℕ → State → Token → Result State TypeFault
read_token place st t = unless_deep place (is_deep st.open_ones st.mode t) (step st.open_ones st.mode t)

-- the type of a text that ends here
abbrev pub read_end : ℕ → List Frame → Mode → Result Shape TypeFault
read_end place [] (behind_type n t) = Ok t
read_end place _ _ = Err (Syntax place)

-- what a function makes of what was read, or its fault
abbrev pub read_on : (State → Result Shape TypeFault) → Result State TypeFault → Result Shape TypeFault
read_on f (Ok st) = f st
read_on f (Err e) = Err e

-- the type of the tokens from this place on, or their first fault
abbrev pub read_tokens : ℕ → State → List Token → Result Shape TypeFault
read_tokens place st [] = read_end place st.open_ones st.mode
read_tokens place st (t ∷ ts) =
    read_on (λ next. read_tokens (place + length (token_bytes t)) next ts) (read_token place st t)

-- This is the answer, unless memory was refused.
abbrev pub Answers : {A B : Type 0} → (A → B) → Result A TypeFault → Result B TypeFault → Type 0
Answers view (Ok x) answer = answer ≡ Ok (view x)
Answers view (Err (Syntax place)) answer = answer ≡ Err (Syntax place)
Answers view (Err (TooDeep place)) answer = answer ≡ Err (TooDeep place)
Answers view (Err NoMemory) answer = ⊤
