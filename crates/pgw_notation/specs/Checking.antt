-- How tokens are checked without making a type of them, for the crate's own functions: as they are read, where of the
-- types, names and keys nothing is kept. `proofs/Checked.antt` proves that the first fault is the same.
use Rattle.std.specs.Prelude.{ℕ, ◌+◌, ◌-◌, ◌==◌, List, [], ◌∷◌, length, codes, Option, None, Some, is_some, Result, Ok, Err, Bool, false, nat_le, if◌then◌else◌}
use Rattle.std.specs.Str.{bytes_eq}
use Rattle.pgw_notation.specs.Names.{is_name, type_named}
use Rattle.pgw_notation.specs.Tokens.{Token, word, question, brackets, opening, closing, comma, at_sign, point, colon, token_bytes}
use Rattle.pgw_notation.specs.Reading.{unless_deep}
use Rattle.pgw_notation.specs.declared.fault.TypeFault.{TypeFault}
use Rattle.pgw_notation.specs.declared.fault.TypeFault.TheVariants.{Syntax}

-- what kind of thing stands in front of the next token
pub data Outline : Type 0 where
  at_start : Outline
  after_at : Outline
  after_name : Outline
  after_point : Outline
  after_key : Outline
  after_colon : Outline
  after_type : ℕ → Outline

-- how many records are open, and what kind of thing stands in front of the next token
pub record Sketch : Type 0 where
  pub depth : ℕ
  pub outline : Outline

abbrev pub sketch_at : ℕ → Outline → Sketch
sketch_at d outline = record { depth = d; outline = outline }

abbrev pub sketch_if : Bool → ℕ → Outline → Option Sketch
sketch_if holds d outline = if holds then Some (sketch_at d outline) else None

-- what a token makes of it, where it may follow
abbrev pub outline_step : ℕ → Outline → Token → Option Sketch
outline_step d at_start (word name) = sketch_if (is_some (type_named name)) d (after_type 0)
outline_step d at_start opening = Some (sketch_at (d + 1) at_start)
outline_step d at_start at_sign = Some (sketch_at d after_at)
outline_step d after_at (word name) = sketch_if (is_name name) d after_name
outline_step d after_name point = Some (sketch_at d after_point)
outline_step d after_name colon = Some (sketch_at d after_colon)
outline_step d after_point (word name) = sketch_if (is_name name) d after_key
outline_step d after_key colon = Some (sketch_at d after_colon)
outline_step d after_colon (word name) = sketch_if (bytes_eq name (codes "text")) d (after_type 0)
outline_step d after_colon opening = Some (sketch_at (d + 1) at_start)
outline_step d (after_type n) question = Some (sketch_at d (after_type (n + 1)))
outline_step d (after_type n) brackets = Some (sketch_at d (after_type (n + 1)))
outline_step d (after_type n) comma = if d == 0 then None else Some (sketch_at d at_start)
outline_step d (after_type n) closing = if d == 0 then None else Some (sketch_at (d - 1) (after_type 0))
outline_step _ _ _ = None

-- whether a token that may follow is too deep
abbrev pub is_deep_outline : ℕ → Outline → Token → Bool
is_deep_outline d at_start opening = nat_le 31 d
is_deep_outline d after_colon opening = nat_le 31 d
is_deep_outline d (after_type n) question = nat_le 31 n
is_deep_outline d (after_type n) brackets = nat_le 31 n
is_deep_outline _ _ _ = false

-- what a token at this place makes of it, or its fault
abbrev pub check_token : ℕ → Sketch → Token → Result Sketch TypeFault
check_token place s t = unless_deep place (is_deep_outline s.depth s.outline t) (outline_step s.depth s.outline t)

-- the fault of a text that ends here
abbrev pub check_end : ℕ → ℕ → Outline → Option TypeFault
check_end place d (after_type n) = if d == 0 then None else Some (Syntax place)
check_end place d _ = Some (Syntax place)

-- what a function makes of what was checked, or its fault
abbrev pub check_on : (Sketch → Option TypeFault) → Result Sketch TypeFault → Option TypeFault
check_on f (Ok s) = f s
check_on f (Err e) = Some e

-- the first fault of the tokens from this place on
abbrev pub check_tokens : ℕ → Sketch → List Token → Option TypeFault
check_tokens place s [] = check_end place s.depth s.outline
check_tokens place s (t ∷ ts) = check_on (λ next. check_tokens (place + length (token_bytes t)) next ts) (check_token place s t)
