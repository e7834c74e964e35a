-- Which text a type is written as, and what is wrong with a text that none is.
use Rattle.std.specs.Prelude.{ℕ, ◌≡◌, ◌-◌, ◌⊎◌, List, [], ◌∷◌, ◌++◌, length, reverse, Bool, true, false, nat_le}
use Rattle.std.specs.List.{count_by, prefix_len}
use Rattle.pgw_meta.specs.Shape.{Shape}
use Rattle.pgw_notation.specs.Tokens.{Token, question, brackets, opening, closing, tokens, joined}
use Rattle.pgw_notation.specs.Notation.{notation, IsWritable}
use Rattle.pgw_notation.specs.declared.fault.TypeFault.{TypeFault}
use Rattle.pgw_notation.specs.declared.fault.TypeFault.TheVariants.{Syntax, TooDeep, NoMemory}

-- Some type is written in these tokens and more, or in these alone.
pub record BeginType (ts : List Token) : Type 0 where
  pub written : Shape
  pub behind : List Token
  pub writable : IsWritable written
  pub is : notation written ≡ ts ++ behind

-- Some type is written in these tokens.
pub record WriteType (ts : List Token) : Type 0 where
  pub written : Shape
  pub writable : IsWritable written
  pub is : notation written ≡ ts

abbrev pub is_opening : Token → Bool
is_opening opening = true
is_opening _ = false

abbrev pub is_closing : Token → Bool
is_closing closing = true
is_closing _ = false

abbrev pub is_suffix : Token → Bool
is_suffix question = true
is_suffix brackets = true
is_suffix _ = false

-- how many records are open behind these tokens
abbrev pub open_records : List Token → ℕ
open_records ts = count_by is_opening ts - count_by is_closing ts

-- how many suffixes stand at the end of these tokens
abbrev pub last_suffixes : List Token → ℕ
last_suffixes ts = prefix_len is_suffix (reverse ts)

-- whether a token behind these is a `(` while 31 records are open, or a suffix behind 31 others
abbrev pub is_too_deep : List Token → Token → Bool
is_too_deep before opening = nat_le 31 (open_records before)
is_too_deep before question = nat_le 31 (last_suffixes before)
is_too_deep before brackets = nat_le 31 (last_suffixes before)
is_too_deep before _ = false

-- No token of these is too deep.
abbrev pub IsShallow : List Token → Type 0
IsShallow ts =
    (before : List Token) (t : Token) (after : List Token) → ts ≡ before ++ t ∷ after → is_too_deep before t ≡ false

-- This text is that of a type.
pub record IsTextOf (t : Shape) (text : List ℕ) : Type 0 where
  pub writable : IsWritable t
  pub is : notation t ≡ tokens text
  pub shallow : IsShallow (tokens text)

-- These tokens of a text begin some type's text and are not too deep, and this token is behind them, at this place.
pub record StandsAt (text : List ℕ) (place : ℕ) (before : List Token) (t : Token) : Type 0 where
  pub after : List Token
  pub is : tokens text ≡ before ++ t ∷ after
  pub at : place ≡ length (joined before)
  pub begins : BeginType before
  pub shallow : IsShallow before

-- At this place of a text, a token begins that cannot follow those in front of it; or the text ends there too early.
abbrev pub StopsAt : List ℕ → ℕ → Type 0
StopsAt text place =
    ((before : List Token) × (t : Token) × StandsAt text place before t × (BeginType (before ++ t ∷ []) → ⊥))
    ⊎ ((place ≡ length text) × BeginType (tokens text) × IsShallow (tokens text) × (WriteType (tokens text) → ⊥))

-- At this place of a text, a token begins that may follow those in front of it and is too deep.
abbrev pub DeepensAt : List ℕ → ℕ → Type 0
DeepensAt text place =
    (before : List Token) × (t : Token) × StandsAt text place before t × BeginType (before ++ t ∷ [])
    × (is_too_deep before t ≡ true)

-- The first thing that is wrong with a text. Want of memory is nothing that is wrong with one.
abbrev pub IsFaultOf : TypeFault → List ℕ → Type 0
IsFaultOf (Syntax place) text = StopsAt text place
IsFaultOf (TooDeep place) text = DeepensAt text place
IsFaultOf NoMemory text = ⊥
