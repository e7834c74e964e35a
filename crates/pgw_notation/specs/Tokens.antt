-- The tokens of a text: the longest runs of letters of ASCII, digits and `_`; the marks of the notation; and each other
-- byte by itself.
use Rattle.std.specs.Prelude.{ℕ, ◌==◌, List, [], ◌∷◌, codes, if◌then◌else◌}
use Rattle.std.specs.List.{flat_map}
use Rattle.pgw_notation.specs.Names.{is_name_byte}

pub data Token : Type 0 where
  word : List ℕ → Token
  question : Token
  brackets : Token
  opening : Token
  closing : Token
  comma : Token
  at_sign : Token
  point : Token
  colon : Token
  other : ℕ → Token

abbrev pub token_bytes : Token → List ℕ
token_bytes (word name) = name
token_bytes question = codes "?"
token_bytes brackets = codes "[]"
token_bytes opening = codes "("
token_bytes closing = codes ")"
token_bytes comma = codes ","
token_bytes at_sign = codes "@"
token_bytes point = codes "."
token_bytes colon = codes ":"
token_bytes (other byte) = byte ∷ []

-- the text that tokens stand in, one behind the other
abbrev pub joined : List Token → List ℕ
joined = flat_map token_bytes

-- the mark of a byte
abbrev pub mark : ℕ → Token
mark byte =
    if byte == 63 then question
    else if byte == 40 then opening
    else if byte == 41 then closing
    else if byte == 44 then comma
    else if byte == 64 then at_sign
    else if byte == 46 then point
    else if byte == 58 then colon
    else other byte

-- tokens with a letter, a digit or `_` in front
abbrev pub behind_letter : ℕ → List Token → List Token
behind_letter byte (word name ∷ ts) = word (byte ∷ name) ∷ ts
behind_letter byte ts = word (byte ∷ []) ∷ ts

-- tokens with a `[` in front
abbrev pub behind_bracket : List Token → List Token
behind_bracket (other byte ∷ ts) = if byte == 93 then brackets ∷ ts else other 91 ∷ other byte ∷ ts
behind_bracket ts = other 91 ∷ ts

-- tokens with a byte in front
abbrev pub behind_byte : ℕ → List Token → List Token
behind_byte byte ts =
    if is_name_byte byte then behind_letter byte ts else if byte == 91 then behind_bracket ts else mark byte ∷ ts

abbrev pub tokens : List ℕ → List Token
tokens [] = []
tokens (byte ∷ bytes) = behind_byte byte (tokens bytes)
