-- The field of a text, which is any number of bytes, as long as they are UTF-8.
use Rattle.std.specs.Prelude.{◌≡◌, if◌then◌else◌, ℕ, List, Result, Ok, Err}
use Rattle.std.specs.Str.{IsUtf8, is_utf8}
use Rattle.pgw_wire.specs.declared.kind.Break.{Break}
use Rattle.pgw_wire.specs.declared.kind.Break.TheVariants.{Utf8}

-- the bytes that a text, which is the bytes of its UTF-8, is written as
abbrev pub text_bytes : List ℕ → List ℕ
text_bytes text = text

-- The piece is the bytes of this text.
pub record IsText (piece text : List ℕ) : Type 0 where
  pub utf8 : IsUtf8 text
  pub bytes : piece ≡ text_bytes text

-- A piece that is not UTF-8 is of no text.
abbrev pub BreaksText : Break → List ℕ → Type 0
BreaksText kind piece = (kind ≡ Utf8) × (IsUtf8 piece → ⊥)

-- the same as one function, for the crate's own functions
abbrev pub read_text : List ℕ → Result (List ℕ) Break
read_text piece = if is_utf8 piece then Ok piece else Err Utf8
