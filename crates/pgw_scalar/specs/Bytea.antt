-- The field of a bytea, which is any bytes.
use Rattle.std.specs.Prelude.{◌≡◌, ℕ, List}

-- The piece is these bytes.
abbrev pub IsBytea : List ℕ → List ℕ → Type 0
IsBytea piece bytes = piece ≡ bytes
