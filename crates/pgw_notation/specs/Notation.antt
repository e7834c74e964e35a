-- How types are written:
--
--     type = base suffix*                                    suffix = "?" | "[]"
--     base = name | record | "@" key ":" ("text" | record)   key = [schema "."] name
--     record = "(" type ("," type)* ")"
--
-- `?` behind a type says that it may be null, and `[]` that it is an array of such elements.
use Rattle.std.specs.Prelude.{ℕ, ◌≤◌, List, [], ◌∷◌, ◌++◌, Option, None, Some, IsTrue, ⊤}
use Rattle.pgw_meta.specs.Known.{Key}
use Rattle.pgw_meta.specs.Shape.{Shape, scalar, nullable, array, range, multirange, composite, named, Shapes, no_shapes, shape_then, count_shapes}
use Rattle.pgw_meta.specs.Schema.{has_ranges, may_be_named}
use Rattle.pgw_notation.specs.Names.{type_name, IsNamed}
use Rattle.pgw_notation.specs.Tokens.{Token, word, question, brackets, opening, closing, comma, at_sign, point, colon}

-- the name of a schema and the point behind it, where a schema is said
abbrev pub schema_notation : Option (List ℕ) → List Token
schema_notation None = []
schema_notation (Some schema) = word schema ∷ point ∷ []

abbrev pub key_notation : Key → List Token
key_notation key = schema_notation key.schema ++ word key.name ∷ []

-- the tokens that a type is written in
abbrev mutual
  pub notation : Shape → List Token
  notation (scalar s) = word (type_name (scalar s)) ∷ []
  notation (nullable t) = notation t ++ question ∷ []
  notation (array t) = notation t ++ brackets ∷ []
  notation (range t) = word (type_name (range t)) ∷ []
  notation (multirange t) = word (type_name (multirange t)) ∷ []
  notation (composite ts) = parts_notation opening ts
  notation (named key t) = at_sign ∷ key_notation key ++ colon ∷ notation t

  -- those of the components of a record, with this token in front of the first
  pub parts_notation : Token → Shapes → List Token
  parts_notation front no_shapes = closing ∷ []
  parts_notation front (shape_then t ts) = front ∷ notation t ++ parts_notation comma ts

-- the types that the notation has
abbrev mutual
  pub IsWritable : Shape → Type 0
  IsWritable (scalar s) = ⊤
  IsWritable (nullable t) = IsWritable t
  IsWritable (array t) = IsWritable t
  IsWritable (range t) = IsTrue (has_ranges t)
  IsWritable (multirange t) = IsTrue (has_ranges t)
  IsWritable (composite ts) = (1 ≤ count_shapes ts) × AreWritable ts
  IsWritable (named key t) = IsNamed key × IsTrue (may_be_named t) × IsWritable t

  pub AreWritable : Shapes → Type 0
  AreWritable no_shapes = ⊤
  AreWritable (shape_then t ts) = IsWritable t × AreWritable ts
