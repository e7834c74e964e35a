-- What a type is written as is read: each of its tokens may follow, and behind them stands the type.
use Rattle.std.proofs.Common.{◌≡◌, ◌≤◌, ℕ, suc, List, [], ◌∷◌, ◌++◌, Option, None, Some, option_map, refl, ap, ◌∙◌, append_assoc, arith, if◌then◌else◌}
use Rattle.std.proofs.lemmas.Bool.{false≢true}
use Rattle.std.specs.Bool.{IsTrue}
use Rattle.std.specs.Option.{option_and_then}
use Rattle.pgw_meta.specs.Known.{Key}
use Rattle.pgw_meta.specs.Shape.{Scalar, bool, char, int2, int4, int8, oid, text, bytea, uuid, money, pg_lsn, macaddr, macaddr8, inet, cidr, date, time, timestamp, timestamptz, interval, numeric, Shape, scalar, nullable, array, range, multirange, composite, named, Shapes, no_shapes, shape_then, count_shapes}
use Rattle.pgw_meta.specs.Schema.{has_ranges, may_be_named}
use Rattle.pgw_notation.specs.Names.{is_name, IsSchemaName, scalar_name, type_name, type_named}
use Rattle.pgw_notation.specs.Tokens.{Token, word, question, brackets, opening, comma, point, colon}
use Rattle.pgw_notation.specs.Notation.{key_notation, notation, parts_notation, IsWritable, AreWritable}
use Rattle.pgw_notation.specs.Reading.{Frame, no_type, behind_at, behind_name, behind_key, behind_colon, behind_type, State, with_part, keyed, opened, in_mode, step}

-- the state behind tokens, where each of them may follow
abbrev pub steps : State → List Token → Option State
steps st [] = Some st
steps st (t ∷ ts) = option_and_then (λ next. steps next ts) (step st.open_ones st.mode t)

pub steps_append : (st : State) (ts us : List Token) → steps st (ts ++ us) ≡ option_and_then (λ next. steps next us) (steps st ts)
steps_append st [] us = refl
steps_append st (t ∷ ts) us = behind (step st.open_ones st.mode t) (λ next. steps_append next ts us)
  where
    behind : (r : Option State) → ((next : State) → steps next (ts ++ us) ≡ option_and_then (λ n. steps n us) (steps next ts))
        → option_and_then (λ n. steps n (ts ++ us)) r ≡ option_and_then (λ n. steps n us) (option_and_then (λ n. steps n ts) r)
    behind None more = refl
    behind (Some next) more = more next

-- how many suffixes stand behind the base of a type
abbrev pub suffixes_of : Shape → ℕ
suffixes_of (nullable t) = suc (suffixes_of t)
suffixes_of (array t) = suc (suffixes_of t)
suffixes_of _ = 0

scalar_found : (s : Scalar) → type_named (scalar_name s) ≡ Some (scalar s)
scalar_found bool = refl
scalar_found char = refl
scalar_found int2 = refl
scalar_found int4 = refl
scalar_found int8 = refl
scalar_found oid = refl
scalar_found text = refl
scalar_found bytea = refl
scalar_found uuid = refl
scalar_found money = refl
scalar_found pg_lsn = refl
scalar_found macaddr = refl
scalar_found macaddr8 = refl
scalar_found inet = refl
scalar_found cidr = refl
scalar_found date = refl
scalar_found time = refl
scalar_found timestamp = refl
scalar_found timestamptz = refl
scalar_found interval = refl
scalar_found numeric = refl

ranges_found : (t : Shape) → IsTrue (has_ranges t) → (type_named (type_name (range t)) ≡ Some (range t)) × (type_named (type_name (multirange t)) ≡ Some (multirange t))
ranges_found (scalar int4) h = (refl, refl)
ranges_found (scalar int8) h = (refl, refl)
ranges_found (scalar numeric) h = (refl, refl)
ranges_found (scalar date) h = (refl, refl)
ranges_found (scalar timestamp) h = (refl, refl)
ranges_found (scalar timestamptz) h = (refl, refl)
ranges_found _ h = absurd (false≢true h)

-- the components of a record that follow others
abbrev all_parts : Shapes → Shapes → Shapes
all_parts no_shapes us = us
all_parts (shape_then t ts) us = shape_then t (all_parts ts us)

last_part : (ts : Shapes) (t : Shape) → with_part ts t ≡ all_parts ts (shape_then t no_shapes)
last_part no_shapes t = refl
last_part (shape_then u us) t = ap (shape_then u) (last_part us t)

next_part : (ts : Shapes) (t : Shape) (us : Shapes) → all_parts (with_part ts t) us ≡ all_parts ts (shape_then t us)
next_part no_shapes t us = refl
next_part (shape_then u ts) t us = ap (shape_then u) (next_part ts t us)

-- a record that is open, with these components so far
abbrev with_parts : Option Key → Shapes → Frame
with_parts key ts = record { key = key; parts = ts }

name_follows : (name : List ℕ) (f : State) → IsTrue (is_name name) → (if is_name name then Some f else None) ≡ Some f
name_follows name f h = rw h refl

key_accepts : (fs : List Frame) (schema : Option (List ℕ)) (name : List ℕ) (rest : List Token) → IsSchemaName schema → IsTrue (is_name name)
    → steps (in_mode fs behind_at) (key_notation (record { schema = schema; name = name }) ++ colon ∷ rest) ≡ steps (in_mode fs (behind_colon (record { schema = schema; name = name }))) rest
key_accepts fs None name rest h k = ap (option_and_then (λ next. steps next (colon ∷ rest))) (name_follows name (in_mode fs (behind_name name)) k)
key_accepts fs (Some schema) name rest h k =
    ap (option_and_then (λ next. steps next (point ∷ word name ∷ colon ∷ rest))) (name_follows schema (in_mode fs (behind_name schema)) h)
    ∙ ap (option_and_then (λ next. steps next (colon ∷ rest))) (name_follows name (in_mode fs (behind_key (record { schema = Some schema; name = name }))) k)

mutual
  -- where a type has to come
  pub accepts : (t : Shape) (fs : List Frame) (rest : List Token) → IsWritable t
      → steps (in_mode fs no_type) (notation t ++ rest) ≡ steps (in_mode fs (behind_type (suffixes_of t) t)) rest
  accepts (scalar s) fs rest h = ap (λ r. option_and_then (λ next. steps next rest) (option_map (λ t. in_mode fs (behind_type 0 t)) r)) (scalar_found s)
  accepts (nullable t) fs rest h = ap (steps (in_mode fs no_type)) (append_assoc (notation t) (question ∷ []) rest) ∙ accepts t fs (question ∷ rest) h
  accepts (array t) fs rest h = ap (steps (in_mode fs no_type)) (append_assoc (notation t) (brackets ∷ []) rest) ∙ accepts t fs (brackets ∷ rest) h
  accepts (range t) fs rest h = ap (λ r. option_and_then (λ next. steps next rest) (option_map (λ t. in_mode fs (behind_type 0 t)) r)) (ranges_found t h).0
  accepts (multirange t) fs rest h = ap (λ r. option_and_then (λ next. steps next rest) (option_map (λ t. in_mode fs (behind_type 0 t)) r)) (ranges_found t h).1
  accepts (composite ts) fs rest h = record_accepts ts None fs rest (in_mode fs no_type) refl h.0 h.1
  accepts (named key t) fs rest h =
      ap (steps (in_mode fs behind_at)) (append_assoc (key_notation key) (colon ∷ notation t) rest)
      ∙ key_accepts fs key.schema key.name (notation t ++ rest) h.0.schema h.0.name
      ∙ named_accepts t key fs rest h.1 h.2

  -- behind a key and a colon
  named_accepts : (t : Shape) (key : Key) (fs : List Frame) (rest : List Token) → IsTrue (may_be_named t) → IsWritable t
      → steps (in_mode fs (behind_colon key)) (notation t ++ rest) ≡ steps (in_mode fs (behind_type 0 (named key t))) rest
  named_accepts (scalar text) key fs rest n h = refl
  named_accepts (composite ts) key fs rest n h = record_accepts ts (Some key) fs rest (in_mode fs (behind_colon key)) refl h.0 h.1
  named_accepts _ key fs rest n h = absurd (false≢true n)

  -- where a `(` opens a record
  record_accepts : (ts : Shapes) (key : Option Key) (fs : List Frame) (rest : List Token) (st : State) → step st.open_ones st.mode opening ≡ Some (opened key fs)
      → 1 ≤ count_shapes ts → AreWritable ts
      → steps st (parts_notation opening ts ++ rest) ≡ steps (in_mode fs (behind_type 0 (keyed key (composite ts)))) rest
  record_accepts no_shapes key fs rest st e n h = absurd (omega (arith, n))
  record_accepts (shape_then t ts) key fs rest st e n h =
      ap (λ r. option_and_then (λ next. steps next ((notation t ++ parts_notation comma ts) ++ rest)) r) e
      ∙ ap (steps (opened key fs)) (append_assoc (notation t) (parts_notation comma ts) rest)
      ∙ accepts t (with_parts key no_shapes ∷ fs) (parts_notation comma ts ++ rest) h.0
      ∙ parts_accept ts key no_shapes t (suffixes_of t) fs rest h.1

  -- behind a component
  parts_accept : (ts : Shapes) (key : Option Key) (before : Shapes) (t : Shape) (n : ℕ) (fs : List Frame) (rest : List Token) → AreWritable ts
      → steps (in_mode (with_parts key before ∷ fs) (behind_type n t)) (parts_notation comma ts ++ rest)
      ≡ steps (in_mode fs (behind_type 0 (keyed key (composite (all_parts before (shape_then t ts)))))) rest
  parts_accept no_shapes key before t n fs rest h = ap (λ us. steps (in_mode fs (behind_type 0 (keyed key (composite us)))) rest) (last_part before t)
  parts_accept (shape_then u us) key before t n fs rest h =
      ap (steps (in_mode (with_parts key (with_part before t) ∷ fs) no_type)) (append_assoc (notation u) (parts_notation comma us) rest)
      ∙ accepts u (with_parts key (with_part before t) ∷ fs) (parts_notation comma us ++ rest) h.0
      ∙ parts_accept us key (with_part before t) u (suffixes_of u) fs rest h.1
      ∙ ap (λ all. steps (in_mode fs (behind_type 0 (keyed key (composite all)))) rest) (next_part before t (shape_then u us))
