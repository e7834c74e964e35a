-- What a state says of the tokens that lead to it, and that some type's text goes on from there.
use Rattle.std.proofs.Common.{◌≡◌, ◌≤◌, ℕ, suc, List, [], ◌∷◌, ◌++◌, codes, Option, None, Some, option_map, Bool, true, false, refl, sym, ap, ◌∙◌, subst, append_assoc, append-nil, arith, if◌then◌else◌}
use Rattle.std.proofs.lemmas.Option.{none-some}
use Rattle.std.proofs.lemmas.Slice.Eq.{bytes_eq-Decides}
use Rattle.std.specs.Bool.{IsTrue, ⊤}
use Rattle.std.specs.List.{AllByRecursion}
use Rattle.std.specs.Option.{option_or, option_and_then}
use Rattle.std.specs.Str.{bytes_eq}
use Rattle.pgw_meta.specs.Known.{Key}
use Rattle.pgw_meta.specs.Shape.{Shape, scalar, text, int4, nullable, array, composite, named, Shapes, no_shapes, shape_then, count_shapes}
use Rattle.pgw_notation.specs.Names.{is_name, IsNamed, type_name, scalar_types, range_types, named_among, type_named}
use Rattle.pgw_notation.specs.Tokens.{Token, word, question, brackets, opening, closing, comma, at_sign, point, colon}
use Rattle.pgw_notation.specs.Notation.{key_notation, notation, parts_notation, IsWritable, AreWritable}
use Rattle.pgw_notation.specs.Faults.{BeginType}
use Rattle.pgw_notation.specs.Reading.{Frame, Mode, no_type, behind_at, behind_name, behind_point, behind_key, behind_colon, behind_type, State, start, with_part, keyed, extended, ended, opened, in_mode, step}
use Rattle.pgw_notation.proofs.Steps.{steps}

-- a key in front of a record
abbrev pub key_front : Option Key → List Token
key_front None = []
key_front (Some key) = at_sign ∷ key_notation key ++ colon ∷ []

-- components that others follow
abbrev pub parts_front : Shapes → List Token
parts_front no_shapes = []
parts_front (shape_then t ts) = notation t ++ comma ∷ parts_front ts

abbrev pub frame_tokens : Frame → List Token
frame_tokens frame = key_front frame.key ++ opening ∷ parts_front frame.parts

abbrev pub frames_tokens : List Frame → List Token
frames_tokens [] = []
frames_tokens (frame ∷ fs) = frames_tokens fs ++ frame_tokens frame

abbrev pub mode_tokens : Mode → List Token
mode_tokens no_type = []
mode_tokens behind_at = at_sign ∷ []
mode_tokens (behind_name name) = at_sign ∷ word name ∷ []
mode_tokens (behind_point schema) = at_sign ∷ word schema ∷ point ∷ []
mode_tokens (behind_key key) = at_sign ∷ key_notation key
mode_tokens (behind_colon key) = key_front (Some key)
mode_tokens (behind_type n t) = notation t

abbrev pub IsGoodKey : Option Key → Type 0
IsGoodKey None = ⊤
IsGoodKey (Some key) = IsNamed key

abbrev pub IsGoodFrame : Frame → Type 0
IsGoodFrame frame = IsGoodKey frame.key × AreWritable frame.parts

abbrev pub IsGoodMode : Mode → Type 0
IsGoodMode no_type = ⊤
IsGoodMode behind_at = ⊤
IsGoodMode (behind_name name) = IsTrue (is_name name)
IsGoodMode (behind_point schema) = IsTrue (is_name schema)
IsGoodMode (behind_key key) = IsNamed key
IsGoodMode (behind_colon key) = IsNamed key
IsGoodMode (behind_type n t) = IsWritable t

-- The state behind these tokens: they are those of its records and of what stands in front of the next token.
pub record Means (st : State) (ts : List Token) : Type 0 where
  pub are : frames_tokens st.open_ones ++ mode_tokens st.mode ≡ ts
  pub frames : AllByRecursion IsGoodFrame st.open_ones
  pub mode : IsGoodMode st.mode

pub start_means : Means start []
start_means = record { are = refl; frames = tt; mode = tt }

-- It is written by its name.
abbrev HasName : Shape → Type 0
HasName t = (notation t ≡ word (type_name t) ∷ []) × IsWritable t

abbrev NamedBy : List ℕ → Shape → Type 0
NamedBy name t = (notation t ≡ word name ∷ []) × IsWritable t

found_among : (name : List ℕ) (ts : List Shape) (t : Shape) → AllByRecursion HasName ts → named_among name ts ≡ Some t → NamedBy name t
found_among name [] t all e = absurd (none-some t e)
found_among name (u ∷ us) t all e = by (bytes_eq name (type_name u)) refl (found_among name us t all.1)
  where
    by : (b : Bool) → bytes_eq name (type_name u) ≡ b → (named_among name us ≡ Some t → NamedBy name t) → NamedBy name t
    by true is more =
        let same : u ≡ t = (let k = rw is at e in cc) in
        let named_so = (bytes_eq-Decides name (type_name u)).0 is in
        subst (NamedBy name) same (all.0.0 ∙ ap (λ n. word n ∷ []) (sym named_so), all.0.1)
    by false is more = more (rw is at e)

scalars_named : AllByRecursion HasName scalar_types
scalars_named = ((refl, tt), ((refl, tt), ((refl, tt), ((refl, tt), ((refl, tt), ((refl, tt), ((refl, tt), ((refl, tt), ((refl, tt), ((refl, tt), ((refl, tt), ((refl, tt), ((refl, tt), ((refl, tt), ((refl, tt), ((refl, tt), ((refl, tt), ((refl, tt), ((refl, tt), ((refl, tt), ((refl, tt), tt)))))))))))))))))))))

ranges_named : AllByRecursion HasName range_types
ranges_named = ((refl, refl), ((refl, refl), ((refl, refl), ((refl, refl), ((refl, refl), ((refl, refl), ((refl, refl), ((refl, refl), ((refl, refl), ((refl, refl), ((refl, refl), ((refl, refl), tt))))))))))))

pub named_is : (name : List ℕ) (t : Shape) → type_named name ≡ Some t → NamedBy name t
named_is name t e = by (named_among name scalar_types) refl e
  where
    by : (r : Option Shape) → named_among name scalar_types ≡ r → option_or r (named_among name range_types) ≡ Some t → NamedBy name t
    by None is k = found_among name range_types t ranges_named k
    by (Some u) is k = found_among name scalar_types t scalars_named (is ∙ k)

parts_end : (front : Token) (ps : Shapes) (t : Shape) → parts_notation front (with_part ps t) ≡ front ∷ (parts_front ps ++ (notation t ++ closing ∷ []))
parts_end front no_shapes t = refl
parts_end front (shape_then p ps) t =
    ap (λ ts. front ∷ (notation p ++ ts)) (parts_end comma ps t)
    ∙ ap (λ ts. front ∷ ts) (sym (append_assoc (notation p) (comma ∷ parts_front ps) (notation t ++ closing ∷ [])))

parts_more : (ps : Shapes) (t : Shape) → parts_front (with_part ps t) ≡ parts_front ps ++ (notation t ++ comma ∷ [])
parts_more no_shapes t = refl
parts_more (shape_then p ps) t =
    ap (λ ts. notation p ++ comma ∷ ts) (parts_more ps t)
    ∙ sym (append_assoc (notation p) (comma ∷ parts_front ps) (notation t ++ comma ∷ []))

ended_is : (key : Option Key) (ps : Shapes) (t : Shape) → notation (keyed key (composite (with_part ps t))) ≡ (key_front key ++ opening ∷ parts_front ps) ++ (notation t ++ closing ∷ [])
ended_is None ps t = parts_end opening ps t
ended_is (Some key) ps t =
    let end = notation t ++ closing ∷ [] in
    ap (λ ts. at_sign ∷ (key_notation key ++ colon ∷ ts)) (parts_end opening ps t)
    ∙ ap (λ ts. at_sign ∷ ts) (sym (append_assoc (key_notation key) (colon ∷ []) (opening ∷ (parts_front ps ++ end))))
    ∙ sym (append_assoc (at_sign ∷ (key_notation key ++ colon ∷ [])) (opening ∷ parts_front ps) end)

some_parts : (ps : Shapes) (t : Shape) → 1 ≤ count_shapes (with_part ps t)
some_parts no_shapes t = omega arith
some_parts (shape_then p ps) t = omega arith

parts_writable : (ps : Shapes) (t : Shape) → AreWritable ps → IsWritable t → AreWritable (with_part ps t)
parts_writable no_shapes t h k = (k, tt)
parts_writable (shape_then p ps) t h k = (h.0, parts_writable ps t h.1 k)

ended_writable : (key : Option Key) (ps : Shapes) (t : Shape) → IsGoodKey key → AreWritable ps → IsWritable t → IsWritable (keyed key (composite (with_part ps t)))
ended_writable None ps t g h k = (some_parts ps t, parts_writable ps t h k)
ended_writable (Some key) ps t g h k = (g, refl, (some_parts ps t, parts_writable ps t h k))

-- one token more behind the same records
one_more : (fs : List Frame) (mode : Mode) (ts : List Token) (t : Token) (next : Mode) → Means (in_mode fs mode) ts → mode_tokens next ≡ mode_tokens mode ++ t ∷ [] → IsGoodMode next → Means (in_mode fs next) (ts ++ t ∷ [])
one_more fs mode ts t next m e g = record {
  are = ap (λ us. frames_tokens fs ++ us) e ∙ sym (append_assoc (frames_tokens fs) (mode_tokens mode) (t ∷ [])) ∙ ap (λ us. us ++ t ∷ []) m.are;
  frames = m.frames;
  mode = g;
}

-- one record more
opens : (fs : List Frame) (mode : Mode) (ts : List Token) (key : Option Key) → Means (in_mode fs mode) ts → mode_tokens mode ≡ key_front key → IsGoodKey key → Means (opened key fs) (ts ++ opening ∷ [])
opens fs mode ts key m e g = record {
  are = append-nil (frames_tokens fs ++ (key_front key ++ opening ∷ []))
      ∙ ap (λ us. frames_tokens fs ++ (us ++ opening ∷ [])) (sym e)
      ∙ sym (append_assoc (frames_tokens fs) (mode_tokens mode) (opening ∷ []))
      ∙ ap (λ us. us ++ opening ∷ []) m.are;
  frames = ((g, tt), m.frames);
  mode = tt;
}

-- the same record with one component more
goes_on : (frame : Frame) (fs : List Frame) (n : ℕ) (t : Shape) (ts : List Token) → Means (in_mode (frame ∷ fs) (behind_type n t)) ts → Means (in_mode (extended frame t ∷ fs) no_type) (ts ++ comma ∷ [])
goes_on frame fs n t ts m =
    let front = key_front frame.key in
    let before = frames_tokens fs in
    record {
      are = append-nil (before ++ frame_tokens (extended frame t))
          ∙ ap (λ us. before ++ (front ++ opening ∷ us)) (parts_more frame.parts t)
          ∙ ap (λ us. before ++ us) (sym (append_assoc front (opening ∷ parts_front frame.parts) (notation t ++ comma ∷ [])))
          ∙ sym (append_assoc before (frame_tokens frame) (notation t ++ comma ∷ []))
          ∙ sym (append_assoc (before ++ frame_tokens frame) (notation t) (comma ∷ []))
          ∙ ap (λ us. us ++ comma ∷ []) m.are;
      frames = ((m.frames.0.0, parts_writable frame.parts t m.frames.0.1 m.mode), m.frames.1);
      mode = tt;
    }

-- the innermost record ends
ends : (frame : Frame) (fs : List Frame) (n : ℕ) (t : Shape) (ts : List Token) → Means (in_mode (frame ∷ fs) (behind_type n t)) ts → Means (in_mode fs (behind_type 0 (ended frame t))) (ts ++ closing ∷ [])
ends frame fs n t ts m =
    let before = frames_tokens fs in
    record {
      are = ap (λ us. before ++ us) (ended_is frame.key frame.parts t)
          ∙ sym (append_assoc before (frame_tokens frame) (notation t ++ closing ∷ []))
          ∙ sym (append_assoc (before ++ frame_tokens frame) (notation t) (closing ∷ []))
          ∙ ap (λ us. us ++ closing ∷ []) m.are;
      frames = m.frames.1;
      mode = ended_writable frame.key frame.parts t m.frames.0.0 m.frames.0.1 m.mode;
    }

given : (st next : State) (ts : List Token) → Some st ≡ Some next → Means st ts → Means next ts
given st next ts e m = let same : st ≡ next = cc in subst (λ s. Means s ts) same m

-- a name that a mode wants
wants_name : (name : List ℕ) (st next : State) (ts : List Token) → (if is_name name then Some st else None) ≡ Some next → (IsTrue (is_name name) → Means st ts) → Means next ts
wants_name name st next ts e m = by (is_name name) refl
  where
    by : (b : Bool) → is_name name ≡ b → Means next ts
    by true is = given st next ts (rw is at e) (m is)
    by false is = absurd (none-some next (rw is at e))

-- A token that may follow leads to the state behind it.
pub step_means : (fs : List Frame) (mode : Mode) (t : Token) (next : State) (ts : List Token) → Means (in_mode fs mode) ts → step fs mode t ≡ Some next → Means next (ts ++ t ∷ [])
step_means fs no_type (word name) next ts m e = by (type_named name) refl e
  where
    by : (r : Option Shape) → type_named name ≡ r → option_map (λ t. in_mode fs (behind_type 0 t)) r ≡ Some next → Means next (ts ++ word name ∷ [])
    by None is k = absurd (none-some next k)
    by (Some t) is k = let n = named_is name t is in given _ next _ k (one_more fs no_type ts (word name) (behind_type 0 t) m n.0 n.1)
step_means fs no_type opening next ts m e = given _ next _ e (opens fs no_type ts None m refl tt)
step_means fs no_type at_sign next ts m e = given _ next _ e (one_more fs no_type ts at_sign behind_at m refl tt)
step_means fs behind_at (word name) next ts m e = wants_name name _ next _ e (λ is. one_more fs behind_at ts (word name) (behind_name name) m refl is)
step_means fs (behind_name first) point next ts m e = given _ next _ e (one_more fs (behind_name first) ts point (behind_point first) m refl m.mode)
step_means fs (behind_name first) colon next ts m e =
    given _ next _ e (one_more fs (behind_name first) ts colon (behind_colon (record { schema = None; name = first })) m refl (record { schema = tt; name = m.mode }))
step_means fs (behind_point first) (word name) next ts m e =
    wants_name name _ next _ e (λ is. one_more fs (behind_point first) ts (word name) (behind_key (record { schema = Some first; name = name })) m refl (record { schema = m.mode; name = is }))
step_means fs (behind_key key) colon next ts m e = given _ next _ e (one_more fs (behind_key key) ts colon (behind_colon key) m refl m.mode)
step_means fs (behind_colon key) (word name) next ts m e = by (bytes_eq name (codes "text")) refl
  where
    by : (b : Bool) → bytes_eq name (codes "text") ≡ b → Means next (ts ++ word name ∷ [])
    by true is =
        let same = (bytes_eq-Decides name (codes "text")).0 is in
        let written : notation (named key (scalar text)) ≡ mode_tokens (behind_colon key) ++ word name ∷ [] =
        ap (λ w. at_sign ∷ (key_notation key ++ colon ∷ word w ∷ [])) (sym same)
        ∙ ap (λ us. at_sign ∷ us) (sym (append_assoc (key_notation key) (colon ∷ []) (word name ∷ []))) in
        given _ next _ (rw is at e) (one_more fs (behind_colon key) ts (word name) (behind_type 0 (named key (scalar text))) m written (m.mode, refl, tt))
    by false is = absurd (none-some next (rw is at e))
step_means fs (behind_colon key) opening next ts m e = given _ next _ e (opens fs (behind_colon key) ts (Some key) m refl m.mode)
step_means fs (behind_type n t) question next ts m e = given _ next _ e (one_more fs (behind_type n t) ts question (behind_type (suc n) (nullable t)) m refl m.mode)
step_means fs (behind_type n t) brackets next ts m e = given _ next _ e (one_more fs (behind_type n t) ts brackets (behind_type (suc n) (array t)) m refl m.mode)
step_means (frame ∷ fs) (behind_type n t) comma next ts m e = given _ next _ e (goes_on frame fs n t ts m)
step_means (frame ∷ fs) (behind_type n t) closing next ts m e = given _ next _ e (ends frame fs n t ts m)
step_means _ _ _ next ts m e = absurd (none-some next e)

-- Tokens that may follow lead to the state behind them.
pub steps_mean : (us : List Token) (st next : State) (ts : List Token) → Means st ts → steps st us ≡ Some next → Means next (ts ++ us)
steps_mean [] st next ts m e = subst (Means next) (sym (append-nil ts)) (given st next ts e m)
steps_mean (t ∷ us) st next ts m e = behind (step st.open_ones st.mode t) refl e (λ n. steps_mean us n next (ts ++ t ∷ []))
  where
    behind : (r : Option State) → step st.open_ones st.mode t ≡ r → option_and_then (λ n. steps n us) r ≡ Some next
        → ((n : State) → Means n (ts ++ t ∷ []) → steps n us ≡ Some next → Means next ((ts ++ t ∷ []) ++ us)) → Means next (ts ++ t ∷ us)
    behind None is k more = absurd (none-some next k)
    behind (Some n) is k more =
        subst (Means next) (append_assoc ts (t ∷ []) us) (more n (step_means st.open_ones st.mode t n ts m is) k)

-- what begins a type's text with a token more begins one
pub begins_before : (ts : List Token) (t : Token) → BeginType (ts ++ t ∷ []) → BeginType ts
begins_before ts t b = record {
  written = b.written;
  behind = t ∷ b.behind;
  writable = b.writable;
  is = b.is ∙ append_assoc ts (t ∷ []) b.behind;
}

-- behind a type, each record that is open may end
type_begins : (fs : List Frame) (n : ℕ) (t : Shape) (ts : List Token) → Means (in_mode fs (behind_type n t)) ts → BeginType ts
type_begins [] n t ts m = record { written = t; behind = []; writable = m.mode; is = m.are ∙ sym (append-nil ts) }
type_begins (frame ∷ fs) n t ts m = begins_before ts closing (type_begins fs 0 (ended frame t) (ts ++ closing ∷ []) (ends frame fs n t ts m))

colon_begins : (fs : List Frame) (key : Key) (ts : List Token) → Means (in_mode fs (behind_colon key)) ts → BeginType ts
colon_begins fs key ts m =
    let w = word (codes "text") in
    begins_before ts w (type_begins fs 0 (named key (scalar text)) (ts ++ w ∷ []) (step_means fs (behind_colon key) w _ ts m refl))

key_begins : (fs : List Frame) (key : Key) (ts : List Token) → Means (in_mode fs (behind_key key)) ts → BeginType ts
key_begins fs key ts m = begins_before ts colon (colon_begins fs key (ts ++ colon ∷ []) (step_means fs (behind_key key) colon _ ts m refl))

name_begins : (fs : List Frame) (name : List ℕ) (ts : List Token) → Means (in_mode fs (behind_name name)) ts → BeginType ts
name_begins fs name ts m = begins_before ts colon (colon_begins fs _ (ts ++ colon ∷ []) (step_means fs (behind_name name) colon _ ts m refl))

-- The tokens of each state begin some type's text.
pub state_begins : (fs : List Frame) (mode : Mode) (ts : List Token) → Means (in_mode fs mode) ts → BeginType ts
state_begins fs no_type ts m =
    let w = word (codes "int4") in
    begins_before ts w (type_begins fs 0 (scalar int4) (ts ++ w ∷ []) (step_means fs no_type w _ ts m refl))
state_begins fs behind_at ts m =
    let w = word (codes "a") in
    begins_before ts w (name_begins fs (codes "a") (ts ++ w ∷ []) (step_means fs behind_at w _ ts m refl))
state_begins fs (behind_name name) ts m = name_begins fs name ts m
state_begins fs (behind_point schema) ts m =
    let w = word (codes "a") in
    begins_before ts w (key_begins fs _ (ts ++ w ∷ []) (step_means fs (behind_point schema) w _ ts m refl))
state_begins fs (behind_key key) ts m = key_begins fs key ts m
state_begins fs (behind_colon key) ts m = colon_begins fs key ts m
state_begins fs (behind_type n t) ts m = type_begins fs n t ts m
