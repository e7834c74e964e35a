-- What the program keeps of records that are open, and of types that they have as components.
use Rattle.std.proofs.Common.{◌≡◌, ◌-◌, ◌<◌, ℕ, List, [], ◌∷◌, ◌++◌, length, get_or, set, map, reverse, None, Some, option_map, Ok, refl, sym, ap, ◌∙◌, subst, arith}
use Rattle.std.proofs.lemmas.List.{map_push, reverse-append, length-append}
use Rattle.std.proofs.Math.Seq.{set-append_seam, get_or-append_seam}
use Rattle.pgw_meta.specs.Keys.{owned_key}
use Rattle.pgw_meta.specs.Shape.{composite, named, shape_then}
use Rattle.pgw_meta.specs.Types.{shape, shapes, types_of}
use Rattle.pgw_meta.specs.declared.key.TypeKey.{TypeKey}
use Rattle.pgw_meta.specs.declared.types.PgType.{PgType, Record}
use Rattle.pgw_meta.specs.declared.types.TypeList.{TypeList}
use Rattle.pgw_meta.proofs.Views.{shape_record}
use Rattle.pgw_notation.specs.Tokens.{comma}
use Rattle.pgw_notation.specs.Reading.{no_type, behind_type, with_part, keyed, ended, in_mode, read_token}
use Rattle.pgw_notation.specs.Views.{frame_of, frames_of}
use Rattle.pgw_notation.specs.declared.reading.Open.{Open}

shapes_push : (ts : List PgType) (t : PgType) → shapes (ts ++ t ∷ []) ≡ with_part (shapes ts) (shape t)
shapes_push [] t = refl
shapes_push (u ∷ us) t = ap (shape_then (shape u)) (shapes_push us t)

-- with one component more
parts_push : (new old : TypeList) (t : PgType) → types_of new ≡ types_of old ++ t ∷ [] → shapes (types_of new) ≡ with_part (shapes (types_of old)) (shape t)
parts_push new old t e = ap shapes e ∙ shapes_push (types_of old) t

pub record_kept : (innermost : Open) (new : TypeList) (last : PgType) → types_of new ≡ types_of innermost.parts ++ last ∷ [] → innermost.key ≡ None → ended (frame_of innermost) (shape last) ≡ shape (Record new)
record_kept innermost new last e none =
    ap (λ k. keyed (option_map owned_key k) (composite (with_part (shapes (types_of innermost.parts)) (shape last)))) none
    ∙ ap composite (sym (parts_push new innermost.parts last e))
    ∙ sym (shape_record new)

pub named_kept : (innermost : Open) (new : TypeList) (last boxed : PgType) (key : TypeKey) → types_of new ≡ types_of innermost.parts ++ last ∷ [] → innermost.key ≡ Some key → boxed ≡ Record new
    → ended (frame_of innermost) (shape last) ≡ named (owned_key key) (shape boxed)
named_kept innermost new last boxed key e some is =
    ap (λ k. keyed (option_map owned_key k) (composite (with_part (shapes (types_of innermost.parts)) (shape last)))) some
    ∙ ap (λ u. named (owned_key key) (composite u)) (sym (parts_push new innermost.parts last e))
    ∙ ap (named (owned_key key)) (sym (shape_record new))
    ∙ ap (λ u. named (owned_key key) (shape u)) (sym is)

pub frames_push : (records : List Open) (last : Open) → frames_of (records ++ last ∷ []) ≡ frame_of last ∷ frames_of records
frames_push records last = ap reverse (map_push frame_of records last) ∙ reverse-append (map frame_of records) (frame_of last ∷ [])

-- a list that is not empty, by its last element
record EndsWith (records : List Open) : Type 0 where
  front : List Open
  last : Open
  is : records ≡ front ++ last ∷ []

ends_with : (first : Open) (rest : List Open) → EndsWith (first ∷ rest)
ends_with first [] = record { front = []; last = first; is = refl }
ends_with first (second ∷ rest) =
    let more = ends_with second rest in
    record { front = first ∷ more.front; last = more.last; is = ap (λ us. first ∷ us) more.is }

last_length : (front : List Open) (last : Open) → length (front ++ last ∷ []) - 1 ≡ length front
last_length front last = let e = length-append front (last ∷ []) in omega (arith, e)

-- A component is added to the innermost of these records.
abbrev TakesComponent : ℕ → ℕ → Open → TypeList → PgType → List Open → Type 0
TakesComponent place n innermost new t records =
    innermost ≡ get_or records (length records - 1) innermost → types_of new ≡ types_of innermost.parts ++ t ∷ []
    → read_token place (in_mode (frames_of records) (behind_type n (shape t))) comma
    ≡ Ok (in_mode (frames_of (set records (length records - 1) (record { key = innermost.key; parts = new }))) no_type)

last_takes : (place n : ℕ) (front : List Open) (last innermost : Open) (new : TypeList) (t : PgType) → TakesComponent place n innermost new t (front ++ last ∷ [])
last_takes place n front last innermost new t is e =
    let end = last_length front last in
    let grown : Open = record { key = innermost.key; parts = new } in
    let same : innermost ≡ last = is ∙ ap (λ k. get_or (front ++ last ∷ []) k innermost) end ∙ get_or-append_seam front last [] innermost in
    let changed : set (front ++ last ∷ []) (length (front ++ last ∷ []) - 1) grown ≡ front ++ grown ∷ [] =
    ap (λ k. set (front ++ last ∷ []) k grown) end ∙ set-append_seam front last [] grown in
    ap (λ fs. read_token place (in_mode fs (behind_type n (shape t))) comma) (frames_push front last ∙ ap (λ o. frame_of o ∷ frames_of front) (sym same))
    ∙ ap (λ ps. Ok (in_mode (record { key = option_map owned_key innermost.key; parts = ps } ∷ frames_of front) no_type)) (sym (parts_push new innermost.parts t e))
    ∙ ap (λ fs. Ok (in_mode fs no_type)) (sym (ap frames_of changed ∙ frames_push front grown))

component_taken : (place n : ℕ) (records : List Open) (innermost : Open) (new : TypeList) (t : PgType) → 0 < length records → TakesComponent place n innermost new t records
component_taken place n [] innermost new t some is e = absurd (omega (arith, some))
component_taken place n (first ∷ rest) innermost new t some is e =
    let ends = ends_with first rest in
    subst (TakesComponent place n innermost new t) (sym ends.is) (last_takes place n ends.front ends.last innermost new t) is e

pub comma_kept : (place n count : ℕ) (records : List Open) (innermost : Open) (new : TypeList) (t : PgType)
    → length records ≡ count → 0 < length records → innermost ≡ get_or records (count - 1) innermost → types_of new ≡ types_of innermost.parts ++ t ∷ []
    → read_token place (in_mode (frames_of records) (behind_type n (shape t))) comma
    ≡ Ok (in_mode (frames_of (set records (count - 1) (record { key = innermost.key; parts = new }))) no_type)
comma_kept place n count records innermost new t counted some is e =
    component_taken place n records innermost new t some (is ∙ ap (λ k. get_or records (k - 1) innermost) (sym counted)) e
    ∙ ap (λ k. Ok (in_mode (frames_of (set records (k - 1) (record { key = innermost.key; parts = new }))) no_type)) counted
