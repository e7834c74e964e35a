-- The bytes of an array that is written element by element.
use Rattle.std.proofs.Common.{◌≡◌, ◌≤◌, ◌<◌, ◌+◌, inr, ℕ, suc, Bool, true, false, ◌||◌, List, [], ◌∷◌, ◌++◌, length, take, drop, refl, ap, sym, ◌∙◌, append_assoc, append-nil, arith, length-append, length-take, length-drop, get_or, None, Some, Result, Ok, Err, add_assoc}
use Rattle.std.proofs.Math.Seq.{take-append-add, drop-append-add, take-append_seam, drop-append_seam}
use Rattle.std.proofs.lemmas.List.{take_more, take-append-drop}
use Rattle.std.specs.Int.{to_be_bytes, w32}
use Rattle.pgw_wire.specs.Cell.{Cell, frame}
use Rattle.pgw_wire.specs.Room.{overwritten}
use Rattle.pgw_wire.specs.declared.is_null.IsNull.{IsNull}
use Rattle.pgw_wire.specs.declared.is_null.IsNull.TheVariants.{Yes, No}
use Rattle.pgw_meta.specs.Known.{Known, Oids}
use Rattle.pgw_meta.specs.Naming.{Naming}
use Rattle.pgw_meta.specs.Writing.{Writes, Wrote, IsWriteRefused}
use Rattle.pgw_meta.specs.declared.serialize.WriteError.{WriteError}
use Rattle.pgw_meta.specs.declared.serialize.WriteError.TheVariants.{LookupFailed, NoMemory}
use Rattle.pgw_nested.specs.Frames.{frames}
use Rattle.pgw_nested.specs.Array.{Each, array_head, is_null, any_null, flags_of}
use Rattle.pgw_nested.specs.Marks.{null_length}
use Rattle.pgw_nested.specs.Written.{WritesKnown, IsWrittenAs, RefusesElements, WritesArray}
use Rattle.pgw_nested.specs.Writing.{flagged, IsFront, WroteElements}
use Rattle.pgw_nested.proofs.ReadingOn.{frames_more, each_more}

pub flag_set : (flags oid n : ℕ) (fs : List ℕ) → overwritten (array_head flags oid n 1 ++ fs) 4 (to_be_bytes w32 1) ≡ array_head 1 oid n 1 ++ fs
unfolding array_head
flag_set flags oid n fs = refl

-- Bytes in front of an array are not touched.
pub overwritten_behind : (base bytes piece : List ℕ) (place : ℕ) → place ≡ length base + 4 → length piece ≡ 4 → overwritten (base ++ bytes) place piece ≡ base ++ overwritten bytes 4 piece
overwritten_behind base bytes piece place h four =
    rw (h, four, take-append-add, add_assoc, drop-append-add) (ap (λ (xs : List ℕ). xs ++ drop 8 bytes) (append_assoc base (take 4 bytes) piece) ∙ append_assoc base (take 4 bytes ++ piece) (drop 8 bytes))

pub overwritten_length : (bytes piece : List ℕ) → 8 ≤ length bytes → length piece ≡ 4 → length (overwritten bytes 4 piece) ≡ length bytes
overwritten_length bytes piece h k = simp (length-append, length-take, length-drop) (omega (arith, h, k))

-- a word that stands behind bytes and in front of a piece, in place of another
pub length_set : (old word new piece : List ℕ) (place : ℕ) → place ≡ length old → length word ≡ 4 → length new ≡ 4 → overwritten ((old ++ word) ++ piece) place new ≡ old ++ (new ++ piece)
length_set old word new piece place at four same =
    let front : take place ((old ++ word) ++ piece) ≡ old = ap (λ (x : List ℕ). take place x) (append_assoc old word piece) ∙ taken old (word ++ piece) place at in
    let behind : drop (place + length new) ((old ++ word) ++ piece) ≡ piece = dropped (old ++ word) piece (place + length new) (omega (arith, at, four, same, length-append old word)) in
    ap (λ (x : List ℕ). (x ++ new) ++ drop (place + length new) ((old ++ word) ++ piece)) front ∙ ap (λ (x : List ℕ). (old ++ new) ++ x) behind ∙ append_assoc old new piece
  where
    taken : (x y : List ℕ) (n : ℕ) → n ≡ length x → take n (x ++ y) ≡ x
    taken x y n e = rw e (take-append_seam x y)

    dropped : (x y : List ℕ) (n : ℕ) → n ≡ length x → drop n (x ++ y) ≡ y
    dropped x y n e = rw e (drop-append_seam x y)

any_null_more : (cs : List Cell) (c : Cell) → any_null (cs ++ c ∷ []) ≡ any_null cs || is_null c
any_null_more [] c = elim (is_null c) as (λ b. b || false ≡ b) [ true ↦ refl | false ↦ refl ]
any_null_more (d ∷ cs) c = elim (is_null d) as (λ b. b || any_null (cs ++ c ∷ []) ≡ (b || any_null cs) || is_null c) [ true ↦ refl | false ↦ any_null_more cs c ]

or_true : (b : Bool) → b || true ≡ true
or_true true = refl
or_true false = refl

or_false : (b : Bool) → b || false ≡ b
or_false true = refl
or_false false = refl

abbrev head : Bool → ℕ → ℕ → List ℕ
head null oid n = array_head (flags_of null) oid n 1

next_bytes : (cs : List Cell) (c : Cell) (oid n : ℕ) → flagged (is_null c) ((head (any_null cs) oid n ++ frames cs) ++ frame c) ≡ head (any_null (cs ++ c ∷ [])) oid n ++ frames (cs ++ c ∷ [])
next_bytes cs None oid n =
    ap (λ (bs : List ℕ). overwritten bs 4 (to_be_bytes w32 1)) (append_assoc (head (any_null cs) oid n) (frames cs) (frame None)) ∙
    flag_set (flags_of (any_null cs)) oid n (frames cs ++ frame None) ∙
    ap (λ (b : Bool). head b oid n ++ (frames cs ++ frame None)) (sym (any_null_more cs None ∙ or_true (any_null cs))) ∙
    ap (λ (fs : List ℕ). head (any_null (cs ++ None ∷ [])) oid n ++ fs) (sym (frames_more cs None))
next_bytes cs (Some p) oid n =
    append_assoc (head (any_null cs) oid n) (frames cs) (frame (Some p)) ∙
    ap (λ (b : Bool). head b oid n ++ (frames cs ++ frame (Some p))) (sym (any_null_more cs (Some p) ∙ or_false (any_null cs))) ∙
    ap (λ (fs : List ℕ). head (any_null (cs ++ Some p ∷ [])) oid n ++ fs) (sym (frames_more cs (Some p)))

pub front_at : {X : Type 0} (xs : List X) (i : ℕ) (x : X) → i < length xs → x ≡ get_or xs i x → take i xs ++ x ∷ [] ≡ take (i + 1) xs
front_at xs i x h e = ap (λ y. take i xs ++ y ∷ []) e ∙ sym (take_more xs i x h)

pub whole_at : {X : Type 0} (xs : List X) (i : ℕ) (x : X) → i < length xs → x ≡ get_or xs i x → take i xs ++ x ∷ drop (i + 1) xs ≡ xs
whole_at xs i x h e = sym (append_assoc (take i xs) (x ∷ []) (drop (i + 1) xs)) ∙ ap (λ zs. zs ++ drop (i + 1) xs) (front_at xs i x h e) ∙ take-append-drop (i + 1) xs

pub refused_for : (P Q : WriteError → Type 0) (e : WriteError) → (P e → Q e) → IsWriteRefused P e → IsWriteRefused Q e
refused_for P Q LookupFailed f r = tt
refused_for P Q NoMemory f r = tt
refused_for P Q e f r = f r

pub each_length : {A : Type 0} (Spell : Cell → A → Type 0) (cs : List Cell) (vs : List A) → Each Spell cs vs → length cs ≡ length vs
each_length Spell [] [] s = refl
each_length Spell [] (v ∷ vs) s = absurd s
each_length Spell (c ∷ cs) [] s = absurd s
each_length Spell (c ∷ cs) (v ∷ vs) s = ap suc (each_length Spell cs vs s.1)

-- the front of an array, and one more element
pub front_more : {A : Type 0} (writes : WritesKnown A) (front : List A) (x : A) (oid n : ℕ) (bytes more : List ℕ) (c : Cell) → IsFront writes front oid n bytes → IsWrittenAs writes c x → more ≡ flagged (is_null c) (bytes ++ frame c)
    → IsFront writes (front ++ x ∷ []) oid n more
front_more writes front x oid n bytes more c f w e = record {
  cells = f.cells ++ c ∷ [];
  written = each_more (IsWrittenAs writes) f.cells front c x f.written w;
  is = e ∙ ap (λ (bs : List ℕ). flagged (is_null c) (bs ++ frame c)) f.is ∙ next_bytes f.cells c oid n;
}

-- what is left of a piece that became a null
pub null_set : (old piece : List ℕ) (place : ℕ) → place ≡ length old → overwritten (take (place + 4) ((old ++ null_length) ++ piece)) place null_length ≡ old ++ null_length
null_set old piece place at =
    let front : take (place + 4) ((old ++ null_length) ++ piece) ≡ old ++ null_length = taken (old ++ null_length) piece (place + 4) (omega (arith, at, length-append old null_length)) in
    ap (λ (x : List ℕ). overwritten x place null_length) (front ∙ sym (append-nil (old ++ null_length))) ∙ length_set old null_length null_length [] place at refl refl ∙ ap (λ (x : List ℕ). old ++ x) (append-nil null_length)
  where
    taken : (x y : List ℕ) (n : ℕ) → n ≡ length x → take n (x ++ y) ≡ x
    taken x y n e = rw e (take-append_seam x y)

-- Elements that were written are an array of the type that is named.
pub array_wrote : {A : Type 0} (element : Naming) (writes : Writes A) (k : Known) (values : List A) (oids : Oids) (bytes : List ℕ) (r : Result IsNull WriteError) → element.oids k ≡ Ok oids
    → WroteElements (writes k) values oids.oid bytes r → Wrote (WritesArray element writes) k values bytes r
array_wrote element writes k values oids bytes (Ok Yes) named h = h
array_wrote element writes k values oids bytes (Ok No) named h = (oids, h.0, named, h.1, h.2, h.3)
array_wrote element writes k values oids bytes (Err e) named h =
    refused_for (RefusesElements (writes k) values) (λ d. WritesArray element writes k values (Err d) bytes) e (λ r. inr (oids, named, r)) h
