-- What is written of the elements of an array, into room that was made.
use Rattle.std.proofs.Common.{◌≡◌, ◌≤◌, ◌<◌, ◌+◌, ◌||◌, ℕ, Bool, false, List, [], ◌∷◌, ◌++◌, length, get_or, drop, map, Some, Result, Ok, Err, IsOk, refl, sym, ap, ◌∙◌, arith, subst, append_assoc, append-nil, length-append}
use Rattle.std.specs.List.{AllByRecursion}
use Rattle.std.specs.Int.{to_be_bytes, w32}
use Rattle.std.proofs.lemmas.List.{drop_more, drop_all}
use Rattle.pgw_wire.specs.Cell.{Cell, frame, size_of}
use Rattle.pgw_wire.specs.Room.{Room}
use Rattle.pgw_meta.specs.Known.{Known}
use Rattle.pgw_meta.specs.NamedOids.{oids_of}
use Rattle.pgw_meta.specs.Schema.{is_nullable}
use Rattle.pgw_meta.specs.Shape.{Shape, array}
use Rattle.pgw_nested.specs.Frames.{frames}
use Rattle.pgw_nested.specs.Array.{is_null, any_null, flags_of, array_head, array_bytes}
use Rattle.pgw_cell.specs.Value.{Value, list_of, elements}
use Rattle.pgw_cell.specs.Nulls.{unless_null}
use Rattle.pgw_cell.specs.Arrays.{frames_size}
use Rattle.pgw_cell.specs.Pieces.{HasPiece, canonical_piece}
use Rattle.pgw_cell.specs.Cells.{HasType, canonical_cell, canonical_size}
use Rattle.pgw_cell.specs.Data.{value_of, data_of, values_of}
use Rattle.pgw_cell.specs.Written.{counted, with_nulls}
use Rattle.pgw_cell.specs.Wrote.{Wrote, Began}
use Rattle.pgw_cell.specs.declared.datum.DatumList.{DatumList}
use Rattle.pgw_cell.specs.declared.datum.Datum.{Datum, Null as null_datum, List as list_datum}
use Rattle.pgw_cell.specs.declared.datum.Datum.TheVariants.{Null}
use Rattle.pgw_cell.specs.declared.write.WriteCellFault.{WriteCellFault}
use Rattle.pgw_cell.proofs.ArrayPieces.{elements_are, frame_length, frames_length, list_counted}
use Rattle.pgw_cell.proofs.Lists.{value_of_list}
use Rattle.pgw_cell.proofs.Pieces.{piece_written}
use Rattle.pgw_cell.proofs.Rewriting.{flagged, or_assoc, or_false}

-- The elements of a list's value are the values in it.
pub list_items : (d : Datum) (l : DatumList) (items : List Datum) → d ≡ list_datum l → items ≡ data_of l → elements (value_of d) ≡ values_of items
list_items d l items is same = elements_are (value_of d) (values_of items) (ap value_of is ∙ value_of_list l ∙ ap (λ ds. list_of (values_of ds)) (sym same))

pub list_has : (t : Shape) (d : Datum) (l : DatumList) (items : List Datum) → d ≡ list_datum l → items ≡ data_of l → HasPiece (array t) (value_of d) → AllByRecursion (HasType t) (values_of items)
list_has t d l items is same has =
    subst (λ (vs : List Value). AllByRecursion (HasType t) vs) (sym (elements_are (value_of d) has.0 has.1) ∙ list_items d l items is same) has.2

pub list_piece : (known : Known) (t : Shape) (d : Datum) (l : DatumList) (items : List Datum) → d ≡ list_datum l → items ≡ data_of l
    → canonical_piece known (array t) (value_of d) ≡ array_bytes (oids_of known t).oid (map (canonical_cell known t) (values_of items))
list_piece known t d l items is same = ap (λ (vs : List Value). array_bytes (oids_of known t).oid (map (canonical_cell known t) vs)) (list_items d l items is same)

-- A value that is not null makes no null.
pub not_null : (d : Datum) (p : List ℕ) → (d ≡ null_datum → ⊥) → false ≡ is_null (unless_null (value_of d) p)
not_null Null p other = absurd (other refl)
not_null _ p other = refl

pub items_more : (items : List Datum) (i : ℕ) (d : Datum) → i < length items → d ≡ get_or items i d → values_of (drop i items) ≡ value_of d ∷ values_of (drop (i + 1) items)
items_more items i d lt is = ap values_of (drop_more items i d lt) ∙ ap (λ (e : Datum). value_of e ∷ values_of (drop (i + 1) items)) (sym is)

abbrev pub item_bytes : Known → Shape → List Value → List ℕ
item_bytes known t vs = frames (map (canonical_cell known t) vs)

-- Behind the items whose fields were written these are left, for which there is room.
pub record LeftItems (known : Known) (t : Shape) (all left : List Value) (old now : Room) (null_so_far : Bool) : Type 0 where
  pub has : AllByRecursion (HasType t) left
  pub room : length (item_bytes known t left) ≤ now.spare
  pub small : length (item_bytes known t left) ≤ 2147483647
  pub bytes : old.bytes ++ item_bytes known t all ≡ now.bytes ++ item_bytes known t left
  pub spare : old.spare + length (item_bytes known t left) ≤ now.spare + length (item_bytes known t all)
  pub nulls : any_null (map (canonical_cell known t) all) ≡ null_so_far || any_null (map (canonical_cell known t) left)

pub items_first : (known : Known) (t : Shape) (vs : List Value) (old : Room) → AllByRecursion (HasType t) vs → length (item_bytes known t vs) ≤ old.spare → length (item_bytes known t vs) ≤ 2147483647 → LeftItems known t vs vs old old false
items_first known t vs old has room small = record { has = has; room = room; small = small; bytes = refl; spare = omega arith; nulls = refl }

-- one item: it is a value of the type, and there is room for its field
pub record NextItem (known : Known) (t : Shape) (v : Value) (now : Room) : Type 0 where
  pub has : HasType t v
  pub room : length (frame (canonical_cell known t v)) ≤ now.spare
  pub small : size_of (canonical_cell known t v) ≤ 2147483647

pub next_item : (known : Known) (t : Shape) (all left others : List Value) (v : Value) (old now : Room) (null_so_far : Bool) → left ≡ v ∷ others → LeftItems known t all left old now null_so_far → NextItem known t v now
next_item known t all left others v old now null_so_far is l =
    let long = ap (λ vs. length (item_bytes known t vs)) is ∙ length-append (frame (canonical_cell known t v)) (item_bytes known t others) in
    let has : AllByRecursion (HasType t) (v ∷ others) = subst (λ (vs : List Value). AllByRecursion (HasType t) vs) is l.has in
    record { has = has.0; room = omega (arith, l.room, long); small = omega (arith, l.small, long, frame_length (canonical_cell known t v)) }

-- There is no other answer where there is room.
pub was_written : (c : Cell) (r : Result (Unit {0}) WriteCellFault) (e : WriteCellFault) (old new : Room) → Wrote 2147483647 c r old new → size_of c ≤ 2147483647 → length (frame c) ≤ old.spare → r ≡ Err e → ⊥
was_written c r e old new w small room is = let ok : IsOk {T = Unit {0}} {E = WriteCellFault} (Err e) = subst (λ (s : Result (Unit {0}) WriteCellFault). IsOk s) is (w.suffices small room) in absurd (cc)

pub one_item : (known : Known) (t : Shape) (all left others : List Value) (v : Value) (old now new : Room) (null_so_far null_now : Bool) → left ≡ v ∷ others → LeftItems known t all left old now null_so_far
    → Wrote 2147483647 (canonical_cell known t v) (Ok tt) now new → null_now ≡ null_so_far || is_null (canonical_cell known t v) → LeftItems known t all others old new null_now
one_item known t all left others v old now new null_so_far null_now is l w nulls =
    let c = canonical_cell known t v in
    let both : item_bytes known t left ≡ frame c ++ item_bytes known t others = ap (item_bytes known t) is in
    let long = ap length both ∙ length-append (frame c) (item_bytes known t others) in
    let has : AllByRecursion (HasType t) (v ∷ others) = subst (λ (vs : List Value). AllByRecursion (HasType t) vs) is l.has in
    record {
      has = has.1;
      room = omega (arith, l.room, long, w.spare);
      small = omega (arith, l.small, long);
      bytes = l.bytes ∙ ap (λ (y : List ℕ). now.bytes ++ y) both ∙ sym (append_assoc now.bytes (frame c) (item_bytes known t others)) ∙ ap (λ (y : List ℕ). y ++ item_bytes known t others) (sym w.ok);
      spare = omega (arith, l.spare, long, w.spare);
      nulls = l.nulls ∙ ap (λ (vs : List Value). null_so_far || any_null (map (canonical_cell known t) vs)) is
          ∙ or_assoc null_so_far (is_null c) (any_null (map (canonical_cell known t) others))
          ∙ ap (λ (b : Bool). b || any_null (map (canonical_cell known t) others)) (sym nulls);
    }

pub record AreWritten (known : Known) (t : Shape) (all : List Value) (old new : Room) (null_there : Bool) : Type 0 where
  pub bytes : new.bytes ≡ old.bytes ++ item_bytes known t all
  pub spare : old.spare ≤ new.spare + length (item_bytes known t all)
  pub nulls : null_there ≡ any_null (map (canonical_cell known t) all)

pub items_done : (known : Known) (t : Shape) (all left : List Value) (old new : Room) (null_there : Bool) → left ≡ [] → LeftItems known t all left old new null_there → AreWritten known t all old new null_there
items_done known t all left old new null_there none l =
    let empty : item_bytes known t left ≡ [] = ap (item_bytes known t) none in
    record {
      bytes = sym (l.bytes ∙ ap (λ (y : List ℕ). new.bytes ++ y) empty ∙ append-nil new.bytes);
      spare = omega (arith, l.spare, ap length empty);
      nulls = sym (l.nulls ∙ ap (λ (vs : List Value). null_there || any_null (map (canonical_cell known t) vs)) none ∙ or_false null_there);
    }

pub no_items : (items : List Datum) (i : ℕ) → length items ≤ i → values_of (drop i items) ≡ []
no_items items i done = ap values_of (drop_all i items done)

-- how long the array is, and its elements
pub record ArraySize (known : Known) (t : Shape) (vs : List Value) : Type 0 where
  pub whole : 20 + frames_size (canonical_size t) vs ≡ length (array_bytes (oids_of known t).oid (map (canonical_cell known t) vs))
  pub elements : frames_size (canonical_size t) vs ≡ length (item_bytes known t vs)

pub array_sizes : (known : Known) (t : Shape) (vs : List Value) → AllByRecursion (HasType t) vs → ArraySize known t vs
array_sizes known t vs has = record {
  whole = list_counted (is_nullable t) (piece_written known t) (oids_of known t).oid vs has;
  elements = frames_length (is_nullable t) (piece_written known t) vs has;
}

-- what stands behind a length, where the beginning of an array, its elements, and its flags were written
pub array_behind : (begun head with_elements now : List ℕ) (oid n flags : ℕ) (cells : List Cell) (null_there : Bool) → head ≡ begun ++ array_head 0 oid n 1 → with_elements ≡ head ++ frames cells → flags ≡ length begun + 4
    → null_there ≡ any_null cells → n ≡ length cells → now ≡ with_nulls null_there flags with_elements → now ≡ begun ++ array_bytes oid cells
array_behind begun head with_elements now oid n flags cells null_there heads elements_are at nulls many is =
    is ∙ ap (with_nulls null_there flags) (elements_are ∙ ap (λ l. l ++ frames cells) heads ∙ append_assoc begun (array_head 0 oid n 1) (frames cells))
    ∙ flagged begun oid n flags (frames cells) null_there at
    ∙ ap (λ (b : Bool). begun ++ (array_head (flags_of b) oid n 1 ++ frames cells)) nulls
    ∙ ap (λ (k : ℕ). begun ++ (array_head (flags_of (any_null cells)) oid k 1 ++ frames cells)) many

-- A field that was begun, and whose piece was written then, was written.
pub wrote_piece : (most size : ℕ) (p : List ℕ) (old begun new : Room) → length p ≡ size → Began most size (Ok tt) old begun
    → new.bytes ≡ begun.bytes ++ p → begun.spare ≤ new.spare + length p → Wrote most (Some p) (Ok tt) old new
wrote_piece most size p old begun new many b more spare = record {
  ok = more ∙ ap (λ l. l ++ p) b.ok ∙ append_assoc old.bytes (to_be_bytes w32 size) p ∙ ap (λ n. old.bytes ++ (to_be_bytes w32 n ++ p)) (sym many);
  fits = omega (arith, many, b.fits);
  long = λ e. absurd (cc);
  memory = λ e. absurd (cc);
  kept = tt;
  spare = omega (arith, b.spare, spare, length-append (to_be_bytes w32 (length p)) p);
  suffices = λ short room. refl;
}

-- One that was not begun was not written, where its size is as it was counted.
pub wrote_no_piece : (most size : ℕ) (p : List ℕ) (e : WriteCellFault) (old new : Room) → most ≤ 2147483647 → size ≡ counted (length p) → Began most size (Err e) old new → Wrote most (Some p) (Err e) old new
wrote_no_piece most size p e old new max many b = record {
  ok = tt;
  fits = tt;
  long = λ is. omega (arith, many, b.long is);
  memory = λ is. omega (arith, many, max, b.memory is);
  kept = b.kept;
  spare = omega (arith, b.spare, length-append (to_be_bytes w32 (length p)) p);
  suffices = λ short room. b.suffices (omega (arith, many, short)) (omega (arith, many, max, short, room, length-append (to_be_bytes w32 (length p)) p));
}
