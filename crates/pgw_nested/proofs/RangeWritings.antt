-- The bytes of a range that is written bound by bound, and of a multirange that is written range by range.
use Rattle.std.proofs.Common.{◌≡◌, ℕ, List, ◌∷◌, ◌++◌, [], None, Some, Ok, refl, sym, ap, ◌∙◌, ◌+◌, append_assoc}
use Rattle.std.specs.Int.{to_be_bytes, w32}
use Rattle.std.specs.declared.ops.Bound.{Bound}
use Rattle.std.specs.declared.ops.Bound.TheVariants.{Included, Excluded, Unbounded}
use Rattle.pgw_wire.specs.Cell.{Cell, frame}
use Rattle.pgw_wire.specs.declared.is_null.IsNull.{IsNull}
use Rattle.pgw_wire.specs.declared.is_null.IsNull.TheVariants.{Yes, No}
use Rattle.pgw_nested.specs.Frames.{frames}
use Rattle.pgw_nested.specs.Array.{Each}
use Rattle.pgw_nested.specs.Written.{WritesKnown, IsWrittenAs}
use Rattle.pgw_nested.specs.Writing.{WroteElement}
use Rattle.pgw_nested.specs.Range.{Bounds, AreBounds, lower_flags, upper_flags, bound_bytes, range_bytes}
use Rattle.pgw_nested.specs.RangeWritten.{BoundWrittenAs}
use Rattle.pgw_nested.proofs.ReadingOn.{frames_more, each_more}

-- the cell that a value was written as
pub value_wrote : {A : Type 0} (writes : WritesKnown A) (v : A) (bytes : List ℕ) (null : IsNull) → WroteElement writes v bytes (Ok null) → (c : Cell) × IsWrittenAs writes c v × (bytes ≡ frame c)
value_wrote writes v bytes Yes h = (None, h.0, h.1)
value_wrote writes v bytes No h = (Some h.0, h.1, h.2)

-- A bound and its cell are of the same kind.
pub same_lower : {C A : Type 0} (R : C → A → Type 0) (cell : Bound C) (bound : Bound A) → AreBounds R cell bound → lower_flags cell ≡ lower_flags bound
same_lower R Unbounded Unbounded h = refl
same_lower R Unbounded (Included v) h = absurd h
same_lower R Unbounded (Excluded v) h = absurd h
same_lower R (Included c) Unbounded h = absurd h
same_lower R (Included c) (Included v) h = refl
same_lower R (Included c) (Excluded v) h = absurd h
same_lower R (Excluded c) Unbounded h = absurd h
same_lower R (Excluded c) (Included v) h = absurd h
same_lower R (Excluded c) (Excluded v) h = refl

pub same_upper : {C A : Type 0} (R : C → A → Type 0) (cell : Bound C) (bound : Bound A) → AreBounds R cell bound → upper_flags cell ≡ upper_flags bound
same_upper R Unbounded Unbounded h = refl
same_upper R Unbounded (Included v) h = absurd h
same_upper R Unbounded (Excluded v) h = absurd h
same_upper R (Included c) Unbounded h = absurd h
same_upper R (Included c) (Included v) h = refl
same_upper R (Included c) (Excluded v) h = absurd h
same_upper R (Excluded c) Unbounded h = absurd h
same_upper R (Excluded c) (Included v) h = absurd h
same_upper R (Excluded c) (Excluded v) h = refl

pub joined : (old : List ℕ) (flags : ℕ) (a b : List ℕ) → ((old ++ flags ∷ []) ++ a) ++ b ≡ old ++ (flags ∷ (a ++ b))
joined old flags a b = append_assoc (old ++ flags ∷ []) a b ∙ append_assoc old (flags ∷ []) (a ++ b)

-- what two bounds were written as
pub bounds_wrote : {A : Type 0} (writes : WritesKnown A) (v : Bounds A) (lower upper : ℕ) (a b : List ℕ) (c d : Bound Cell) → lower ≡ lower_flags v.0 → upper ≡ upper_flags v.1
    → BoundWrittenAs writes c v.0 → a ≡ bound_bytes c → BoundWrittenAs writes d v.1 → b ≡ bound_bytes d
    → (lower + upper) ∷ (a ++ b) ≡ range_bytes (c, d)
bounds_wrote writes v lower upper a b c d l u w is x at =
    rw (l, u, sym (same_lower (IsWrittenAs writes) c v.0 w), sym (same_upper (IsWrittenAs writes) d v.1 x), is, at) refl

-- The bytes are the front of a multirange of so many ranges, of which these are written.
pub record IsFrontOfRanges {A : Type 0} (writes : WritesKnown A) (front : List A) (count : ℕ) (bytes : List ℕ)
    : Type 0 where
  pub cells : List Cell
  pub written : Each (IsWrittenAs writes) cells front
  pub is : bytes ≡ to_be_bytes w32 count ++ frames cells

-- one more range
pub ranges_more : {A : Type 0} (writes : WritesKnown A) (front : List A) (range : A) (count : ℕ) (bytes piece : List ℕ) (null : IsNull) → IsFrontOfRanges writes front count bytes → WroteElement writes range piece (Ok null)
    → IsFrontOfRanges writes (front ++ range ∷ []) count (bytes ++ piece)
ranges_more writes front range count bytes piece null f w =
    let v = value_wrote writes range piece null w in
    record {
      cells = f.cells ++ v.0 ∷ [];
      written = each_more (IsWrittenAs writes) f.cells front v.0 range f.written v.1;
      is = ap (λ (xs : List ℕ). xs ++ piece) f.is ∙ append_assoc (to_be_bytes w32 count) (frames f.cells) piece ∙
          ap (λ (xs : List ℕ). to_be_bytes w32 count ++ (frames f.cells ++ xs)) v.2 ∙ ap (λ (xs : List ℕ). to_be_bytes w32 count ++ xs) (sym (frames_more f.cells v.0));
    }
