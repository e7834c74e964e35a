-- The bytes that a range or a multirange is written as are the field of one with the same cells, where no bound is null.
use Rattle.std.proofs.Common.{◌≡◌, ◌<◌, ◌+◌, ◌^◌, ℕ, false, List, [], ◌++◌, length, Some, refl, sym, append-nil}
use Rattle.std.specs.Int.{w32, to_be_bytes}
use Rattle.std.specs.declared.ops.Bound.{Bound}
use Rattle.std.specs.declared.ops.Bound.TheVariants.{Included, Excluded, Unbounded}
use Rattle.pgw_wire.specs.Cell.{Cell}
use Rattle.pgw_nested.specs.Frames.{frames, AreFramed}
use Rattle.pgw_nested.specs.Array.{Each}
use Rattle.pgw_nested.specs.Flags.{has, empty}
use Rattle.pgw_nested.specs.Range.{Bounds, HasLower, no_lower, lower_piece, HasUpper, no_upper, upper_piece, two_bounds, SpellsBound, IsRange, lower_flags, upper_flags, bound_bytes, range_bytes}
use Rattle.pgw_nested.specs.Multirange.{ranges_in, IsMultirange, multirange_bytes}

-- the piece that is written for a bound, as a cell
abbrev pub cell_of_bound : Bound (List ℕ) → Bound Cell
cell_of_bound Unbounded = Unbounded
cell_of_bound (Included p) = Included (Some p)
cell_of_bound (Excluded p) = Excluded (Some p)

-- The piece of the bound has at most 2147483647 bytes.
abbrev pub FitsBound : Bound (List ℕ) → Type 0
FitsBound Unbounded = Unit {0}
FitsBound (Included p) = length p < 2147483648
FitsBound (Excluded p) = length p < 2147483648

abbrev flags_of : Bound (List ℕ) → Bound (List ℕ) → ℕ
flags_of l u = lower_flags (cell_of_bound l) + upper_flags (cell_of_bound u)

not_empty : (l u : Bound (List ℕ)) → has (flags_of l u) empty ≡ false
unfolding has
not_empty Unbounded Unbounded = refl
not_empty Unbounded (Included q) = refl
not_empty Unbounded (Excluded q) = refl
not_empty (Included p) Unbounded = refl
not_empty (Included p) (Included q) = refl
not_empty (Included p) (Excluded q) = refl
not_empty (Excluded p) Unbounded = refl
not_empty (Excluded p) (Included q) = refl
not_empty (Excluded p) (Excluded q) = refl

written_lower : (l u : Bound (List ℕ)) (behind : List ℕ) → FitsBound l → HasLower (flags_of l u) (bound_bytes (cell_of_bound l) ++ behind) l behind
unfolding has
written_lower Unbounded Unbounded behind f = no_lower refl refl refl
written_lower Unbounded (Included q) behind f = no_lower refl refl refl
written_lower Unbounded (Excluded q) behind f = no_lower refl refl refl
written_lower (Included p) Unbounded behind f = lower_piece p refl f refl refl
written_lower (Included p) (Included q) behind f = lower_piece p refl f refl refl
written_lower (Included p) (Excluded q) behind f = lower_piece p refl f refl refl
written_lower (Excluded p) Unbounded behind f = lower_piece p refl f refl refl
written_lower (Excluded p) (Included q) behind f = lower_piece p refl f refl refl
written_lower (Excluded p) (Excluded q) behind f = lower_piece p refl f refl refl

written_upper : (l u : Bound (List ℕ)) → HasUpper (flags_of l u) (bound_bytes (cell_of_bound u)) u
unfolding has
written_upper Unbounded Unbounded = no_upper refl refl
written_upper (Included p) Unbounded = no_upper refl refl
written_upper (Excluded p) Unbounded = no_upper refl refl
written_upper Unbounded (Included q) = upper_piece (to_be_bytes w32 (length q)) q refl refl refl refl
written_upper (Included p) (Included q) = upper_piece (to_be_bytes w32 (length q)) q refl refl refl refl
written_upper (Excluded p) (Included q) = upper_piece (to_be_bytes w32 (length q)) q refl refl refl refl
written_upper Unbounded (Excluded q) = upper_piece (to_be_bytes w32 (length q)) q refl refl refl refl
written_upper (Included p) (Excluded q) = upper_piece (to_be_bytes w32 (length q)) q refl refl refl refl
written_upper (Excluded p) (Excluded q) = upper_piece (to_be_bytes w32 (length q)) q refl refl refl refl

pub written_range : {A : Type 0} (Spell : Cell → A → Type 0) (default : A) (l u : Bound (List ℕ)) (v : Bounds A) → FitsBound l → SpellsBound Spell l v.0 → SpellsBound Spell u v.1
    → IsRange Spell default (range_bytes (cell_of_bound l, cell_of_bound u)) v
written_range Spell default l u v f s t = record {
  parts = Some (l, u);
  are = two_bounds (flags_of l u) (bound_bytes (cell_of_bound l) ++ bound_bytes (cell_of_bound u)) (bound_bytes (cell_of_bound u)) l u refl (not_empty l u) (written_lower l u (bound_bytes (cell_of_bound u)) f) (written_upper l u) refl;
  spelled = (s, t);
}

pub written_multirange : {A : Type 0} (Spell : Cell → A → Type 0) (cells : List Cell) (ranges : List A) → AreFramed false cells → length cells < 2 ^ 32 → Each Spell cells ranges
    → IsMultirange Spell (multirange_bytes cells) ranges
written_multirange Spell cells ranges framed few spelled = record {
  cells = cells;
  are = record {
    ranges = ranges_in (length cells) (frames cells);
    behind = [];
    begins = record { count = length cells; rest = frames cells; fits = few; is = refl; ranges_are = refl };
    many = refl;
    framed = framed;
    is = sym (append-nil (frames cells));
  };
  spelled = spelled;
}
