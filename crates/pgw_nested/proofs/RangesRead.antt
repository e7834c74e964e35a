-- A multirange that is read range by range.
use Rattle.std.proofs.Common.{◌≡◌, ℕ, ◌<◌, Bool, List, [], ◌∷◌, ◌++◌, Option, Some, Ok, refl, ap, subst, ◌∙◌, arith}
use Rattle.std.specs.Borrow.{Bor}
use Rattle.pgw_wire.specs.Cell.{Cell}
use Rattle.pgw_wire.specs.declared.sql_error.SqlError.{SqlError}
use Rattle.pgw_meta.specs.Reading.{IsRefusal}
use Rattle.pgw_nested.specs.Frames.{frames, IsFramed, HasNoFrame}
use Rattle.pgw_nested.specs.Array.{Elements, no_frame, cell_fails}
use Rattle.pgw_nested.specs.Pieces.{IsNext}
use Rattle.pgw_nested.specs.Multirange.{BeginsMultirange, IsMultirange, ReachesRange, fails_at_range, RefusesMultirange}
use Rattle.pgw_nested.specs.RangePieces.{GivesRange}
use Rattle.pgw_nested.proofs.ReadingOn.{SoFar, none_so_far, one_more, next_fails}
use Rattle.pgw_nested.proofs.Refusals.{no_frame_refusal}

-- The bytes begin as a multirange, of which these ranges were read, and these are left.
pub record RangesSoFar {A : Type 0} (Spell : Cell → A → Type 0) (bytes : List ℕ) (values : List A) (now : Elements) : Type 0 where
  pub all : Elements
  pub begins : BeginsMultirange bytes all
  pub so_far : SoFar Spell all now values

module _ {A : Type 0} (Spell : Cell → A → Type 0) (Refuse : Cell → SqlError → Type 0) (bytes : List ℕ) where
  pub no_range_yet : (ranges : Elements) → BeginsMultirange bytes ranges → RangesSoFar Spell bytes [] ranges
  no_range_yet ranges begins = record { all = ranges; begins = begins; so_far = none_so_far Spell ranges }

  pub range_given : (before now : Elements) (r : Option (Bor (List ℕ))) (p : Bor (List ℕ)) → r ≡ Some p → GivesRange before (Ok r) now → IsNext (Some p.now) before now
  range_given before now r p is given = subst (λ (x : Option (Bor (List ℕ))). GivesRange before (Ok x) now) is given

  pub one_range_more : (values : List A) (before now : Elements) (c : Cell) (v : A) → RangesSoFar Spell bytes values before → IsNext c before now → Spell c v → RangesSoFar Spell bytes (values ++ v ∷ []) now
  one_range_more values before now c v s n spelled = record { all = s.all; begins = s.begins; so_far = one_more Spell s.all before now values c v s.so_far n spelled }

  pub all_ranges : (values : List A) (now : Elements) → RangesSoFar Spell bytes values now → now.left ≡ 0 → IsMultirange Spell bytes values
  all_ranges values now s none = record {
    cells = s.so_far.cells;
    are = record { ranges = s.all; behind = now.rest; begins = s.begins; many = omega (arith, s.so_far.many, none); framed = s.so_far.framed; is = s.so_far.is };
    spelled = s.so_far.spelled;
  }

  pub range_reached : (values : List A) (before now : Elements) (r : Option (Bor (List ℕ))) (p : Bor (List ℕ)) → RangesSoFar Spell bytes values before → r ≡ Some p → GivesRange before (Ok r) now → ReachesRange Spell bytes
  range_reached values before now r p s is given =
      let n = range_given before now r p is given in
      record {
        ranges = s.all;
        begins = s.begins;
        cells = s.so_far.cells;
        values = values;
        cell = Some p.now;
        behind = now.rest;
        fewer = omega (arith, s.so_far.many, n.left);
        framed = (s.so_far.framed, subst (λ (b : Bool). IsFramed b (Some p.now)) s.so_far.nulls n.framed);
        is = s.so_far.is ∙ ap (λ (x : List ℕ). frames s.so_far.cells ++ x) n.is;
        spelled = s.so_far.spelled;
      }

  pub range_not_given : (values : List A) (before : Elements) (e : SqlError) → RangesSoFar Spell bytes values before → 0 < before.left → HasNoFrame before.nulls before.rest e → RefusesMultirange Spell Refuse bytes e × IsRefusal e
  range_not_given values before e s some h =
      (fails_at_range s.all s.begins (next_fails Spell (λ error. error) Refuse s.all before values e s.so_far some (no_frame e h refl)), no_frame_refusal before.nulls before.rest e h)

  pub range_refused : (values : List A) (before now : Elements) (c : Cell) (e : SqlError) → RangesSoFar Spell bytes values before → IsNext c before now → Refuse c e → RefusesMultirange Spell Refuse bytes e
  range_refused values before now c e s n h =
      fails_at_range s.all s.begins (next_fails Spell (λ error. error) Refuse s.all before values e s.so_far (omega (arith, n.left)) (cell_fails c now.rest n.is n.framed h))
