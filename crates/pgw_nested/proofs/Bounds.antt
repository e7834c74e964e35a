-- A range that is read bound by bound.
use Rattle.std.proofs.Common.{◌≡◌, ℕ, ◌<◌, Bool, true, false, cond, List, ◌∷◌, length, Option, None, Some, Ok, Err, refl, sym, ap, subst, ◌∙◌}
use Rattle.std.specs.declared.ops.Bound.{Bound}
use Rattle.pgw_wire.specs.Cell.{Cell}
use Rattle.pgw_wire.specs.declared.sql_error.SqlError.{SqlError}
use Rattle.pgw_wire.specs.declared.sql_error.SqlError.TheVariants.{ShortBuffer}
use Rattle.pgw_meta.specs.Reading.{IsRefusal}
use Rattle.pgw_nested.specs.Frames.{HasNoFrame, no_length, negative_length, past_the_end}
use Rattle.pgw_nested.specs.Flags.{has, empty, lower_included, upper_included, upper_infinite}
use Rattle.pgw_nested.specs.Range.{bound_at, HasLower, no_lower, lower_piece, HasUpper, no_upper, upper_piece, no_bounds, two_bounds, SpellsBound, RefusesBound, no_value, IsRange, as_range, no_lower_piece, lower_fails, FailsLower, FailsUpper, no_upper_piece, upper_fails, fails_at_lower, fails_at_upper, RefusesRange}
use Rattle.pgw_nested.specs.RangePieces.{bound_of, Coming, first_under, BeginsRange, IsNextBound, HasNoBound, GivesBound}
use Rattle.pgw_nested.specs.declared.range_pieces.BoundPiece.{BoundPiece}
use Rattle.pgw_nested.specs.declared.range_pieces.Next.{Next}
use Rattle.pgw_nested.specs.declared.range_pieces.Next.TheVariants.{Lower, Upper, Nothing}

refusal_is : (e f : SqlError) → e ≡ f → IsRefusal f → IsRefusal e
refusal_is e f is h = subst (λ (x : SqlError). IsRefusal x) (sym is) h

-- What a range itself is refused with is no want of memory.
frame_refusal : (bytes : List ℕ) (error : SqlError) → HasNoFrame false bytes error → IsRefusal (as_range error)
frame_refusal bytes error (no_length _ is) = refusal_is (as_range error) _ (ap as_range is) tt
frame_refusal bytes error (negative_length n rest _ _ _ _ is) = refusal_is (as_range error) _ (ap as_range is) tt
frame_refusal bytes error (past_the_end n rest _ _ _ is) = refusal_is (as_range error) _ (ap as_range is) tt

-- which bound comes first
first_nothing : (flags : ℕ) → first_under flags ≡ Nothing → has flags empty ≡ true
first_nothing flags e = cases (has flags empty) refl e
  where
    cases : (b : Bool) → has flags empty ≡ b → cond {A = Next} b Nothing Lower ≡ Nothing → has flags empty ≡ true
    cases true b h = b
    cases false b h = absurd cc

first_lower : (flags : ℕ) → first_under flags ≡ Lower → has flags empty ≡ false
first_lower flags e = cases (has flags empty) refl e
  where
    cases : (b : Bool) → has flags empty ≡ b → cond {A = Next} b Nothing Lower ≡ Lower → has flags empty ≡ false
    cases true b h = absurd cc
    cases false b h = b

first_not_upper : (flags : ℕ) → first_under flags ≡ Upper → ⊥
first_not_upper flags e = cases (has flags empty) e
  where
    cases : (b : Bool) → cond {A = Next} b Nothing Lower ≡ Upper → ⊥
    cases true h = absurd cc
    cases false h = absurd cc

-- The range has bounds, and the lower is this one. Behind it come these bytes.
pub record LowerGiven (bytes : List ℕ) (lower : Bound (List ℕ)) (flags : ℕ) (behind : List ℕ) : Type 0 where
  pub rest : List ℕ
  pub is : bytes ≡ flags ∷ rest
  pub some : has flags empty ≡ false
  pub lower_is : HasLower flags rest lower behind

pub lower_given : (bytes : List ℕ) (before now : Coming) (r : Option BoundPiece) (b : BoundPiece) → r ≡ Some b → BeginsRange bytes before → GivesBound before (Ok r) now → LowerGiven bytes (bound_of b) now.flags now.rest
lower_given bytes before now r b is begins given =
    cases before.next begins.first (subst (λ (x : Option BoundPiece). GivesBound before (Ok x) now) is given)
  where
    cases : (n : Next) → n ≡ first_under before.flags → IsNextBound n (bound_of b) before now → LowerGiven bytes (bound_of b) now.flags now.rest
    cases Lower first g = record {
      rest = before.rest;
      is = begins.is ∙ ap (λ (x : ℕ). x ∷ before.rest) (sym g.1);
      some = subst (λ (x : ℕ). has x empty ≡ false) (sym g.1) (first_lower before.flags (sym first));
      lower_is = subst (λ (x : ℕ). HasLower x before.rest (bound_of b) now.rest) (sym g.1) g.0;
    }
    cases Upper first g = absurd (first_not_upper before.flags (sym first))
    cases Nothing first g = absurd g

module _ {A : Type 0} (Spell : Cell → A → Type 0) (Refuse : Cell → SqlError → Type 0) where
  pub none_given : (default : A) (bytes : List ℕ) (before now : Coming) (r : Option BoundPiece) → r ≡ None → BeginsRange bytes before → GivesBound before (Ok r) now → IsRange Spell default bytes (no_value default)
  none_given default bytes before now r is begins given =
      let g : before.next ≡ Nothing = (subst (λ (x : Option BoundPiece). GivesBound before (Ok x) now) is given).0 in
      record { parts = None; are = no_bounds before.flags before.rest begins.is (first_nothing before.flags (sym begins.first ∙ g)) refl; spelled = refl }

  pub lower_not_given : (bytes : List ℕ) (before now : Coming) (e : SqlError) → BeginsRange bytes before → GivesBound before (Err e) now → RefusesRange Spell Refuse bytes e × IsRefusal e
  lower_not_given bytes before now e begins given = cases before.next begins.first given.0
    where
      cases : (n : Next) → n ≡ first_under before.flags → HasNoBound n before e → RefusesRange Spell Refuse bytes e × IsRefusal e
      cases Lower first g =
          (fails_at_lower before.flags before.rest begins.is (first_lower before.flags (sym first)) (no_lower_piece g.0 g.1 g.2 g.3), refusal_is e (as_range g.0) g.3 (frame_refusal before.rest g.0 g.2))
      cases Upper first g = absurd (first_not_upper before.flags (sym first))
      cases Nothing first g = absurd g

  refuses_at : (included : Bool) (p : List ℕ) (e : SqlError) → RefusesBound Refuse (bound_at included p) e → Refuse (Some p) e
  refuses_at true p e h = h
  refuses_at false p e h = h

  pub lower_refused : (bytes : List ℕ) (lower : Bound (List ℕ)) (flags : ℕ) (behind : List ℕ) (e : SqlError) → LowerGiven bytes lower flags behind → RefusesBound Refuse lower e → RefusesRange Spell Refuse bytes e
  lower_refused bytes lower flags behind e l h = fails_at_lower flags l.rest l.is l.some (cases l.lower_is)
    where
      cases : HasLower flags l.rest lower behind → FailsLower (λ error. error) Refuse flags l.rest e
      cases (no_lower infinite is all) = absurd (subst (λ (x : Bound (List ℕ)). RefusesBound Refuse x e) is h)
      cases (lower_piece p infinite few whole is) = lower_fails p behind infinite few whole (refuses_at (has flags lower_included) p e (subst (λ (x : Bound (List ℕ)). RefusesBound Refuse x e) is h))

  pub upper_not_given : (bytes : List ℕ) (lower : Bound (List ℕ)) (flags : ℕ) (behind : List ℕ) (v : Bound A) (e : SqlError) → LowerGiven bytes lower flags behind → SpellsBound Spell lower v
      → (has flags upper_infinite ≡ false) × (length behind < 4) × (e ≡ ShortBuffer) → RefusesRange Spell Refuse bytes e × IsRefusal e
  upper_not_given bytes lower flags behind v e l s h =
      (fails_at_upper flags l.rest behind lower v l.is l.some l.lower_is s (no_upper_piece h.0 h.1 h.2), refusal_is e ShortBuffer h.2 tt)

  pub upper_refused : (bytes : List ℕ) (lower : Bound (List ℕ)) (flags : ℕ) (behind : List ℕ) (v : Bound A) (upper : Bound (List ℕ)) (e : SqlError) → LowerGiven bytes lower flags behind → SpellsBound Spell lower v
      → HasUpper flags behind upper → RefusesBound Refuse upper e → RefusesRange Spell Refuse bytes e
  upper_refused bytes lower flags behind v upper e l s u h = fails_at_upper flags l.rest behind lower v l.is l.some l.lower_is s (cases u)
    where
      cases : HasUpper flags behind upper → FailsUpper (λ error. error) Refuse flags behind e
      cases (no_upper infinite is) = absurd (subst (λ (x : Bound (List ℕ)). RefusesBound Refuse x e) is h)
      cases (upper_piece word p infinite four whole is) = upper_fails word p infinite four whole (refuses_at (has flags upper_included) p e (subst (λ (x : Bound (List ℕ)). RefusesBound Refuse x e) is h))

  pub both_read : (default : A) (bytes : List ℕ) (lower : Bound (List ℕ)) (flags : ℕ) (behind : List ℕ) (upper : Bound (List ℕ)) (v w : Bound A) → LowerGiven bytes lower flags behind → SpellsBound Spell lower v
      → HasUpper flags behind upper → SpellsBound Spell upper w → IsRange Spell default bytes (v, w)
  both_read default bytes lower flags behind upper v w l s u t =
      record { parts = Some (lower, upper); are = two_bounds flags l.rest behind lower upper l.is l.some l.lower_is u refl; spelled = (s, t) }
