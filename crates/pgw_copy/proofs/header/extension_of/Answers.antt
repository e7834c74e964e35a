use Rattle.std.proofs.Common.{rules, ◌≡◌, ◌∙◌, ℕ, Bool, true, false, List, refl, sym, arith, inl, inr}
use mathlib.Core.Bool.{not}
use lib.Pointwise.{pointwise}
use lib.Dec.{eqb}
use Rattle.std.proofs.lemmas.Bool.Decides.{Decides-eqb}
use Rattle.std.proofs.lemmas.Slice.Eq.{slice_eq-Decides}
use Rattle.pgw_copy.specs.Reader.{bad_header, bad_flags}
use Rattle.pgw_copy.proofs.Headers.{IsApart, fixed_header, other_magic, negative_extension}
use Rattle.pgw_copy.proofs.header.extension_of.Goals as goal
use Rattle.pgw_copy.proofs.header.extension_of.Goals.{After-ne}

apart : (c : After-ne) → IsApart c.args.fixed.now c.unwrap.result.0.now c.unwrap-flags.result.0 c.unwrap-extension.result.0
apart c =
    let piece = rw c.unwrap.ensures at c.take_piece.ensures.piece in
    record {
      behind = c.unwrap.result.1.now;
      numbers = c.unwrap-flags.result.1.now;
      rest = c.unwrap-extension.result.1.now;
      long = piece.1;
      first = piece.0;
      second = rw c.unwrap-flags.ensures at c.take_u32.ensures.number;
      third = rw c.unwrap-extension.ensures at c.take_u32-2.ensures.number;
      flags_fit = rw c.unwrap-flags.ensures at c.take_u32.ensures.range;
      extension_fits = rw c.unwrap-extension.ensures at c.take_u32-2.ensures.range;
    }

is_true : (b : Bool) → false ≡ not b → b ≡ true
is_true true e = refl
is_true false e = absurd (cc)

is_not_true : (b : Bool) → true ≡ not b → b ≡ true → ⊥
is_not_true true e is = absurd (cc)
is_not_true false e is = absurd (cc)

same_magic : (xs ys : List ℕ) → false ≡ not (pointwise eqb xs ys) → xs ≡ ys
same_magic xs ys e = (slice_eq-Decides Decides-eqb xs ys (pointwise eqb xs ys) refl).0 (is_true _ e)

other : (xs ys : List ℕ) → true ≡ not (pointwise eqb xs ys) → xs ≡ ys → ⊥
other xs ys e same = is_not_true _ e ((slice_eq-Decides Decides-eqb xs ys (pointwise eqb xs ys) refl).1 same)

pub returns-then-ne-clause-err : goal.returns-then-ne-clause-err
returns-then-ne-clause-err c =
    bad_header refl (search rules, inl (other_magic _ _ _ _ (apart (goal.at.returns-then-ne-clause-err c).After-ne) (λ same. other _ _ c.if-ne.ensures (same ∙ sym c.as_slice.ensures))))

pub returns-then-extension-ge-NEGATIVE_LENGTH-clause-err : goal.returns-then-extension-ge-NEGATIVE_LENGTH-clause-err
returns-then-extension-ge-NEGATIVE_LENGTH-clause-err c =
    bad_header refl (search rules, inr (negative_extension _ _ _ _ (search rules) (apart (goal.at.returns-then-extension-ge-NEGATIVE_LENGTH-clause-err c).After-ne) (same_magic _ _ c.if-ne.ensures ∙ c.as_slice.ensures) (omega arith) (omega arith)))

pub returns-else-extension-ge-NEGATIVE_LENGTH-clause-ok : goal.returns-else-extension-ge-NEGATIVE_LENGTH-clause-ok
returns-else-extension-ge-NEGATIVE_LENGTH-clause-ok c =
    fixed_header _ _ _ _ (search rules) (apart (goal.at.returns-else-extension-ge-NEGATIVE_LENGTH-clause-ok c).After-ne) (same_magic _ _ c.if-ne.ensures ∙ c.as_slice.ensures) (omega arith) (omega arith)

pub returns-then-flags-ge-HIGH_HALF-clause-err : goal.returns-then-flags-ge-HIGH_HALF-clause-err
returns-then-flags-ge-HIGH_HALF-clause-err c = bad_flags _ refl (search rules)
