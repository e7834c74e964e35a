use Rattle.std.proofs.Common.{◌∙◌, List, [], ◌∷◌, ◌++◌, length, Some, refl, sym, ap, arith, subst, inr}
use Rattle.pgw_wire.proofs.Taking.{took_weaker, exit, takes_first, takes_done}
use Rattle.pgw_copy.specs.declared.row.Place.{Place}
use Rattle.pgw_copy.specs.declared.row.Place.TheVariants.{Piece}
use Rattle.pgw_copy.specs.Places.{cells_at, LiesIn, AllLieIn}
use Rattle.pgw_copy.specs.Reader.{no_memory, IsShort, HasSize}
use Rattle.pgw_copy.proofs.Places.{all_lie_later, all_lie_append, piece_kept}
use Rattle.pgw_copy.proofs.Reading.{kept_at, takes_no_memory}
use Rattle.pgw_copy.proofs.row.RowBuffer.take_piece.Goals as goal

pub returns-in_err-take-clause-takes : goal.returns-in_err-take-clause-takes
returns-in_err-take-clause-takes g c =
    takes_first _ _ (exit c.from_residual.result _ c.from_residual.ensures.1) c.in_err-take.ensures.takes
    (λ d x. kept_at (IsShort c.args.len) (λ _. ⊥) (IsShort c.args.len) (HasSize c.args.len) d x x (λ short. short) (λ h. absurd h))

pub invariant_of-self-in_err-push : goal.invariant_of-self-in_err-push
invariant_of-self-in_err-push g c =
    subst (λ (ps : List Place). AllLieIn (length c.take.new.self) ps) (sym c.in_err-push.ensures.items) (all_lie_later _ _ _ c.self.invariant c.take.ensures.kept)

pub returns-in_err-push-clause-takes : goal.returns-in_err-push-clause-takes
returns-in_err-push-clause-takes g c =
    takes_no_memory _ _ (exit c.from_residual-in_err-push.result _ c.from_residual-in_err-push.ensures.1) (c.in_ok-take.ensures.takes.ok _ refl) (λ _ h. no_memory refl (inr h.0))

pub invariant_of-self-2 : goal.invariant_of-self-2
invariant_of-self-2 g c =
    let last : LiesIn (length c.take.new.self) (Piece c.len-start.result c.len-end.result) = (omega (arith, c.len-start.ensures, c.len-end.ensures, c.take.ensures.kept), omega (arith, c.len-end.ensures)) in
    subst (λ (ps : List Place). AllLieIn (length c.take.new.self) ps) (sym c.in_ok-push.ensures.items) (all_lie_append _ (Piece c.len-start.result c.len-end.result) _ (all_lie_later _ _ _ c.self.invariant c.take.ensures.kept) last)

pub returns-clause-takes : goal.returns-clause-takes
returns-clause-takes g c =
    takes_done _ _ _ (took_weaker (c.in_ok-take.ensures.takes.ok _ refl) (λ x h. (
      h.0,
      ap (cells_at c.take.new.self) c.in_ok-push.ensures.items
          ∙ piece_kept _ _ x _ _ _ c.self.invariant h.1 c.len-start.ensures c.len-end.ensures
          ∙ ap (λ r. r.cells ++ (Some x ∷ [])) c.self.view_is,
      h.1 ∙ ap (λ r. r.bytes ++ x) c.self.view_is,
    )))
