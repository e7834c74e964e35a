use Rattle.std.proofs.Common.{◌∙◌, [], ◌∷◌, ◌++◌, None, Some, refl, ap, arith, inr, append_assoc}
use Rattle.pgw_wire.proofs.Taking.{took_weaker, exit, takes_first, takes_then, takes_done}
use Rattle.pgw_copy.specs.Places.{cells_at}
use Rattle.pgw_copy.specs.Reader.{no_memory, IsShort, HasSize, IsCutField, IsWholeField}
use Rattle.pgw_copy.proofs.Fields.{field_of_piece, short_field, short_piece}
use Rattle.pgw_copy.proofs.Places.{cells_grown, null_kept}
use Rattle.pgw_copy.proofs.Reading.{kept_at, takes_no_memory}
use Rattle.pgw_copy.proofs.row.RowBuffer.take_field.Goals as goal

pub returns-in_err-length-clause-takes : goal.returns-in_err-length-clause-takes
returns-in_err-length-clause-takes g c =
    takes_first _ _ (exit c.from_residual.result _ c.from_residual.ensures.1) c.in_err-length.ensures.takes
    (λ d x. kept_at (IsShort 4) (λ _. ⊥) IsCutField IsWholeField d x x (short_field x) (λ h. absurd h))

pub returns-in_err-push-clause-takes : goal.returns-in_err-push-clause-takes
returns-in_err-push-clause-takes g c =
    takes_no_memory _ _ (exit c.from_residual-in_err-push.result _ c.from_residual-in_err-push.ensures.1) (c.in_ok-length.ensures.takes.ok _ refl)
    (λ x is. no_memory refl (inr (None, (c.in_ok-length.length, omega arith, is.0, is.1))))

pub returns-then-length-lt-NEGATIVE_LENGTH-clause-takes : goal.returns-then-length-lt-NEGATIVE_LENGTH-clause-takes
returns-then-length-lt-NEGATIVE_LENGTH-clause-takes g c =
    let length = c.in_ok-length.length in
    takes_then _ _ (c.in_ok-length.ensures.takes.ok _ refl) c.take_piece.ensures.takes
    (λ _ x y is h. (
      Some y,
      field_of_piece length x y (omega arith) is.1 h.0,
      h.1 ∙ ap (λ cs. cs ++ (Some y ∷ [])) (cells_grown c.self.inside.places.items c.self.inside.bytes x c.take_length.new.self c.self.invariant is.2)
          ∙ ap (λ r. r.cells ++ (Some y ∷ [])) c.self.view_is,
      h.2 ∙ ap (λ l. l ++ y) is.2 ∙ append_assoc c.self.inside.bytes x y ∙ ap (λ r. r.bytes ++ (x ++ y)) c.self.view_is,
    ))
    (λ d x y is. kept_at (IsShort length) (HasSize length) IsCutField IsWholeField d y (x ++ y) (short_piece length x y (omega arith) is.1) (λ long. inr (Some y, field_of_piece length x y (omega arith) is.1 long)))

pub returns-in_ok-push-clause-takes : goal.returns-in_ok-push-clause-takes
returns-in_ok-push-clause-takes g c =
    takes_done _ _ _ (took_weaker (c.in_ok-length.ensures.takes.ok _ refl) (λ x is. (
      None,
      (c.in_ok-length.length, omega arith, is.0, is.1),
      ap (cells_at c.take_length.new.self) c.in_ok-push.ensures.items
          ∙ null_kept c.self.inside.places.items c.self.inside.bytes x c.take_length.new.self c.self.invariant is.2
          ∙ ap (λ r. r.cells ++ (None ∷ [])) c.self.view_is,
      is.2 ∙ ap (λ r. r.bytes ++ x) c.self.view_is,
    )))
