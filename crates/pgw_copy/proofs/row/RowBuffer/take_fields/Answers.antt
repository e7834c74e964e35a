use Rattle.std.proofs.Common.{rules, ◌≡◌, ◌∙◌, ◌++◌, [], List, ap, sym, refl, arith, subst, append_assoc, ℕ, ◌⊎◌}
use Rattle.std.specs.Int.{to_be_bytes, w16}
use Rattle.pgw_wire.proofs.Taking.{took_none, took_then, exit, takes_later, takes_done}
use Rattle.pgw_wire.specs.Cell.{Cell}
use Rattle.pgw_copy.specs.Format.{AreFields}
use Rattle.pgw_copy.specs.Reader.{no_memory, IsCutField, IsWholeField, AreCutFields, AreWholeFields}
use Rattle.pgw_copy.proofs.Fields.{cut_fields, fields_append, no_fields, whole_fields}
use Rattle.pgw_copy.proofs.Reading.{kept_at, takes_no_memory}
use Rattle.pgw_copy.proofs.row.RowBuffer.take_fields.Goals as goal

pub returns-in_err-begin-clause-takes : goal.returns-in_err-begin-clause-takes
returns-in_err-begin-clause-takes g c =
    takes_no_memory _ _ (exit c.from_residual.result _ c.from_residual.ensures.1) (took_none {P = λ bytes. bytes ≡ []} refl)
    (λ bytes none. no_memory refl (subst (λ (l : List ℕ). AreCutFields c.args.count l ⊎ AreWholeFields c.args.count l) (sym none) (no_fields c.args.count)))

pub returns-in_err-take_field-clause-takes : goal.returns-in_err-take_field-clause-takes
returns-in_err-take_field-clause-takes g c =
    let cells = c.loop-field.self.cells in
    takes_later _ _ (exit c.from_residual-in_err-take_field.result _ c.from_residual-in_err-take_field.ensures.1) c.loop-field.invariant.took c.in_err-take_field.ensures.takes
    (λ d x y fields. kept_at IsCutField IsWholeField (AreCutFields c.args.count) (AreWholeFields c.args.count) d y (x ++ y)
    (cut_fields c.args.count cells x y (omega (arith, c.loop-field.invariant.many)) fields.0)
    (λ field. whole_fields c.args.count cells field.0 x y (omega (arith, c.loop-field.invariant.many)) fields.0 field.1))

pub loop-field-preserved : goal.loop-field-preserved
loop-field-preserved g c = record {
  took = took_then c.loop-field.invariant.took (c.in_ok-take_field.ensures.takes.ok _ refl) (λ x y fields field. (
    subst (λ (cells : List Cell). AreFields cells (x ++ y)) (sym field.2) (fields_append c.loop-field.self.cells field.0 x y fields.0 field.1),
    field.3 ∙ ap (λ l. l ++ y) fields.1 ∙ append_assoc (to_be_bytes w16 c.args.count) x y,
  ));
  many = search rules;
}

pub returns-clause-takes : goal.returns-clause-takes
returns-clause-takes g c = takes_done _ _ _ c.loop-field.invariant.took
