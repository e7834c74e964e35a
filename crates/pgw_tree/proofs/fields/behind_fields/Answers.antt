use Rattle.std.proofs.Common.{◌∷◌, [], ◌++◌, refl, sym, ap, ◌∙◌, arith, subst, append_assoc, length-append}
use Rattle.pgw_wire.specs.Cell.{cell_of}
use Rattle.pgw_copy.specs.Reader.{AreCutFields}
use Rattle.pgw_copy.proofs.Fields.{cut_fields, fields_append}
use Rattle.pgw_tree.proofs.fields.behind_fields.Goals as goal

pub loop-field-init : goal.loop-field-init
loop-field-init c = record { cells = []; fields = []; many = refl; each = refl; is = refl }

pub returns-in_err-_cell-clause-none : goal.returns-in_err-_cell-clause-none
returns-in_err-_cell-clause-none c =
    let inv = c.loop-field.invariant in
    λ none. subst (AreCutFields c.args.count) (sym inv.is) (cut_fields c.args.count inv.cells inv.fields c.loop-field.rest.now (omega (arith, inv.many, c.loop-field-test.true)) inv.each (c.in_err-_cell.ensures.none refl))

pub loop-field-preserved : goal.loop-field-preserved
loop-field-preserved c =
    let inv = c.loop-field.invariant in
    let f = c.in_ok-_cell.ensures.some in
    let cell = cell_of c.in_ok-_cell._cell in
    let behind = c.in_ok-_cell.behind.now in
    record {
      cells = inv.cells ++ (cell ∷ []);
      fields = inv.fields ++ f.0;
      many = omega (arith, inv.many, length-append inv.cells (cell ∷ []));
      each = fields_append inv.cells cell inv.fields f.0 inv.each f.1;
      is = inv.is ∙ ap (λ l. inv.fields ++ l) f.2 ∙ sym (append_assoc inv.fields f.0 behind);
    }
