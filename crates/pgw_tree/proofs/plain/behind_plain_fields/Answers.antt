use Rattle.std.proofs.Common.{◌≡◌, ◌<◌, ◌++◌, ◌∷◌, [], List, length, take, get_or, sym, ap, ◌∙◌, subst, arith, append_assoc}
use Rattle.std.proofs.lemmas.List.{length-map, take_all, take_more}
use Rattle.pgw_meta.specs.Shape.{Shape, scalar, int4}
use Rattle.pgw_meta.specs.Types.{column_shapes}
use Rattle.pgw_cell.specs.Plain.{plain_cell}
use Rattle.pgw_tree.specs.Plain.{IsPlainFields}
use Rattle.pgw_tree.proofs.Prefixes.{plain_at}
use Rattle.pgw_tree.proofs.PlainRows.{plain_more}
use Rattle.pgw_meta.specs.NamedOids.{known_of}
use Rattle.pgw_tree.proofs.plain.behind_plain_fields.Goals as goal

pub loop-cell-preserved : goal.loop-cell-preserved
loop-cell-preserved c =
    let ts = column_shapes c.args.columns.now.types.now in
    let i = c.loop-cell.cell-index in
    let inv = c.loop-cell.invariant in
    let t = get_or ts i (scalar int4) in
    let within : i < length ts = omega (arith, c.loop-cell-test.true, ap length c.args.columns.now.each ∙ length-map ts (plain_cell (known_of c.args.columns.now.found.now))) in
    let f = c.in_ok-rest.ensures (known_of c.args.columns.now.found.now) t (plain_at (known_of c.args.columns.now.found.now) c.args.columns.now.plain.now ts i _ (scalar int4) c.args.columns.now.each within) in
    let rest = c.in_ok-rest.rest.now in
    record {
      values = inv.values ++ (f.1.value ∷ []);
      fields = inv.fields ++ f.0;
      plain = subst (λ (us : List Shape). IsPlainFields (known_of c.args.columns.now.found.now) c.args.field_max us (inv.values ++ (f.1.value ∷ [])) (inv.fields ++ f.0)) (sym (take_more ts i (scalar int4) within))
          (plain_more (known_of c.args.columns.now.found.now) c.args.field_max (take i ts) inv.values inv.fields t f.0 (omega (arith, c.requires.max)) inv.plain f.1);
      is = inv.is ∙ ap (λ r. inv.fields ++ r) f.2 ∙ sym (append_assoc inv.fields f.0 rest);
    }

pub returns : goal.returns
returns c =
    let ts = column_shapes c.args.columns.now.types.now in
    let inv = c.loop-cell.invariant in
    let known = ap length c.args.columns.now.each ∙ length-map ts (plain_cell (known_of c.args.columns.now.found.now)) in
    let all : take c.loop-cell.cell-index ts ≡ ts = take_all c.loop-cell.cell-index ts (omega (arith, c.loop-cell-test.false, known)) in
    record { some = (inv.fields, inv.values, subst (λ (us : List Shape). IsPlainFields (known_of c.args.columns.now.found.now) c.args.field_max us inv.values inv.fields) all inv.plain, inv.is) }
