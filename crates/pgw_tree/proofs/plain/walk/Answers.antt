use Rattle.std.proofs.Common.{◌++◌, ◌∷◌, [], length, refl, sym, ap, ◌∙◌, arith, append_assoc, length-append}
use Rattle.pgw_meta.specs.Types.{column_shapes}
use Rattle.pgw_tree.proofs.PlainRows.{rows_one_more}
use Rattle.pgw_meta.specs.NamedOids.{known_of}
use Rattle.pgw_tree.proofs.plain.walk.Goals as goal

pub loop-rows-init : goal.loop-rows-init
loop-rows-init c = record { limit = omega arith; within = omega arith; front = []; values = []; many = refl; plain = refl; is = refl }

pub loop-rows-preserved : goal.loop-rows-preserved
loop-rows-preserved c =
    let inv = c.loop-rows.invariant in
    let r = c.in-Some.ensures.some in
    let behind = c.in-Some.behind.now in
    record {
      limit = omega (arith, c.loop-rows-test.true);
      within = omega (arith, inv.within, ap length r.3, length-append r.0 behind);
      front = inv.front ++ r.0;
      values = inv.values ++ (r.1 ∷ []);
      many = omega (arith, inv.many, length-append inv.values (r.1 ∷ []));
      plain = rows_one_more (known_of c.args.columns.now.found.now) c.args.field_max (column_shapes c.args.columns.now.types.now) inv.front r.0 inv.values r.1 inv.plain r.2;
      is = inv.is ∙ ap (λ l. inv.front ++ l) r.3 ∙ sym (append_assoc inv.front r.0 behind);
    }
