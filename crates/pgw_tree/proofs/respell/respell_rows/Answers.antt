use Rattle.std.proofs.Common.{◌≡◌, ◌++◌, length, sym, ap, ◌∙◌, arith, append_assoc}
use Rattle.std.proofs.lemmas.List.{length-map}
use Rattle.pgw_meta.specs.Types.{shape, column_shapes}
use Rattle.pgw_tree.proofs.Respelled.{respelled_row_more}
use Rattle.pgw_meta.specs.NamedOids.{known_of}
use Rattle.pgw_tree.proofs.respell.respell_rows.Goals as goal

pub loop-rows-preserved : goal.loop-rows-preserved
loop-rows-preserved c =
    let ts = column_shapes c.args.columns.now.types.now in
    let inv = c.loop-rows.invariant in
    let r = c.in-Some.ensures.some in
    let columns : length ts ≡ length c.args.columns.now.types.now = length-map c.args.columns.now.types.now shape in
    record {
      limit = omega (arith, c.loop-rows-test.true);
      front = inv.front ++ r.row;
      is = inv.is ∙ ap (λ l. inv.front ++ l) r.is ∙ sym (append_assoc inv.front r.row c.in-Some.behind.now);
      respelled = respelled_row_more (known_of c.args.columns.now.found.now) c.args.field_max ts c.loop-rows.rows c.loop-rows.out.bytes inv.front r.row c.respell_row.new.out.bytes r.values (omega (arith, c.requires.max)) (omega (arith, columns, c.args.columns.now.few)) inv.respelled r.is_row r.appended;
    }
