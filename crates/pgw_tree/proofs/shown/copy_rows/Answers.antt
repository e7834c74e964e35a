use Rattle.std.proofs.Common.{length, ap, arith}
use Rattle.std.proofs.lemmas.List.{take_rest, length-drop}
use Rattle.pgw_meta.specs.Types.{column_shapes}
use Rattle.pgw_tree.proofs.Runs.{run_behind, broken_behind}
use Rattle.pgw_meta.specs.NamedOids.{known_of}
use Rattle.pgw_tree.proofs.shown.copy_rows.Goals as goal

pub loop-rows-preserved : goal.loop-rows-preserved
loop-rows-preserved g c =
    let inv = c.loop-rows.invariant in
    let bytes = c.args.bytes.now in
    let rest = take_rest bytes c.loop-rows.len in
    let copied = rw c.in-Some-Whole.field-0-is at c.in-Some-Whole.ensures.copied in
    record {
      within = omega (arith, inv.within, copied.0, ap length rest, length-drop c.loop-rows.len bytes);
      few = copied.1.few;
      run = run_behind (known_of c.args.columns.now.found.now) c.args.limits (column_shapes c.args.columns.now.types.now) c.args.before c.loop-rows.rows c.in-Some-Whole.now bytes _ c.loop-rows.len c.in-Some-Whole.more rest inv.run copied.1;
    }

pub returns-in-Some-Broken : goal.returns-in-Some-Broken
returns-in-Some-Broken g c =
    let inv = c.loop-rows.invariant in
    let bytes = c.args.bytes.now in
    let rest = take_rest bytes c.loop-rows.len in
    let copied = rw c.in-Some-Broken.field-0-is at c.in-Some-Broken.ensures.copied in
    record {
      copied = (
        omega (arith, inv.within, copied.0, ap length rest, length-drop c.loop-rows.len bytes),
        broken_behind (known_of c.args.columns.now.found.now) c.args.limits (column_shapes c.args.columns.now.types.now) c.args.before c.loop-rows.rows bytes _ c.loop-rows.len c.in-Some-Broken.last rest inv.run copied.1,
        omega (arith, inv.run.written.goes_on.0, copied.2),
      );
    }
