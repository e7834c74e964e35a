use Rattle.std.proofs.Common.{Err, refl, ap, arith}
use Rattle.std.proofs.lemmas.List.{length-map}
use Rattle.pgw_wire.specs.Cell.{cell_of}
use Rattle.pgw_meta.specs.NamedOids.{known_of}
use Rattle.pgw_meta.specs.Types.{shape, column_shapes}
use Rattle.pgw_tree.specs.Sending.{has_break, has_long}
use Rattle.pgw_tree.proofs.Prefixes.{type_at, built_at}
use Rattle.pgw_tree.proofs.Appended.{appends_none, appends_more, appends_all, next_not_cut, column_at}
use Rattle.pgw_tree.proofs.append.append_fields.Goals as goal

pub loop-column-init : goal.loop-column-init
loop-column-init c = appends_none (known_of c.args.columns.now.found.now) c.args.field_max (column_shapes c.args.columns.now.types.now) c.args.fields.now c.args.out.now.bytes

pub returns-in_default-clause-err : goal.returns-in_default-clause-err
returns-in_default-clause-err c = λ cells row.
    let types = c.args.columns.now.types.now in
    let i = c.loop-column.column in
    let at = type_at types i c.t-item.result c.loop-column-test.true c.t-item.is in
    absurd (next_not_cut (known_of c.args.columns.now.found.now) c.args.field_max (column_shapes types) i cells c.args.fields.now c.loop-column.rest.now c.args.out.now.bytes c.loop-column.out.bytes (shape c.t-item.result) at row c.loop-column.invariant (c.in_default.ensures.none refl))

pub append_cell-requires-clause-built : goal.append_cell-requires-clause-built
append_cell-requires-clause-built c =
    let types = c.args.columns.now.types.now in
    built_at (column_shapes types) c.loop-column.column _ (type_at types c.loop-column.column c.t-item.result c.loop-column-test.true c.t-item.is) c.args.columns.now.built

pub returns-in-Err-Break-clause-err : goal.returns-in-Err-Break-clause-err
returns-in-Err-Break-clause-err c = λ cells row.
    let types = c.args.columns.now.types.now in
    let i = c.loop-column.column in
    let t = shape c.t-item.result in
    let f = c.in-Some.ensures.some in
    let at = type_at types i c.t-item.result c.loop-column-test.true c.t-item.is in
    has_break i c.in-Err-Break.kind (let is = c.in-Err-Break.kind-is in cc) (record {
      enough = row.enough;
      t = t;
      cell = cell_of c.in-Some.cell;
      placed = column_at (known_of c.args.columns.now.found.now) c.args.field_max (column_shapes types) i cells c.args.fields.now c.loop-column.rest.now c.args.out.now.bytes c.loop-column.out.bytes t (cell_of c.in-Some.cell) f.0 c.in-Some.behind.now at row c.loop-column.invariant f.1 f.2;
      breaks = c.in-Err-Break.ensures.broken c.in-Err-Break.kind (ap Err c.in-Err-Break.field-0-is);
    })

pub returns-in-Err-TooLong-clause-err : goal.returns-in-Err-TooLong-clause-err
returns-in-Err-TooLong-clause-err c = λ cells row.
    let types = c.args.columns.now.types.now in
    let i = c.loop-column.column in
    let t = shape c.t-item.result in
    let f = c.in-Some.ensures.some in
    let at = type_at types i c.t-item.result c.loop-column-test.true c.t-item.is in
    let long = c.in-Err-TooLong.ensures.long (ap Err c.in-Err-TooLong.field-0-is) in
    has_long i refl (record {
      enough = row.enough;
      t = t;
      cell = cell_of c.in-Some.cell;
      value = long.0;
      placed = column_at (known_of c.args.columns.now.found.now) c.args.field_max (column_shapes types) i cells c.args.fields.now c.loop-column.rest.now c.args.out.now.bytes c.loop-column.out.bytes t (cell_of c.in-Some.cell) f.0 c.in-Some.behind.now at row c.loop-column.invariant f.1 f.2;
      spells = long.1;
      long = long.2;
    })

pub loop-column-preserved : goal.loop-column-preserved
loop-column-preserved c =
    let types = c.args.columns.now.types.now in
    let i = c.loop-column.column in
    let f = c.in-Some.ensures.some in
    let ok = c.in-Ok.ensures.ok in
    let at = type_at types i c.t-item.result c.loop-column-test.true c.t-item.is in
    appends_more (known_of c.args.columns.now.found.now) c.args.field_max (column_shapes types) i c.args.fields.now c.loop-column.rest.now c.args.out.now.bytes c.loop-column.out.bytes c.append_cell.new.out.bytes (shape c.t-item.result) (cell_of c.in-Some.cell) f.0 c.in-Some.behind.now ok.0
    at c.loop-column.invariant f.1 f.2 ok.1 ok.2 ok.3

pub returns-clause-ok : goal.returns-clause-ok
returns-clause-ok c =
    let types = c.args.columns.now.types.now in
    appends_all (known_of c.args.columns.now.found.now) c.args.field_max (column_shapes types) c.loop-column.column c.args.fields.now c.loop-column.rest.now c.args.out.now.bytes c.loop-column.out.bytes (omega (arith, c.loop-column-test.false, length-map types shape)) c.loop-column.invariant
