use Rattle.std.proofs.Common.{◌∙◌, ◌++◌, ◌-◌, [], length, take, drop, sym, ap, arith}
use Rattle.std.specs.Int.{to_be_bytes, w16}
use Rattle.std.proofs.lemmas.List.{length-map, take_rest}
use Rattle.pgw_wire.proofs.Taking.{exit}
use Rattle.pgw_meta.specs.NamedOids.{known_of}
use Rattle.pgw_meta.specs.Types.{shape, column_shapes}
use Rattle.pgw_copy.specs.State.{cells_of, bytes_of}
use Rattle.pgw_tree.specs.Appending.{HasRowFields, canonical_fields}
use Rattle.pgw_tree.proofs.Appended.{row_wrote, spelled_first}
use Rattle.pgw_tree.proofs.RowFields.{row_fields}
use Rattle.pgw_tree.proofs.next_row.fill_row.Goals as goal

pub returns-in_err-append_row-clause-err : goal.returns-in_err-append_row-clause-err
returns-in_err-append_row-clause-err c =
    let types = c.args.columns.now.types.now in
    let cells = cells_of c.args.row.now in
    let shown = c.as_bytes.ensures in
    let row : HasRowFields (column_shapes types) cells (take (length c.as_bytes.result.now - 2) (drop 2 c.as_bytes.result.now)) =
    rw (shown, take_rest (bytes_of c.args.row.now) 2) (row_fields (column_shapes types) cells (bytes_of c.args.row.now) c.requires.row (omega (arith, length-map types shape, c.len.ensures, c.if-len-columns.false))) in
    rw (exit c.from_residual.result _ c.from_residual.ensures.1) (c.in_err-append_row.ensures.err cells row)

pub returns-clause-ok : goal.returns-clause-ok
returns-clause-ok c =
    let types = c.args.columns.now.types.now in
    let ts = column_shapes types in
    let known = known_of c.args.columns.now.found.now in
    let cells = cells_of c.args.row.now in
    let row : HasRowFields ts cells (take (length c.as_bytes.result.now - 2) (drop 2 c.as_bytes.result.now)) =
    rw (c.as_bytes.ensures, take_rest (bytes_of c.args.row.now) 2) (row_fields ts cells (bytes_of c.args.row.now) c.requires.row (omega (arith, length-map types shape, c.len.ensures, c.if-len-columns.false))) in
    let a = c.in_ok-append_row.ensures.ok in
    (a.values, spelled_first known c.args.field_max ts cells _ _ _ _ row a, row_wrote known ts (length types) [] c.append_row.new.out.bytes a.values (sym (length-map types shape)) (a.wrote ∙ ap (λ l. (l ++ to_be_bytes w16 (length types)) ++ canonical_fields known ts a.values) c.clear.ensures.bytes))
