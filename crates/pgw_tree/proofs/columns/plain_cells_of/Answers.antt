use Rattle.std.proofs.Common.{◌∷◌, ◌++◌, [], take, sym, ap, ◌∙◌, arith}
use Rattle.std.proofs.lemmas.List.{length-map, map-append, take_all}
use Rattle.pgw_meta.specs.NamedOids.{known_of}
use Rattle.pgw_meta.specs.Types.{shape, column_shapes}
use Rattle.pgw_cell.specs.Plain.{plain_cell}
use Rattle.pgw_tree.specs.ColumnTypes.{plain_cells}
use Rattle.pgw_tree.proofs.Prefixes.{type_at}
use Rattle.pgw_tree.proofs.columns.plain_cells_of.Goals as goal

pub loop-place-preserved : goal.loop-place-preserved
loop-place-preserved c =
    let ts = column_shapes c.args.types.now in
    let i = c.loop-place._place in
    let t = shape c.index-types-place.result in
    let at = type_at c.args.types.now i c.index-types-place.result c.loop-place-test.true c.index-types-place.is in
    c.in_ok-push.ensures.items ∙ ap (λ l. l ++ (c.of.result ∷ [])) c.loop-place.invariant ∙ ap (λ cell. plain_cells (known_of c.args.found.now) (take i ts) ++ (cell ∷ [])) c.of.ensures
    ∙ sym (map-append (plain_cell (known_of c.args.found.now)) (take i ts) (t ∷ [])) ∙ ap (plain_cells (known_of c.args.found.now)) (sym at.first)

pub returns : goal.returns
returns c =
    let types = c.args.types.now in
    c.loop-place.invariant ∙ ap (plain_cells (known_of c.args.found.now)) (take_all c.loop-place._place (column_shapes types) (omega (arith, c.loop-place-test.false, length-map types shape)))
