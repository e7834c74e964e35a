use Rattle.std.proofs.Common.{◌≡◌, ◌++◌, length, ap, sym, ◌∙◌, arith, append_assoc}
use Rattle.std.specs.Int.{to_be_bytes, w16}
use Rattle.std.proofs.lemmas.List.{length-map}
use Rattle.pgw_meta.specs.Types.{shape, column_shapes}
use Rattle.pgw_cell.specs.Plain.{plain_cell}
use Rattle.pgw_tree.proofs.PlainRows.{some_weaker, plain_row}
use Rattle.pgw_meta.specs.NamedOids.{known_of}
use Rattle.pgw_tree.proofs.plain.behind_plain_row.Goals as goal

pub returns : goal.returns
returns c =
    let types = c.args.columns.now.types.now in
    let ts = column_shapes types in
    let n = c.in_ok-count.count in
    let count = to_be_bytes w16 n in
    let known = ap length c.args.columns.now.each ∙ length-map ts (plain_cell (known_of c.args.columns.now.found.now)) in
    let many : length ts ≡ n = omega (arith, known, c.if-count-columns.false) in
    record {
      some = some_weaker c.behind_plain_fields.result _ _ c.behind_plain_fields.ensures.some (λ rest f.
          (count ++ f.0, f.1, plain_row (known_of c.args.columns.now.found.now) c.args.field_max ts f.1 f.0 n f.2 many (omega (arith, many, length-map types shape, c.args.columns.now.few)), c.in_ok-count.ensures.number ∙ ap (λ l. count ++ l) f.3 ∙ sym (append_assoc count f.0 rest.now)));
    }
