use Rattle.std.proofs.Common.{◌-◌, length, sym, arith}
use Rattle.std.proofs.lemmas.List.{length-map}
use Rattle.pgw_meta.specs.NamedOids.{known_of}
use Rattle.pgw_meta.specs.Types.{shape, column_shapes}
use Rattle.pgw_tree.proofs.Appended.{respells_front}
use Rattle.pgw_tree.proofs.respell.append_front.Goals as goal

pub returns-clause-some : goal.returns-clause-some
returns-clause-some c =
    let types = c.args.columns.now.types.now in
    let count = c.in_ok-count.count in
    let same = length-map types shape in
    respells_front (known_of c.args.columns.now.found.now) c.args.field_max (column_shapes types) count (count - length types) (length types) c.args.bytes.now c.in_ok-count.fields.now c.in_ok-others.others.now c.args.out.now.bytes c.append_columns.new.out.bytes
    (omega (arith, c.if-count-ge-NEGATIVE_COUNT.false)) c.in_ok-count.ensures.number (sym same) (omega (arith, same, c.if-count-columns.false)) c.in_ok-others.ensures.some c.behind_fields.result c.behind_fields.ensures.some
