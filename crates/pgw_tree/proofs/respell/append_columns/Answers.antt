use Rattle.std.proofs.Common.{◌∙◌, ◌++◌, length, refl, sym, ap, append_assoc}
use Rattle.std.specs.Int.{to_be_bytes, w16}
use Rattle.pgw_meta.specs.NamedOids.{known_of}
use Rattle.pgw_meta.specs.Types.{column_shapes}
use Rattle.pgw_tree.proofs.Appended.{appends_plain}
use Rattle.pgw_tree.proofs.PlainRows.{front_of}
use Rattle.pgw_tree.proofs.respell.append_columns.Goals as goal

pub returns-in-Ok-clause-some : goal.returns-in-Ok-clause-some
returns-in-Ok-clause-some c =
    let types = c.args.columns.now.types.now in
    let fields = c.args.fields.now in
    let others = c.in-Some.field-0.now in
    let p = c.in-Some.ensures.some in
    let count = to_be_bytes w16 (length types) in
    appends_plain (known_of c.args.columns.now.found.now) c.args.field_max (column_shapes types) p.1 p.0 fields others (c.args.out.now.bytes ++ count) c.push_plain_row.new.out.bytes p.0 p.2 p.3 refl
    (c.in-Ok.ensures.ok ∙ ap (λ l. c.args.out.now.bytes ++ (count ++ l)) (front_of fields p.0 others p.3) ∙ sym (append_assoc c.args.out.now.bytes count p.0))
