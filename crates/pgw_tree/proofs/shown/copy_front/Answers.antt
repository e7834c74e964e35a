use Rattle.std.proofs.Common.{ℕ, subst}
use Rattle.pgw_meta.specs.Types.{column_shapes}
use Rattle.pgw_tree.specs.Runs.{AreRespelled}
use Rattle.pgw_tree.proofs.Respelled.{plain_respelled}
use Rattle.pgw_meta.specs.NamedOids.{known_of}
use Rattle.pgw_tree.proofs.shown.copy_front.Goals as goal

pub send_rows-requires-clause-rows : goal.send_rows-requires-clause-rows
send_rows-requires-clause-rows g c =
    let ts = column_shapes c.args.columns.now.types.now in
    let run = c.plain_rows-run.result in
    let p = c.plain_rows-run.ensures in
    subst (λ (most : ℕ). AreRespelled (known_of c.args.columns.now.found.now) most ts run.rows run.bytes.now run.bytes.now) c.field_max.ensures.value (plain_respelled (known_of c.args.columns.now.found.now) c.field_max.result ts run.rows run.bytes.now p.rows p.as_many p.plain)
