use Rattle.std.proofs.Common.{◌≡◌, take, drop, sym, ◌∙◌, subst, arith, refl, length-drop}
use Rattle.std.proofs.lemmas.List.{take_all, take-append-drop}
use Rattle.pgw_wire.specs.Outside.{Wrote}
use Rattle.pgw_wire.proofs.Taking.{exit}
use Rattle.pgw_copy.specs.State.{cells_of}
use Rattle.pgw_meta.specs.Types.{column_shapes}
use Rattle.pgw_tree.specs.Sending.{has_broken}
use Rattle.pgw_tree.proofs.PlainRows.{plain_told}
use Rattle.pgw_tree.proofs.Parts.{filled_cause}
use Rattle.pgw_meta.specs.NamedOids.{known_of}
use Rattle.pgw_tree.proofs.next_row.send_values.Goals as goal

pub returns-then-send-bytes-clause-err : goal.returns-then-send-bytes-clause-err
returns-then-send-bytes-clause-err g c =
    let bytes = c.as_bytes-bytes.result.now in
    let run = c.plain_rows-run.ensures in
    let sent = c.send.result in
    let told = plain_told (known_of c.args.columns.now.found.now) c.args.field_max (column_shapes c.args.columns.now.types.now) (cells_of c.args.row.now) _ bytes _ run.rows c.requires.row c.as_bytes-bytes.ensures run.front c.if-run-bytes.true (run.as_many ∙ c.if-run-eq1.true) run.plain in
    has_broken refl (
      told.0,
      told.1,
      record { front = take sent bytes; rest = drop sent bytes; is = sym told.2 ∙ sym (take-append-drop sent bytes); missing = omega (arith, c.if-send-bytes.true, length-drop sent bytes); written = c.send.ensures.wrote },
      c.send.ensures.failed c.if-send-bytes.true,
    )

pub returns-then-run-bytes-clause-ok : goal.returns-then-run-bytes-clause-ok
returns-then-run-bytes-clause-ok g c =
    let bytes = c.as_bytes-bytes.result.now in
    let run = c.plain_rows-run.ensures in
    let told = plain_told (known_of c.args.columns.now.found.now) c.args.field_max (column_shapes c.args.columns.now.types.now) (cells_of c.args.row.now) _ bytes _ run.rows c.requires.row c.as_bytes-bytes.ensures run.front c.if-run-bytes.true (run.as_many ∙ c.if-run-eq1.true) run.plain in
    let all : take c.send.result bytes ≡ bytes = take_all c.send.result bytes (omega (arith, c.if-send-bytes.false)) in
    (told.0, told.1, subst (Wrote (g.K.Sink.state c.args.sink.now) (g.K.Sink.state c.send.new.sink)) (all ∙ told.2) c.send.ensures.wrote)

pub returns-in_err-fill_row-clause-err : goal.returns-in_err-fill_row-clause-err
returns-in_err-fill_row-clause-err g c = rw (exit c.from_residual.result _ c.from_residual.ensures.1) (filled_cause _ _ c.in_err-fill_row.ensures.err)
