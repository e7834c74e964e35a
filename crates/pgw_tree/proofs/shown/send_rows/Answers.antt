use Rattle.std.proofs.Common.{◌≡◌, ◌+◌, List, ℕ, length, take, sym, subst, arith}
use Rattle.std.proofs.lemmas.List.{take_all}
use Rattle.pgw_wire.specs.Outside.{Wrote}
use Rattle.pgw_meta.specs.Types.{column_shapes}
use Rattle.pgw_tree.specs.Runs.{IsRun}
use Rattle.pgw_tree.proofs.Runs.{run_whole, broken_part}
use Rattle.pgw_meta.specs.NamedOids.{known_of}
use Rattle.pgw_tree.proofs.shown.send_rows.Goals as goal

pub returns-then-sent-canonical-clause-copied : goal.returns-then-sent-canonical-clause-copied
returns-then-sent-canonical-clause-copied g c =
    let ts = column_shapes c.args.columns.now.types.now in
    let all = c.requires.rows in (
      c.row_end_behind.ensures.within,
      broken_part (known_of c.args.columns.now.found.now) c.args.limits ts c.args.before c.args.many c.send-sent.result c.args.canonical.now c.args.run.now (take c.row_end_behind.result c.args.run.now) c.requires.allowed all
          (c.row_end_behind.ensures.row (known_of c.args.columns.now.found.now) c.args.limits.field_max ts c.args.many all) c.send-sent.ensures.wrote,
      c.send-sent.ensures.failed c.if-sent-canonical.true,
    )

pub returns-else-sent-canonical-clause-copied : goal.returns-else-sent-canonical-clause-copied
returns-else-sent-canonical-clause-copied g c =
    let ts = column_shapes c.args.columns.now.types.now in
    let run = c.args.run.now in
    let wrote = Wrote (g.K.Sink.state c.args.sink.now) (g.K.Sink.state c.send-sent.new.sink) in
    let all : take c.send-sent.result c.args.canonical.now ≡ c.args.canonical.now = take_all c.send-sent.result c.args.canonical.now (omega (arith, c.if-sent-canonical.false)) in (
      omega arith,
      subst (λ (l : List ℕ). IsRun (known_of c.args.columns.now.found.now) c.args.limits ts c.args.before (c.args.before + c.args.many) wrote l) (sym (take_all (length run) run (omega arith)))
          (run_whole (known_of c.args.columns.now.found.now) c.args.limits ts c.args.before c.args.many wrote c.args.canonical.now run c.requires.allowed c.requires.rows (subst wrote all c.send-sent.ensures.wrote)),
    )
