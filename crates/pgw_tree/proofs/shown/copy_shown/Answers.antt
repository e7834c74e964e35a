use Rattle.std.proofs.Common.{◌∙◌, ap, Ok}
use Rattle.std.specs.Option.{ok_or}
use Rattle.pgw_wire.proofs.Adding.{wrote_still}
use Rattle.pgw_meta.specs.Types.{column_shapes}
use Rattle.pgw_tree.specs.declared.fault.CopyFault.TheVariants.{WriteFault}
use Rattle.pgw_tree.proofs.Runs.{shown_answer}
use Rattle.pgw_meta.specs.NamedOids.{known_of}
use Rattle.pgw_tree.proofs.shown.copy_shown.Goals as goal

pub returns-in-Ok-clause-takes : goal.returns-in-Ok-clause-takes
returns-in-Ok-clause-takes g c =
    shown_answer (known_of c.args.columns.now.found.now) {a = g.S.Source.state c.args.source.now} {b = g.S.Source.state c.show.new.self} {before = g.K.Sink.state c.args.sink.now} {now = g.K.Sink.state c.show.new.to} c.args.limits (column_shapes c.args.columns.now.types.now) c.args.before c.in-Ok.field-0 c.show.new.taker.copied c.ok_or.result c.requires.allowed
    (c.ok_or.ensures.value ∙ ap (λ o. ok_or o WriteFault) c.rows.ensures) c.in-Ok.ensures.goes_on
    (λ is. c.in-Ok.ensures.shown (ap Ok is))
    (λ is. let kept = c.in-Ok.ensures.none (ap Ok is) in (kept.0, ap (λ t. t.copied) kept.1, wrote_still g.K.Sink.state c.args.sink.now c.show.new.to kept.2))
