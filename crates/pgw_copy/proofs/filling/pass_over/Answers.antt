use Rattle.std.proofs.Common.{rules, length, refl, ap, arith, length-append}
use Rattle.std.proofs.lemmas.List.{length-take-le}
use Rattle.pgw_wire.proofs.Taking.{took_then, took_weaker, exit, takes_later, takes_done}
use Rattle.pgw_copy.proofs.Reading.{short_later}
use Rattle.pgw_copy.proofs.filling.pass_over.Goals as goal

pub returns-in_err-fill : goal.returns-in_err-fill
returns-in_err-fill g c = record {
  takes = let next = length-take-le c.min-next.result c.loop-left.chunk (omega (arith, c.loop-left.invariant.chunk)) in
      takes_later _ _ (exit c.from_residual.result _ c.from_residual.ensures.1) c.loop-left.invariant.took c.in_err-fill.ensures.takes
      (λ d x y so_far. short_later d x y _ _ (omega (arith, so_far, next)));
}

pub loop-left-preserved : goal.loop-left-preserved
loop-left-preserved g c =
    let next = length-take-le c.min-next.result c.loop-left.chunk (omega (arith, c.loop-left.invariant.chunk)) in
    record {
      chunk = search rules;
      within = search rules;
      took = took_then c.loop-left.invariant.took (c.in_ok-fill.ensures.takes.ok _ refl) (λ x y so_far is. omega (arith, so_far, ap length is, next, c.fill.auto.buf, length-append x y));
    }

pub returns : goal.returns
returns g c = record {
  takes = takes_done _ _ _ (took_weaker c.loop-left.invariant.took (λ x e. omega (arith, e)));
}
