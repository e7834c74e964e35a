use Rattle.std.proofs.Common.{rules, ◌++◌, refl, ap, ◌∙◌, arith, length-append, append_assoc}
use Rattle.pgw_wire.proofs.Taking.{took_then, took_weaker, exit, takes_later, takes_done}
use Rattle.pgw_copy.specs.Reader.{IsShort}
use Rattle.pgw_copy.proofs.Reading.{kept_at}
use Rattle.pgw_copy.proofs.taken.TakenBytes.take.Goals as goal

pub returns-in_err-append-clause-takes : goal.returns-in_err-append-clause-takes
returns-in_err-append-clause-takes g c =
    let next = c.min-next.result in
    takes_later _ _ (exit c.from_residual.result _ c.from_residual.ensures.1) c.loop-left.invariant.took c.in_err-append.ensures.takes
    (λ d x y so_far. kept_at (IsShort next) (λ _. ⊥) (IsShort c.args.len) (λ _. ⊥) d y (x ++ y)
    (λ short. omega (arith, so_far.0, short, length-append x y))
    (λ h. absurd h))

pub loop-left-preserved : goal.loop-left-preserved
loop-left-preserved g c = record {
  within = search rules;
  took = took_then c.loop-left.invariant.took (c.in_ok-append.ensures.takes.ok _ refl) (λ x y so_far is. (omega (arith, so_far.0, is.0, length-append x y), is.1 ∙ ap (λ l. l ++ y) so_far.1 ∙ append_assoc c.args.self.now x y));
  grown = omega (arith, c.loop-left.invariant.grown, c.in_ok-append.ensures.grown);
}

pub returns-clause-takes : goal.returns-clause-takes
returns-clause-takes g c =
    takes_done _ _ _ (took_weaker c.loop-left.invariant.took (λ x e. (omega (arith, e.0), e.1)))
