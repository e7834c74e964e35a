use Rattle.std.proofs.Common.{refl, inl}
use Rattle.pgw_wire.proofs.Taking.{exit, took_none, takes_refused}
use Rattle.pgw_wire.proofs.Adding.{wrote_none}
use Rattle.pgw_tree.specs.Causes.{no_memory_at_first}
use Rattle.pgw_tree.proofs.stream.copy_typed.Goals as goal

pub returns-in_err-plain-clause-takes : goal.returns-in_err-plain-clause-takes
returns-in_err-plain-clause-takes g c =
    takes_refused _ _ (exit c.from_residual.result _ c.from_residual.ensures.1) (took_none (inl (no_memory_at_first refl refl, wrote_none _))) (λ h. absurd (cc)) (λ h. absurd (cc))
