use Rattle.pgw_wire.proofs.Taking.{exit, takes_first}
use Rattle.pgw_copy.proofs.taken.TakenBytes.take_length.Goals as goal

pub returns-in_err-append-clause-takes : goal.returns-in_err-append-clause-takes
returns-in_err-append-clause-takes g c =
    takes_first _ _ (exit c.from_residual.result _ c.from_residual.ensures.1) c.in_err-append.ensures.takes (λ _ _ h. h)
