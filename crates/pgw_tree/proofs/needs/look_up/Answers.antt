use Rattle.std.proofs.Common.{Err, refl, sym, ap, ◌∙◌}
use Rattle.pgw_wire.proofs.Taking.{exit}
use Rattle.pgw_meta.specs.Keys.{owned_key}
use Rattle.pgw_meta.specs.Needs.{needed_key}
use Rattle.pgw_tree.specs.Lookups.{no_memory, unknown_type}
use Rattle.pgw_tree.proofs.Found.{known_key, unknown_key, known_unmet, cause_of_lookup}
use Rattle.pgw_tree.proofs.needs.look_up.Goals as goal

pub returns-in_err-metadata-clause-err : goal.returns-in_err-metadata-clause-err
returns-in_err-metadata-clause-err g c =
    rw (exit c.from_residual.result _ c.from_residual.ensures.1)
    (cause_of_lookup c.in_err-metadata.field-0.0 _ refl (λ e. c.in_err-metadata.ensures.failed (ap Err e)))

pub returns-in_err-key-clause-err : goal.returns-in_err-key-clause-err
returns-in_err-key-clause-err g c = rw (exit c.from_residual-in_err-key.result _ c.from_residual-in_err-key.ensures.1) (no_memory refl)

pub returns-in-Err-clause-err : goal.returns-in-Err-clause-err
returns-in-Err-clause-err g c =
    unknown_type c.in_ok-key.key refl (
      c.in_ok-key.ensures,
      λ k told. unknown_key k (needed_key c.args.need.now) _ (c.in-Err.ensures ∙ c.in_ok-metadata.ensures.found k told),
    )

pub returns-then-is_enough-clause-found : goal.returns-then-is_enough-clause-found
returns-then-is_enough-clause-found g c = record {
  key = c.in_ok-key.ensures;
  meets_it = sym c.is_enough.ensures ∙ c.if-is_enough.true;
  is_known = λ k told. known_key k (owned_key c.args.need.now.key) _ (c.in-Ok.ensures ∙ c.in_ok-metadata.ensures.found k told);
}

pub returns-else-is_enough-clause-err : goal.returns-else-is_enough-clause-err
returns-else-is_enough-clause-err g c =
    unknown_type c.in_ok-key.key refl (
      c.in_ok-key.ensures,
      λ k told. known_unmet k (needed_key c.args.need.now) _ (c.in-Ok.ensures ∙ c.in_ok-metadata.ensures.found k told) (sym c.is_enough.ensures ∙ c.if-is_enough.false),
    )
