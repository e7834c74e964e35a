-- The field of a bytea is read as its definition says.
use Rattle.std.proofs.Common.{ℕ, List, Result, Ok, refl, ap}
use Rattle.pgw_wire.specs.declared.kind.Break.{Break}
use Rattle.pgw_scalar.specs.Bytea.{IsBytea}
use Rattle.pgw_scalar.proofs.Readers.{IsExact, ok_is, never_both}

abbrev read : List ℕ → Result (List ℕ) Break
read p = Ok p

pub bytea_exact : IsExact IsBytea (λ kind p. ⊥) (λ p. Ok p)
bytea_exact = record {
  reads = record { again = λ p x s. ap read s };
  sound = record { spelled = λ p x bytes e. ok_is p x e };
  refuses = record {
    refused = λ kind p b. absurd b;
    broken = λ kind p bytes e. never_both (read p) p kind refl e;
  };
}
