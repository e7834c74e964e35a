-- The fields that have so many bytes are read as their definition says.
use Rattle.std.proofs.Common.{ℕ, length, refl, ap, ◌∙◌}
use Rattle.pgw_scalar.specs.Sized.{BreaksSized, IsSized, read_sized}
use Rattle.pgw_scalar.proofs.Readers.{IsExact, sized_exact}

pub bytes_exact : (size : ℕ) → IsExact (IsSized size) (BreaksSized size) (λ p. read_sized size (λ q. q) p)
bytes_exact size =
    sized_exact size (λ q. q) (λ p b s. (ap length s.is ∙ s.many, s.is)) (λ p bytes many. record { many = many; is = refl })
