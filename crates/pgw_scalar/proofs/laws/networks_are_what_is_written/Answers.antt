-- The address of a network has as many bytes as its type, and its prefix fits.
use Rattle.std.proofs.Common.{length, refl, sym, ap, ◌∙◌}
use Rattle.pgw_scalar.proofs.laws.networks_are_what_is_written.Goals as goal

pub returns-in-V4 : goal.returns-in-V4
returns-in-V4 c = rw c.in-V4.is (record {
  laid_out = record { many = ap length (sym c.octets-octets.ensures.value) ∙ c.octets-octets.ensures.many; bytes = refl };
  fits = c.in-V4.network.fits;
})

pub returns-in-V6 : goal.returns-in-V6
returns-in-V6 c = rw c.in-V6.is (record {
  laid_out = record { many = ap length (sym c.octets-octets-in-V6.ensures.value) ∙ c.octets-octets-in-V6.ensures.many; bytes = refl };
  fits = c.in-V6.network.fits;
})
