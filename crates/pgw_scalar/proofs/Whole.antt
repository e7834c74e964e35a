-- The fields of whole numbers are read as their definitions say.
use Rattle.std.proofs.Common.{◌≡◌, ℕ, ℤ, ◌<◌, ◌^◌, List, length, Fits, w16, w32, w64, refl, sym, ap, ◌∙◌, arith}
use Rattle.std.specs.Int.{Width, to_be_bytes, from_be_bytes, cast_signed}
use Rattle.std.proofs.lemmas.Int.{to_z-of_z, of_z-to_z}
use Rattle.std.proofs.lemmas.Nat.{be_bytes_2, be_bytes_4, be_bytes_8, from_be_bytes-to_be_bytes_2, from_be_bytes-to_be_bytes_4, from_be_bytes-to_be_bytes_8}
use Rattle.std.proofs.Math.Facts.{Fits-of_z, sfits_to_z}
use mir.Val.{bits}
use Rattle.pgw_scalar.specs.Sized.{BreaksSized, read_sized}
use Rattle.pgw_scalar.specs.Whole.{IsSigned, IsUnsigned}
use Rattle.pgw_scalar.proofs.Readers.{IsBytes, IsExact, sized_exact}

-- The numbers of a width have so many bytes, and are read from them again.
pub record HasSize (w : Width) (size : ℕ) : Type 0 where
  pub long : (n : ℕ) → length (to_be_bytes w n) ≡ size
  pub below : (p : List ℕ) → IsBytes p → length p ≡ size → from_be_bytes w p < 2 ^ bits w
  pub written : (p : List ℕ) → IsBytes p → length p ≡ size → to_be_bytes w (from_be_bytes w p) ≡ p
  pub again : (n : ℕ) → n < 2 ^ bits w → from_be_bytes w (to_be_bytes w n) ≡ n

pub size_16 : HasSize w16 2
size_16 = record {
  long = λ n. refl;
  below = λ p bytes many. omega (arith, many, bytes 0, bytes 1);
  written = λ p bytes many. be_bytes_2 p _ many bytes refl;
  again = from_be_bytes-to_be_bytes_2;
}

pub size_32 : HasSize w32 4
size_32 = record {
  long = λ n. refl;
  below = λ p bytes many. omega (arith, many, bytes 0, bytes 1, bytes 2, bytes 3);
  written = λ p bytes many. be_bytes_4 p _ many bytes refl;
  again = from_be_bytes-to_be_bytes_4;
}

pub size_64 : HasSize w64 8
size_64 = record {
  long = λ n. refl;
  below = λ p bytes many. omega (arith, many, bytes 0, bytes 1, bytes 2, bytes 3, bytes 4, bytes 5, bytes 6, bytes 7);
  written = λ p bytes many. be_bytes_8 p _ many bytes refl;
  again = from_be_bytes-to_be_bytes_8;
}

-- Any bytes of the size are a number's.
pub signed_bytes_are : {w : Width} {size : ℕ} → HasSize w size → (p : List ℕ) → IsBytes p → length p ≡ size → IsSigned w p (cast_signed w (from_be_bytes w p))
signed_bytes_are {w = w} h p bytes many =
    let below = h.below p bytes many in
    let fits : Fits w (from_be_bytes w p) = record { fits = below } in
    record { fits = sfits_to_z fits; bytes = sym (ap (to_be_bytes w) (of_z-to_z w (from_be_bytes w p) below) ∙ h.written p bytes many) }

signed_again : {w : Width} {size : ℕ} → HasSize w size → (p : List ℕ) (n : ℤ) → IsSigned w p n → (length p ≡ size) × (cast_signed w (from_be_bytes w p) ≡ n)
signed_again {w = w} h p n s =
    let number = ap (from_be_bytes w) s.bytes ∙ h.again _ (Fits-of_z s.fits).fits in
    (ap length s.bytes ∙ h.long _, ap (cast_signed w) number ∙ to_z-of_z w n s.fits)

pub signed_exact : (w : Width) (size : ℕ) → HasSize w size → IsExact (IsSigned w) (BreaksSized size) (λ p. read_sized size (λ q. cast_signed w (from_be_bytes w q)) p)
signed_exact w size h = sized_exact size (λ q. cast_signed w (from_be_bytes w q)) (signed_again h) (signed_bytes_are h)

pub unsigned_bytes_are : {w : Width} {size : ℕ} → HasSize w size → (p : List ℕ) → IsBytes p → length p ≡ size → IsUnsigned w p (from_be_bytes w p)
unsigned_bytes_are h p bytes many = record { fits = h.below p bytes many; bytes = sym (h.written p bytes many) }

unsigned_again : {w : Width} {size : ℕ} → HasSize w size → (p : List ℕ) (n : ℕ) → IsUnsigned w p n → (length p ≡ size) × (from_be_bytes w p ≡ n)
unsigned_again {w = w} h p n s = (ap length s.bytes ∙ h.long n, ap (from_be_bytes w) s.bytes ∙ h.again n s.fits)

pub unsigned_exact : (w : Width) (size : ℕ) → HasSize w size → IsExact (IsUnsigned w) (BreaksSized size) (λ p. read_sized size (from_be_bytes w) p)
unsigned_exact w size h = sized_exact size (from_be_bytes w) (unsigned_again h) (unsigned_bytes_are h)
