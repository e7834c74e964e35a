-- The spelling of each scalar type, told whole.
use Rattle.std.proofs.Common.{◌≡◌, ℕ, ℤ, Bool, true, false, List, [], length, append-nil, w16, w32, w64, refl, sym, ap, ◌∙◌, subst, arith}
use Rattle.std.specs.Int.{Width, to_be_bytes}
use Rattle.pgw_meta.specs.Shape.{Scalar, bool, char, int2, int4, int8, oid, text, bytea, uuid, money, pg_lsn, macaddr, macaddr8, inet, cidr, date, time, timestamp, timestamptz, interval as interval_type, numeric as numeric_type}
use Rattle.pgw_scalar.specs.Whole.{signed_bytes}
use Rattle.pgw_scalar.specs.Leading.{IsBool, bool_bytes, char_bytes, oid_bytes}
use Rattle.pgw_scalar.proofs.Whole.{HasSize, size_16, size_32, size_64, signed_exact, unsigned_exact}
use Rattle.pgw_scalar.proofs.Sized.{bytes_exact}
use Rattle.pgw_scalar.proofs.LeadingFields.{bool_exact, char_exact, oid_exact}
use Rattle.pgw_scalar.proofs.Bytea.{bytea_exact}
use Rattle.pgw_scalar.proofs.TextFields.{text_exact}
use Rattle.pgw_scalar.specs.Networks.{Network, network_bytes}
use Rattle.pgw_scalar.proofs.NetworkFields.{network_exact}
use Rattle.pgw_time.specs.Interval.{Interval, interval_bytes}
use Rattle.pgw_time.proofs.IntervalFields.{interval_exact}
use Rattle.pgw_numeric.specs.Numeric.{Numeric, IsNumeric, numeric_bytes}
use Rattle.pgw_numeric.proofs.Exact.{numeric_exact, spelled_is_value, value_spelled, size_counted}
use Rattle.pgw_cell.specs.Value.{Value, null, truth, number, bytes, string, natural, network, interval, numeric}
use Rattle.pgw_cell.specs.Spellings.{spelling, signed, unsigned, sized, bools, chars, oids, texts, byteas, networks, intervals, numerics, network_size, size_of_numeric, bytes_of_number, bytes_of_natural, bytes_of_bytes, bytes_of_network, bytes_of_interval, bytes_of_numeric}
use Rattle.pgw_cell.proofs.Told.{IsToldSpelling, IsWrittenSpelling, IsWhole, told_whole, written_whole, exact_as}

-- No value of a type's own is null.
no_truth : (b : Bool) → truth b ≡ null → ⊥
no_truth b e = absurd (cc)

no_number : (n : ℤ) → number n ≡ null → ⊥
no_number n e = absurd (cc)

no_bytes : (b : List ℕ) → bytes b ≡ null → ⊥
no_bytes b e = absurd (cc)

no_string : (s : List ℕ) → string s ≡ null → ⊥
no_string s e = absurd (cc)

no_network : (n : Network) → network n ≡ null → ⊥
no_network n e = absurd (cc)

no_interval : (x : Interval) → interval x ≡ null → ⊥
no_interval x e = absurd (cc)

no_numeric : (n : Numeric) → numeric n ≡ null → ⊥
no_numeric n e = absurd (cc)

signed_whole : (w : Width) (size : ℕ) → HasSize w size → IsWhole (signed w size)
signed_whole w size h = record {
  exact = exact_as number (signed_exact w size h);
  has = λ p v s. (s.0, s.2, s.1.fits);
  some = λ v has e. no_number has.0 (sym has.1 ∙ e);
  written = λ v has. (has.0, record { fits = has.2; bytes = ap (bytes_of_number (signed_bytes w)) has.1 }, has.1);
  counted = λ v has. sym (ap (λ u. length (bytes_of_number (signed_bytes w) u)) has.1 ∙ h.long _);
}

unsigned_whole : (w : Width) (size : ℕ) → HasSize w size → IsWhole (unsigned w size)
unsigned_whole w size h = record {
  exact = exact_as natural (unsigned_exact w size h);
  has = λ p v s. (s.0, s.2, s.1.fits);
  some = λ v has e. no_number _ (sym has.1 ∙ e);
  written = λ v has. (has.0, record { fits = has.2; bytes = ap (bytes_of_natural (to_be_bytes w)) has.1 }, has.1);
  counted = λ v has. sym (ap (λ u. length (bytes_of_natural (to_be_bytes w) u)) has.1 ∙ h.long _);
}

sized_whole : (size : ℕ) → IsWhole (sized size)
sized_whole size = record {
  exact = exact_as bytes (bytes_exact size);
  has = λ p v s. (s.0, s.2, s.1.many);
  some = λ v has e. no_bytes has.0 (sym has.1 ∙ e);
  written = λ v has. (has.0, record { many = has.2; is = ap bytes_of_bytes has.1 }, has.1);
  counted = λ v has. sym (ap (λ u. length (bytes_of_bytes u)) has.1 ∙ has.2);
}

-- the byte that a truth is written as
truth_says : (b : Bool) → IsBool (bool_bytes b) b
truth_says true = record { first = 1; rest = []; is = refl; says = refl }
truth_says false = record { first = 0; rest = []; is = refl; says = refl }

truth_written : (v : Value) (b : Bool) → v ≡ truth b → bools.Spells (bools.canonical v) v
truth_written v b e = subst (λ (u : Value). bools.Spells (bools.canonical u) u) (sym e) (b, truth_says b, refl)

bools_whole : IsWhole bools
bools_whole = record {
  exact = exact_as truth bool_exact;
  has = λ p v s. (s.0, s.2);
  some = λ v has e. no_truth has.0 (sym has.1 ∙ e);
  written = λ v has. truth_written v has.0 has.1;
  counted = λ v has. sym (ap (λ u. length (bools.canonical u)) has.1);
}

chars_whole : IsWhole chars
chars_whole = record {
  exact = exact_as natural char_exact;
  has = λ p v s. (s.0, s.2, s.1.fits);
  some = λ v has e. no_number _ (sym has.1 ∙ e);
  written = λ v has. (has.0, record { rest = []; fits = has.2; is = ap (bytes_of_natural char_bytes) has.1 }, has.1);
  counted = λ v has. sym (ap (λ u. length (bytes_of_natural char_bytes u)) has.1);
}

oids_whole : IsWhole oids
oids_whole = record {
  exact = exact_as natural oid_exact;
  has = λ p v s. (s.0, s.2, s.1.fits);
  some = λ v has e. no_number _ (sym has.1 ∙ e);
  written = λ v has. (has.0, record { rest = []; fits = has.2; is = ap (bytes_of_natural oid_bytes) has.1 ∙ sym (append-nil (oid_bytes has.0)) }, has.1);
  counted = λ v has. sym (ap (λ u. length (bytes_of_natural oid_bytes u)) has.1);
}

texts_whole : IsWhole texts
texts_whole = record {
  exact = exact_as string text_exact;
  has = λ p v s. (s.0, s.2, s.1.utf8);
  some = λ v has e. no_string has.0 (sym has.1 ∙ e);
  written = λ v has. (has.0, record { utf8 = has.2; bytes = ap texts.canonical has.1 }, has.1);
  counted = λ v has. refl;
}

byteas_whole : IsWhole byteas
byteas_whole = record {
  exact = exact_as bytes bytea_exact;
  has = λ p v s. (s.0, s.2);
  some = λ v has e. no_bytes has.0 (sym has.1 ∙ e);
  written = λ v has. (has.0, ap bytes_of_bytes has.1, has.1);
  counted = λ v has. refl;
}

networks_whole : (type_byte : ℕ) → IsWhole (networks type_byte)
networks_whole type_byte = record {
  exact = exact_as network (network_exact type_byte);
  has = λ p v s. (s.0, s.2, record { many = s.1.laid_out.many; fits = s.1.fits });
  some = λ v has e. no_network has.0 (sym has.1 ∙ e);
  written = λ v has. (has.0, record { laid_out = record { many = has.2.many; bytes = ap (bytes_of_network (network_bytes type_byte)) has.1 }; fits = has.2.fits }, has.1);
  counted = λ v has. omega (arith, ap network_size has.1, ap (λ u. length (bytes_of_network (network_bytes type_byte) u)) has.1, has.2.many);
}

intervals_whole : IsWhole intervals
intervals_whole = record {
  exact = exact_as interval interval_exact;
  has = λ p v s. (s.0, s.2, s.1.fits);
  some = λ v has e. no_interval has.0 (sym has.1 ∙ e);
  written = λ v has. (has.0, record { rest = []; fits = has.2; is = ap (bytes_of_interval interval_bytes) has.1 ∙ sym (append-nil (interval_bytes has.0)) }, has.1);
  counted = λ v has. sym (ap (λ u. length (bytes_of_interval interval_bytes u)) has.1);
}

numerics_whole : IsWhole numerics
numerics_whole = record {
  exact = exact_as numeric numeric_exact;
  has = λ p v s. (s.0, s.2, spelled_is_value p s.0 s.1);
  some = λ v has e. no_numeric has.0 (sym has.1 ∙ e);
  written = λ v has. (has.0, subst (λ (u : Value). IsNumeric (bytes_of_numeric numeric_bytes u) has.0) (sym has.1) (value_spelled has.0 has.2), has.1);
  counted = λ v has. ap size_of_numeric has.1 ∙ sym (ap (λ u. length (bytes_of_numeric numeric_bytes u)) has.1 ∙ size_counted has.0);
}

pub spelling_whole : (s : Scalar) → IsWhole (spelling s)
spelling_whole bool = bools_whole
spelling_whole char = chars_whole
spelling_whole int2 = signed_whole w16 2 size_16
spelling_whole int4 = signed_whole w32 4 size_32
spelling_whole int8 = signed_whole w64 8 size_64
spelling_whole oid = oids_whole
spelling_whole text = texts_whole
spelling_whole bytea = byteas_whole
spelling_whole uuid = sized_whole 16
spelling_whole money = signed_whole w64 8 size_64
spelling_whole pg_lsn = unsigned_whole w64 8 size_64
spelling_whole macaddr = sized_whole 6
spelling_whole macaddr8 = sized_whole 8
spelling_whole inet = networks_whole 0
spelling_whole cidr = networks_whole 1
spelling_whole date = signed_whole w32 4 size_32
spelling_whole time = signed_whole w64 8 size_64
spelling_whole timestamp = signed_whole w64 8 size_64
spelling_whole timestamptz = signed_whole w64 8 size_64
spelling_whole interval_type = intervals_whole
spelling_whole numeric_type = numerics_whole

pub spelling_told : (s : Scalar) → IsToldSpelling (spelling s)
spelling_told s = told_whole (spelling s) (spelling_whole s)

pub spelling_written : (s : Scalar) → IsWrittenSpelling (spelling s)
spelling_written s = written_whole (spelling s) (spelling_whole s)
