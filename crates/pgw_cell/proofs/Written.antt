-- The bytes that a piece is written as again: those of the piece, or its first.
use Rattle.std.proofs.Common.{◌≡◌, ℕ, Bool, true, false, eqb, ltb, cond, List, length, take, Result, Ok, Err, w32, refl, sym, ap, ◌∙◌}
use Rattle.std.specs.Int.{Width, to_be_bytes, from_be_bytes, cast_signed}
use Rattle.std.proofs.lemmas.Bool.{eqb-true, ltb-false}
use Rattle.std.proofs.lemmas.List.{length-take-le}
use Rattle.pgw_wire.specs.declared.kind.Break.{Break}
use Rattle.pgw_wire.specs.declared.kind.Break.TheVariants.{Size}
use Rattle.pgw_scalar.specs.Sized.{read_sized}
use Rattle.pgw_scalar.specs.Whole.{signed_bytes}
use Rattle.pgw_scalar.proofs.Readers.{IsBytes}
use Rattle.pgw_scalar.proofs.LeadingFields.{bytes_taken}
use Rattle.pgw_scalar.proofs.Whole.{HasSize, size_32, signed_bytes_are}
use Rattle.pgw_wire.proofs.Lists.{take_piece}
use Rattle.pgw_time.specs.Interval.{Interval, interval_bytes, first_interval}
use Rattle.pgw_time.proofs.IntervalFields.{interval_is}
use Rattle.pgw_cell.specs.Value.{Value, number, natural, interval}
use Rattle.pgw_cell.specs.Spellings.{read_as, signed, unsigned, oids, intervals, bytes_of_number, bytes_of_natural}
use Rattle.pgw_cell.specs.Written.{front_read, canonical_of}

-- what comes of a test, where a piece that passes is written as it stands
same_where : {A : Type 0} (b : Bool) (value : A → Value) (canonical : Value → List ℕ) (x : A) (p : List ℕ) → (b ≡ true → canonical (value x) ≡ p) → cond {A = Result (List ℕ) Break} b (Ok p) (Err Size) ≡ canonical_of canonical (read_as value (cond {A = Result A Break} b (Ok x) (Err Size)))
same_where true value canonical x p h = ap Ok (sym (h refl))
same_where false value canonical x p h = refl

pub signed_written : (w : Width) (size : ℕ) → HasSize w size → (p : List ℕ) → IsBytes p → read_sized size (λ q. q) p ≡ canonical_of (signed w size).canonical ((signed w size).read p)
signed_written w size h p bytes =
    same_where (eqb (length p) size) number (bytes_of_number (signed_bytes w)) (cast_signed w (from_be_bytes w p)) p
    (λ e. sym (signed_bytes_are h p bytes (eqb-true (length p) size e)).bytes)

pub unsigned_written : (w : Width) (size : ℕ) → HasSize w size → (p : List ℕ) → IsBytes p → read_sized size (λ q. q) p ≡ canonical_of (unsigned w size).canonical ((unsigned w size).read p)
unsigned_written w size h p bytes =
    same_where (eqb (length p) size) natural (bytes_of_natural (to_be_bytes w)) (from_be_bytes w p) p
    (λ e. h.written p bytes (eqb-true (length p) size e))

-- what comes of a test, where the first bytes of a piece that passes are written
front_where : (b : Bool) (p : List ℕ) → (b ≡ false → to_be_bytes w32 (from_be_bytes w32 (take 4 p)) ≡ take 4 p) → cond {A = Result (List ℕ) Break} b (Err Size) (Ok (take 4 p)) ≡ canonical_of oids.canonical (read_as natural (cond {A = Result ℕ Break} b (Err Size) (Ok (from_be_bytes w32 (take 4 p)))))
front_where true p h = refl
front_where false p h = ap Ok (sym (h refl))

pub oid_written : (p : List ℕ) → IsBytes p → front_read 4 p ≡ canonical_of oids.canonical (oids.read p)
oid_written p bytes =
    front_where (ltb (length p) 4) p
    (λ e. size_32.written (take 4 p) (bytes_taken 4 p bytes) (length-take-le 4 p (ltb-false (length p) 4 e)))

interval_where : (b : Bool) (p : List ℕ) → (b ≡ false → interval_bytes (first_interval p) ≡ take 16 p)
    → cond {A = Result (List ℕ) Break} b (Err Size) (Ok (take 16 p)) ≡ canonical_of intervals.canonical (read_as interval (cond {A = Result Interval Break} b (Err Size) (Ok (first_interval p))))
interval_where true p h = refl
interval_where false p h = ap Ok (sym (h refl))

pub interval_written : (p : List ℕ) → IsBytes p → front_read 16 p ≡ canonical_of intervals.canonical (intervals.read p)
interval_written p bytes = interval_where (ltb (length p) 16) p front
  where
    front : ltb (length p) 16 ≡ false → interval_bytes (first_interval p) ≡ take 16 p
    front e =
        let h = interval_is p bytes (ltb-false (length p) 16 e) in
        sym (ap (take 16) h.is ∙ take_piece 16 (interval_bytes (first_interval p)) h.rest refl)
