-- How the answers of calls that read a part of a stream make that of the call that makes them.
use Rattle.std.proofs.Common.{◌≡◌, ℕ, ◌+◌, ◌<◌, ◌≤◌, ◌^◌, List, ◌++◌, length, length-append, append_assoc, arith, subst, refl, inl, inr, ◌⊎◌, Option, None, Some, Result, Ok, Err, sym, ap, ◌∙◌}
use Rattle.std.specs.Result.{IfErr}
use Rattle.pgw_wire.specs.Outside.{SourceState, Took}
use Rattle.pgw_wire.proofs.Taking.{took_weaker, takes_refused}
use Rattle.pgw_copy.specs.declared.fault.CopyReadError.{CopyReadError}
use Rattle.pgw_copy.specs.declared.fault.CopyReadError.TheVariants.{NoMemory}
use Rattle.pgw_copy.specs.Reader.{Reads, CutError, truncated, read_fault, KeptError, cut_short, no_memory, IsShort, CountError, bad_count, cut_count, RowError, bad_row_count, cut_row, AreCutFields, AreWholeFields, IsWholeRow}
use Rattle.pgw_copy.specs.Format.{AreFields, IsRow, IsCutRow, IsCount}
use Rattle.pgw_wire.specs.Cell.{Cell}
use Rattle.std.specs.Int.{to_be_bytes, w16}
use Rattle.pgw_wire.proofs.Lists.{same_front, same_rest}
use Rattle.pgw_wire.proofs.Numbers.{same_number_2}

-- want of memory, behind what was taken
pub takes_no_memory : {X O : Type 0} {a b : SourceState O} {P0 : List ℕ → Type 0} {r : Result X CopyReadError} (P : X → List ℕ → Type 0) (Fault : CopyReadError → List ℕ → Type 0) → r ≡ Err NoMemory → Took a b P0 → ((bytes : List ℕ) → P0 bytes → Fault NoMemory bytes) → Reads a b r P Fault
takes_no_memory P Fault is t says = takes_refused P Fault is (took_weaker t says) (λ h. absurd (cc)) (λ h. absurd (cc))

-- Where a cut of what was read last is a cut of all, so it is at each error.
pub cut_at : (Cut All : List ℕ → Type 0) (e : CopyReadError) (last all : List ℕ) → (Cut last → All all) → CutError Cut e last → CutError All e all
cut_at Cut All e last all cut (truncated is h) = truncated is (cut h)
cut_at Cut All e last all cut (read_fault is h) = read_fault is (cut h)

-- the same at the errors of a call that keeps what it takes, by way of one that does not
pub kept_of_cut : (Cut All Whole : List ℕ → Type 0) (e : CopyReadError) (last all : List ℕ) → (Cut last → All all) → CutError Cut e last → KeptError All Whole e all
kept_of_cut Cut All Whole e last all cut h = cut_short (cut_at Cut All e last all cut h)

-- and by way of one that does, whose whole may be a part of all
pub kept_at : (Cut Whole All AllWhole : List ℕ → Type 0) (e : CopyReadError) (last all : List ℕ) → (Cut last → All all) → (Whole last → All all ⊎ AllWhole all) → KeptError Cut Whole e last → KeptError All AllWhole e all
kept_at Cut Whole All AllWhole e last all cut whole (cut_short h) = cut_short (cut_at Cut All e last all cut h)
kept_at Cut Whole All AllWhole e last all cut whole (no_memory is (inl h)) = no_memory is (inl (cut h))
kept_at Cut Whole All AllWhole e last all cut whole (no_memory is (inr h)) = no_memory is (whole h)

-- Bytes that are short of what was asked last are short of all that was asked.
pub short_later : (e : CopyReadError) (first second : List ℕ) (size all : ℕ) → length first + size ≤ all → CutError (IsShort size) e second → CutError (IsShort all) e (first ++ second)
short_later e first second size all within h =
    cut_at (IsShort size) (IsShort all) e second (first ++ second) (λ short. omega (arith, within, short, length-append first second)) h

pub err_both : {X : Type 0} (r : Result X CopyReadError) (P Q : CopyReadError → Type 0) → IfErr r P → IfErr r Q → IfErr r (λ e. P e × Q e)
err_both (Ok x) P Q p q = tt
err_both (Err e) P Q p q = (p, q)

-- What an error of a count says, it says of a row.
pub count_of_row : (e : CopyReadError) (bytes : List ℕ) → CountError e bytes → RowError e bytes
count_of_row e bytes (bad_count count is bad) = bad_row_count count is bad
count_of_row e bytes (cut_count h) = cut_row (cut_short (cut_at (IsShort 2) IsCutRow e bytes bytes inl h))

-- A count, and fields that end too early, are a row that does.
pub is_cut_row : (n : ℕ) (x y : List ℕ) → IsCount (Some n) x → AreCutFields n y → IsCutRow (x ++ y)
is_cut_row n x y count cut =
    inr (
      n,
      y,
      count.0,
      ap (λ l. l ++ y) count.1,
      λ cells row behind h e.
          let few = h.few in
          let short = count.0 in
          let b = to_be_bytes w16 (length cells) in
          let whole = ap (λ l. l ++ y) (sym count.1) ∙ e ∙ ap (λ l. l ++ behind) h.is ∙ append_assoc b h.fields behind in
          let many = same_number_2 n (length cells) (omega (arith, short)) (omega (arith, few)) (same_front (to_be_bytes w16 n) b y (h.fields ++ behind) refl whole) in
          cut cells h.fields behind (sym many) h.each (same_rest (to_be_bytes w16 n) b y (h.fields ++ behind) refl whole),
    )

-- A count and as many fields are a row.
pub row_of : (n : ℕ) (cells : List Cell) (x y : List ℕ) → IsCount (Some n) x → length cells ≡ n → AreFields cells y → IsRow cells (x ++ y)
row_of n cells x y count many each = record {
  fields = y;
  few = subst (λ (k : ℕ). k < 2 ^ 15) (sym many) count.0;
  each = each;
  is = ap (λ l. l ++ y) (count.1 ∙ ap (to_be_bytes w16) (sym many));
}

-- what an error of the fields behind a count says of the row
pub cut_of_row : (n : ℕ) (e : CopyReadError) (x y : List ℕ) → IsCount (Some n) x → KeptError (AreCutFields n) (AreWholeFields n) e y → RowError e (x ++ y)
cut_of_row n e x y count h = cut_row (kept_at (AreCutFields n) (AreWholeFields n) IsCutRow IsWholeRow e y (x ++ y) (is_cut_row n x y count) (λ whole. inr (whole.0, row_of n whole.0 x y count whole.1 whole.2)) h)

-- A count has two bytes.
pub length-count : (c : Option ℕ) (bytes : List ℕ) → IsCount c bytes → length bytes ≡ 2
length-count None bytes is = ap length is
length-count (Some n) bytes is = ap length is.1
