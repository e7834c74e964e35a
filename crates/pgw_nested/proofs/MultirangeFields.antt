-- The fields of multiranges are read as their definitions say, where the cells of their ranges are.
use Rattle.std.proofs.Common.{◌≡◌, ℕ, ◌<◌, ◌^◌, Bool, true, false, cond, ltb, List, ◌++◌, length, take, drop, Option, None, Some, Result, Ok, Err, refl, sym, ap, subst, ◌∙◌}
use Rattle.std.specs.Int.{w32, from_be_bytes, to_be_bytes}
use Rattle.std.proofs.lemmas.Bool.{ltb-true, ltb-false, lt-ltb}
use Rattle.pgw_wire.specs.Cell.{Cell}
use Rattle.pgw_wire.specs.declared.kind.Break.{Break}
use Rattle.pgw_wire.specs.declared.sql_error.SqlError.{SqlError}
use Rattle.pgw_nested.specs.Array.{Elements, kind_named}
use Rattle.pgw_nested.specs.Reading.{◌>>=◌, read_cells}
use Rattle.pgw_nested.proofs.Exact.{IsExact}
use Rattle.pgw_nested.proofs.Cutting.{IsBytes, IsBytesCell, word_again, split_word, bytes_dropped}
use Rattle.pgw_nested.specs.Multirange.{ranges_in, BeginsMultirange, IsMultirange, FailsMultirange, no_count, fails_at_range, BreaksMultirange}
use Rattle.pgw_nested.specs.RangeReading.{read_counted, read_multirange_by, read_multirange}
use Rattle.pgw_nested.proofs.Counted.{Outcome, outcome, cells_again, fault_again}

module _ {A E : Type 0} (name : SqlError → E) (Spell : Cell → A → Type 0) (Fail : Cell → E → Type 0) (read : Cell → Result A E) (exact : IsExact IsBytesCell Spell Fail read) where
  read_on : (bytes : List ℕ) (ranges : Elements) (r : Result (List A × List ℕ) E) → BeginsMultirange bytes ranges → read_cells name read ranges.nulls ranges.left ranges.rest ≡ r
      → read_multirange_by name read bytes ≡ (r >>= λ x. Ok x.0)
  read_on bytes ranges r b e =
      let cells : read_cells name read false b.count b.rest ≡ r = ap (λ (x : Elements). read_cells name read x.nulls x.left x.rest) (sym b.ranges_are) ∙ e in
      ap (read_multirange_by name read) b.is ∙ rw (word_again b.count b.rest b.fits, cells) refl

  multirange_again : (bytes : List ℕ) (vs : List A) → IsMultirange Spell bytes vs → read_multirange_by name read bytes ≡ Ok vs
  multirange_again bytes vs s =
      let r = s.are.ranges in
      read_on bytes r (Ok (vs, s.are.behind)) s.are.begins
      (ap (λ (n : ℕ). read_cells name read r.nulls n r.rest) s.are.many ∙ ap (read_cells name read r.nulls (length s.cells)) s.are.is ∙ cells_again name Spell Fail read exact r.nulls s.cells vs s.are.behind s.are.framed s.spelled)

  multirange_refused : (bytes : List ℕ) (e : E) → FailsMultirange name Spell Fail bytes e → read_multirange_by name read bytes ≡ Err e
  multirange_refused bytes e (no_count few is) = rw (lt-ltb _ _ few) (ap Err (sym is))
  multirange_refused bytes e (fails_at_range ranges begins f) =
      read_on bytes ranges (Err e) begins (fault_again name Spell Fail read exact ranges.nulls ranges.left ranges.rest e f)

  abbrev Read : List ℕ → Result (List A) E → Type 0
  Read bytes (Ok vs) = IsMultirange Spell bytes vs
  Read bytes (Err e) = FailsMultirange name Spell Fail bytes e

  counted : (bytes : List ℕ) (n : ℕ) (rest : List ℕ) → bytes ≡ to_be_bytes w32 n ++ rest → n < 2 ^ 32 → (r : Result (List A × List ℕ) E) → Outcome name Spell Fail read exact false n rest r → Read bytes (r >>= λ x. Ok x.0)
  counted bytes n rest is fits (Ok x) o = record {
    cells = o.cells;
    are = record {
      ranges = ranges_in n rest;
      behind = x.1;
      begins = record { count = n; rest = rest; fits = fits; is = is; ranges_are = refl };
      many = o.many;
      framed = o.framed;
      is = o.is;
    };
    spelled = o.spelled;
  }
  counted bytes n rest is fits (Err e) o = fails_at_range (ranges_in n rest) (record { count = n; rest = rest; fits = fits; is = is; ranges_are = refl }) o

  multirange_read : (bytes : List ℕ) → IsBytes bytes → Read bytes (read_multirange_by name read bytes)
  multirange_read bytes fits = cases (ltb (length bytes) 4) refl
    where
      cases : (b : Bool) → ltb (length bytes) 4 ≡ b → Read bytes (read_counted name read (cond {A = Option (ℕ × List ℕ)} b None (Some (from_be_bytes w32 (take 4 bytes), drop 4 bytes))))
      cases true b = no_count (ltb-true _ _ b) refl
      cases false b =
          let s = split_word bytes (ltb-false _ _ b) fits in
          let n = from_be_bytes w32 (take 4 bytes) in
          counted bytes n (drop 4 bytes) s.0 s.1 (read_cells name read false n (drop 4 bytes)) (outcome name Spell Fail read exact false n (drop 4 bytes) (bytes_dropped 4 bytes fits))

  -- A multirange is read exactly where it is one, and refused with exactly its first fault.
  pub multirange_exact_by : IsExact IsBytes (IsMultirange Spell) (FailsMultirange name Spell Fail) (read_multirange_by name read)
  multirange_exact_by = record {
    again = multirange_again;
    spelled = λ bytes vs fits e. subst (λ (r : Result (List A) E). Read bytes r) e (multirange_read bytes fits);
    refused = multirange_refused;
    fails = λ bytes e fits h. subst (λ (r : Result (List A) E). Read bytes r) h (multirange_read bytes fits);
  }

-- the same, of values and breaks
pub multirange_exact : {A : Type 0} (Spell : Cell → A → Type 0) (Broken : Break → Cell → Type 0) (read : Cell → Result A Break)
    → IsExact IsBytesCell Spell (λ cell kind. Broken kind cell) read → IsExact IsBytes (IsMultirange Spell) (λ bytes kind. BreaksMultirange Spell Broken kind bytes) (read_multirange read)
multirange_exact Spell Broken read exact = multirange_exact_by kind_named Spell (λ cell kind. Broken kind cell) read exact
