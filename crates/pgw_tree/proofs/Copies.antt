-- What was taken and written of a stream, one row more at a time.
use Rattle.std.proofs.Common.{◌≡◌, ℕ, ◌<◌, cond, List, [], ◌∷◌, ◌++◌, length, Bool, true, false, option_map, Option, None, Some, refl, sym, ap, ◌∙◌, ◌⊎◌, inl, inr, arith, subst, append_assoc, append-nil, length-append}
use Rattle.std.specs.List.{flat_map, AllByRecursion}
use Rattle.std.proofs.lemmas.Grind.{flat_map-append}
use Rattle.pgw_wire.specs.Cell.{Cell}
use Rattle.pgw_wire.specs.Outside.{SinkState, settled, settled_after, Wrote, Settled, WroteFront}
use lib.Dec.{eqb}
use Rattle.pgw_wire.proofs.Adding.{appends_then, wrote_then}
use Rattle.pgw_wire.proofs.Taking.{goes_on_then}
use Rattle.pgw_copy.specs.Format.{IsHeader, IsRow, canonical_header}
use Rattle.pgw_copy.specs.Reader.{bad_header as fixed_bad_header, bad_flags as fixed_bad_flags, truncated as cut_off, read_fault as cut_unread, HeaderError, refused_header, cut_header}
use Rattle.pgw_copy.specs.declared.fault.CopyReadError.{CopyReadError}
use Rattle.pgw_meta.specs.Shape.{Shape}
use Rattle.pgw_cell.specs.Value.{Value}
use Rattle.pgw_tree.specs.Spells.{SpellsRow}
use Rattle.pgw_tree.specs.Canonical.{FitsRow, canonical_row, canonical_front}
use Rattle.pgw_tree.specs.Stream.{AreRows, IsFront, IsWithin}
use Rattle.pgw_tree.specs.Limits.{Limits}
use Rattle.pgw_tree.specs.ReadErrors.{fault_of}
use Rattle.pgw_tree.specs.Causes.{WroteBehind, HeaderCause, bad_header, bad_flags, truncated_header, read_fault_in_header}
use Rattle.pgw_tree.specs.Copying.{IsValuesRow, IsCopying}
use Rattle.pgw_meta.specs.Known.{Known}

pub rows_more : (ts : List Shape) (body x : List ℕ) (rows : List (List Value)) (cells : List Cell) (vs : List Value) → AreRows ts body rows → IsRow cells x → SpellsRow ts cells vs → AreRows ts (body ++ x) (rows ++ (vs ∷ []))
rows_more ts body x [] cells vs each row spelled = (cells, x, [], row, spelled, refl, ap (λ l. l ++ x) each ∙ sym (append-nil x))
rows_more ts body x (ws ∷ rows) cells vs each row spelled =
    (each.0, each.1, each.2 ++ x, each.3, each.4, rows_more ts each.2 x rows cells vs each.5 row spelled, ap (λ l. l ++ x) each.6 ∙ append_assoc each.1 each.2 x)

pub front_more : (most : ℕ) (ts : List Shape) (front x : List ℕ) (rows : List (List Value)) (vs : List Value) → IsFront ts front rows → IsValuesRow most ts x vs → IsFront ts (front ++ x) (rows ++ (vs ∷ []))
front_more most ts front x rows vs f r = record {
  header = f.header;
  body = f.body ++ x;
  begins = f.begins;
  each = rows_more ts f.body x rows r.cells vs f.each r.is r.spelled;
  is = ap (λ l. l ++ x) f.is ∙ append_assoc f.header f.body x;
}

pub all_more : {A : Type 0} (P : A → Type 0) (xs : List A) (x : A) → AllByRecursion P xs → P x → AllByRecursion P (xs ++ (x ∷ []))
all_more P [] x h p = (p, tt)
all_more P (y ∷ ys) x h p = (h.0, all_more P ys x h.1 p)

pub within_more : (limits : Limits) (ts : List Shape) (rows : List (List Value)) (vs : List Value) → IsWithin limits ts rows → length rows < limits.rows_max → FitsRow limits.field_max ts vs → IsWithin limits ts (rows ++ (vs ∷ []))
within_more limits ts rows vs w more fit = record {
  few = omega (arith, more, length-append rows (vs ∷ []));
  fit = all_more (FitsRow limits.field_max ts) rows vs w.fit fit;
}

pub canonical_more : (known : Known) (ts : List Shape) (rows : List (List Value)) (vs : List Value) → canonical_front known ts (rows ++ (vs ∷ [])) ≡ canonical_front known ts rows ++ canonical_row known ts vs
canonical_more known ts rows vs =
    ap (λ l. canonical_header ++ l) (flat_map-append (canonical_row known ts) rows (vs ∷ []) ∙ ap (λ l. flat_map (canonical_row known ts) rows ++ l) (append-nil (canonical_row known ts vs)))
    ∙ sym (append_assoc canonical_header (flat_map (canonical_row known ts) rows) (canonical_row known ts vs))

-- a header, and no row yet
pub none_copied : (known : Known) (limits : Limits) (ts : List Shape) (Written : List ℕ → Type 0) (header : List ℕ) → IsHeader header → Written canonical_header → IsCopying known limits ts 0 Written header
none_copied known limits ts Written header h written = record {
  rows = [];
  begins = record { header = header; body = []; begins = h; each = refl; is = sym (append-nil header) };
  within = record { few = omega arith; fit = tt };
  many = refl;
  written = subst Written (sym (append-nil canonical_header)) written;
}

-- what an error of the reader's header says
pub header_says : (e : CopyReadError) (bytes : List ℕ) → HeaderError e bytes → HeaderCause (fault_of e) bytes
header_says e bytes (refused_header (fixed_bad_header is bad)) = bad_header (ap fault_of is) bad
header_says e bytes (refused_header (fixed_bad_flags flags is high)) = bad_flags flags (ap fault_of is) high
header_says e bytes (cut_header (cut_off is cut)) = truncated_header (ap fault_of is) cut
header_says e bytes (cut_header (cut_unread is cut)) = read_fault_in_header (ap fault_of is) cut

-- Whether a sink tells that it is settled, a write leaves.
pub told_after : (n : ℕ) (s : Option Bool) → option_map {U = Bool} (λ _. true) (settled_after n s) ≡ option_map (λ _. true) s
told_after n s = by_test (eqb n 0)
  where
    by_option : (o : Option Bool) → option_map {U = Bool} (λ _. true) (option_map {T = Bool} {U = Bool} (λ _. false) o) ≡ option_map (λ _. true) o
    by_option None = refl
    by_option (Some b) = refl

    by_test : (t : Bool) → option_map {U = Bool} (λ _. true) (cond t s (option_map (λ _. false) s)) ≡ option_map (λ _. true) s
    by_test true = refl
    by_test false = by_option s

-- What was written, and then the end, which was settled.
pub settled_then : {O : Type 0} {a b c : SinkState O} {x y : List ℕ} → Wrote a b x → Settled b c y → Settled a c (x ++ y)
settled_then {a = a} {b = b} {c = c} {x = x} {y = y} w v = record {
  appends = appends_then _ _ _ x y w.appends v.appends;
  settles = v.settles ∙ ap (option_map (λ _. true)) w.settles ∙ told_after (length x) (settled a);
  goes_on = goes_on_then a b c w.goes_on v.goes_on;
}

-- what was written of the end, or all of it
pub behind_written : {O : Type 0} {a b c : SinkState O} {x next : List ℕ} → Wrote a b x → WroteFront (Wrote b c) next ⊎ Wrote b c next → WroteBehind (Wrote a c) x next ⊎ Wrote a c (x ++ next)
behind_written w (inl f) = inl (record { front = f.front; rest = f.rest; is = f.is; missing = f.missing; written = wrote_then w f.written })
behind_written w (inr v) = inr (wrote_then w v)
