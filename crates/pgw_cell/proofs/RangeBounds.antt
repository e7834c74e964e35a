-- What the bounds of a range are written as, by what its reader gives.
use Rattle.std.proofs.Common.{◌≡◌, ℕ, Bool, true, false, cond, List, [], ◌∷◌, Option, option_map, None, Some, is_some, IsTrue, Result, Ok, Err, refl, sym, ap, subst, ◌∙◌}
use Rattle.std.specs.declared.ops.Bound.{Bound}
use Rattle.pgw_wire.specs.declared.kind.Break.{Break}
use Rattle.pgw_wire.specs.declared.kind.Break.TheVariants.{Size}
use Rattle.pgw_wire.specs.declared.sql_error.SqlError.{SqlError}
use Rattle.pgw_wire.specs.declared.sql_error.SqlError.TheVariants.{ShortBuffer}
use Rattle.pgw_meta.specs.Shape.{Shape}
use Rattle.pgw_nested.specs.Array.{kind_named}
use Rattle.pgw_nested.specs.Reading.{◌>>=◌, named}
use Rattle.pgw_nested.specs.Flags.{has, empty}
use Rattle.pgw_nested.specs.Range.{Bounds, HasUpper, no_value}
use Rattle.pgw_nested.specs.RangePieces.{bound_of, Coming, first_under, BeginsRange, IsNextBound, HasNoBound, GivesBound}
use Rattle.pgw_nested.specs.RangeReading.{upper_at, read_bound, read_range_by, read_range}
use Rattle.pgw_nested.specs.declared.range_pieces.BoundPiece.{BoundPiece}
use Rattle.pgw_nested.specs.declared.range_pieces.Next.{Next}
use Rattle.pgw_nested.specs.declared.range_pieces.Next.TheVariants.{Lower, Upper, Nothing}
use Rattle.pgw_nested.proofs.Exact.{ok_is}
use Rattle.pgw_nested.proofs.RangeFields.{lower_again, no_lower_again, upper_again, no_upper_again}
use Rattle.pgw_nested.proofs.Bounds.{LowerGiven}
use Rattle.pgw_cell.specs.Value.{Value}
use Rattle.pgw_cell.specs.Nulls.{read_by}
use Rattle.pgw_cell.specs.Ranges.{bound_cells, default_of, part_spelling, bounds_over}
use Rattle.pgw_cell.specs.Written.{bytes_of, default_answer, default_bytes, answer_by, range_read}
use Rattle.pgw_cell.specs.declared.piece.Canonical.{Canonical}

-- what an answer says of what was read
pub answer_ok : {A B : Type 0} (f : A → B) (r : Result A Break) (y : B) → answer_by f r ≡ Ok y → (x : A) × (r ≡ Ok x) × (y ≡ f x)
answer_ok f (Ok x) y e = (x, refl, sym (ok_is {E = Break} (f x) y e))
answer_ok f (Err k) y e = absurd cc

pub answer_err : {A B : Type 0} (f : A → B) (r : Result A Break) (kind : Break) → answer_by f r ≡ Err kind → r ≡ Err kind
answer_err f (Ok x) kind e = absurd cc
answer_err f (Err k) kind e = let same : k ≡ kind = cc in ap Err same

-- ---- the default

-- A type has ranges over it, and its default is written so.
pub record HasDefault (t : Shape) (w : Canonical) : Type 0 where
  pub default : Value
  pub is : default_of t ≡ Some default
  pub bytes : bytes_of w ≡ (part_spelling t).canonical default

pub default_is : (t : Shape) (w : Canonical) → default_answer (Some w) ≡ default_bytes t → HasDefault t w
default_is t w e = by (default_of t) refl
  where
    by : (o : Option Value) → default_of t ≡ o → HasDefault t w
    by None is = let none = e ∙ ap (λ (o : Option Value). option_map (part_spelling t).canonical o) is in absurd cc
    by (Some d) is = let some = e ∙ ap (λ (o : Option Value). option_map (part_spelling t).canonical o) is in record { default = d; is = is; bytes = cc }

pub default_some : (t : Shape) (w : Canonical) → HasDefault t w → IsTrue (is_some (default_of t))
default_some t w h = rw h.is refl

pub no_default : (t : Shape) (p : List ℕ) → default_answer None ≡ default_bytes t → Err Size ≡ range_read t p
no_default t p e = by (default_of t) refl
  where
    by : (o : Option Value) → default_of t ≡ o → Err Size ≡ range_read t p
    by None is = sym (ap (λ (o : Option Value). answer_by (bound_cells (part_spelling t).canonical) (bounds_over (part_spelling t) o p)) is)
    by (Some d) is = let some = e ∙ ap (λ (o : Option Value). option_map (part_spelling t).canonical o) is in absurd cc

-- ---- which bound comes

not_upper : (flags : ℕ) → Upper ≡ first_under flags → ⊥
not_upper flags e = cases (has flags empty) e
  where
    cases : (b : Bool) → Upper ≡ cond {A = Next} b Nothing Lower → ⊥
    cases true h = absurd cc
    cases false h = absurd cc

when_nothing : (flags : ℕ) → Nothing ≡ first_under flags → has flags empty ≡ true
when_nothing flags e = cases (has flags empty) refl e
  where
    cases : (b : Bool) → has flags empty ≡ b → Nothing ≡ cond {A = Next} b Nothing Lower → has flags empty ≡ true
    cases true b h = b
    cases false b h = absurd cc

when_lower : (flags : ℕ) → Lower ≡ first_under flags → has flags empty ≡ false
when_lower flags e = cases (has flags empty) refl e
  where
    cases : (b : Bool) → has flags empty ≡ b → Lower ≡ cond {A = Next} b Nothing Lower → has flags empty ≡ false
    cases true b h = absurd cc
    cases false b h = b

-- Behind the lower bound comes the upper.
pub upper_comes : (bytes : List ℕ) (before now : Coming) (r : Option BoundPiece) (b : BoundPiece) → r ≡ Some b → BeginsRange bytes before → GivesBound before (Ok r) now → now.next ≡ Upper
upper_comes bytes before now r b is begins given =
    cases before.next begins.first (subst (λ (x : Option BoundPiece). GivesBound before (Ok x) now) is given)
  where
    cases : (n : Next) → n ≡ first_under before.flags → IsNextBound n (bound_of b) before now → now.next ≡ Upper
    cases Lower first g = g.2
    cases Upper first g = absurd (not_upper before.flags first)
    cases Nothing first g = absurd g

-- So it is given, or nothing is that stands there.
pub upper_given : (before now : Coming) (r : Option BoundPiece) (b : BoundPiece) → r ≡ Some b → before.next ≡ Upper → GivesBound before (Ok r) now → HasUpper before.flags before.rest (bound_of b)
upper_given before now r b is next given =
    (subst (λ (n : Next). IsNextBound n (bound_of b) before now) next (subst (λ (x : Option BoundPiece). GivesBound before (Ok x) now) is given)).0

pub upper_not_missing : (before now : Coming) (r : Option BoundPiece) → r ≡ None → before.next ≡ Upper → GivesBound before (Ok r) now → ⊥
upper_not_missing before now r is next given =
    let none = (subst (λ (x : Option BoundPiece). GivesBound before (Ok x) now) is given).0 in absurd (cc)

-- ---- what is read

module _ (t : Shape) (p : List ℕ) (default : Canonical) (h : HasDefault t default) where
  abbrev value_read : Option (List ℕ) → Result Value Break
  value_read c = read_by false (part_spelling t).read c

  abbrev bounds_read : Result (Bounds Value) Break
  bounds_read = read_range value_read h.default p

  -- as it is answered
  answered : (r : Result (Bounds Value) Break) → bounds_read ≡ r → answer_by (bound_cells (part_spelling t).canonical) r ≡ range_read t p
  answered r e =
      ap (answer_by (bound_cells (part_spelling t).canonical)) (sym e)
      ∙ sym (ap (λ (o : Option Value). answer_by (bound_cells (part_spelling t).canonical) (bounds_over (part_spelling t) o p)) h.is)

  short : p ≡ [] → bounds_read ≡ Err (kind_named ShortBuffer)
  unfolding read_range_by
  short none = ap (read_range value_read h.default) none

  pub no_flags_answered : (e : SqlError) → (p ≡ []) × (e ≡ ShortBuffer) → Err (kind_named e) ≡ range_read t p
  no_flags_answered e n = ap (λ (x : SqlError). Err (kind_named x)) n.1 ∙ answered (Err (kind_named ShortBuffer)) (short n.0)

  whole_read : (flags : ℕ) (rest : List ℕ) → p ≡ flags ∷ rest → has flags empty ≡ true → bounds_read ≡ Ok (no_value h.default)
  unfolding read_range_by
  whole_read flags rest is e = ap (read_range value_read h.default) is ∙ rw e refl

  pub none_answered : (before now : Coming) (r : Option BoundPiece) → r ≡ None → BeginsRange p before → GivesBound before (Ok r) now
      → answer_by (bound_cells (part_spelling t).canonical) (Ok (no_value h.default)) ≡ range_read t p
  none_answered before now r is begins given =
      let next : before.next ≡ Nothing = (subst (λ (x : Option BoundPiece). GivesBound before (Ok x) now) is given).0 in
      answered (Ok (no_value h.default)) (whole_read before.flags before.rest begins.is (when_nothing before.flags (sym next ∙ begins.first)))

  no_lower : (flags : ℕ) (rest : List ℕ) (e : SqlError) → p ≡ flags ∷ rest → has flags empty ≡ false → HasNoBound Lower (record { next = Lower; flags = flags; rest = rest }) e → bounds_read ≡ Err (kind_named e)
  unfolding read_range_by
  no_lower flags rest e is some n = ap (read_range value_read h.default) is ∙ rw (some, no_lower_again flags rest n.0 n.1 n.2) (ap (λ (x : SqlError). Err (kind_named x)) (sym n.3))

  pub lower_not_answered : (before now : Coming) (e : SqlError) → BeginsRange p before → GivesBound before (Err e) now → Err (kind_named e) ≡ range_read t p
  lower_not_answered before now e begins given = answered (Err (kind_named e)) (cases before.next begins.first given.0)
    where
      cases : (n : Next) → n ≡ first_under before.flags → HasNoBound n before e → bounds_read ≡ Err (kind_named e)
      cases Lower first g = no_lower before.flags before.rest e begins.is (when_lower before.flags first) g
      cases Upper first g = absurd (not_upper before.flags first)
      cases Nothing first g = absurd g

  -- Where the lower bound is given, its value is read, and then the upper bound.
  abbrev upper_read : ℕ → List ℕ → Result (Bound Value) Break
  upper_read flags behind = named kind_named (upper_at flags behind) >>= λ u. read_bound value_read u

  with_lower : (lower : Bound (List ℕ)) (flags : ℕ) (behind : List ℕ) → LowerGiven p lower flags behind
      → bounds_read ≡ (read_bound value_read lower >>= λ l. named kind_named (upper_at flags behind) >>= λ u. read_bound value_read u >>= λ v. Ok (l, v))
  unfolding read_range_by
  with_lower lower flags behind l = ap (read_range value_read h.default) l.is ∙ rw (l.some, lower_again flags l.rest lower behind l.lower_is) refl

  pub lower_broken : (lower : Bound (List ℕ)) (flags : ℕ) (behind : List ℕ) (kind : Break) → LowerGiven p lower flags behind → read_bound value_read lower ≡ Err kind → Err kind ≡ range_read t p
  lower_broken lower flags behind kind l e = answered (Err kind) (with_lower lower flags behind l ∙ rw e refl)

  pub upper_not_answered : (lower : Bound (List ℕ)) (v : Bound Value) (before now : Coming) (e : SqlError) → LowerGiven p lower before.flags before.rest → read_bound value_read lower ≡ Ok v
      → before.next ≡ Upper → GivesBound before (Err e) now → Err (kind_named e) ≡ range_read t p
  upper_not_answered lower v before now e l read next given =
      let n = subst (λ (x : Next). HasNoBound x before e) next given.0 in
      answered (Err (kind_named e)) (with_lower lower before.flags before.rest l ∙ rw (read, no_upper_again before.flags before.rest n.0 n.1) (ap (λ (x : SqlError). Err (kind_named x)) (sym n.2)))

  pub upper_broken : (lower upper : Bound (List ℕ)) (v : Bound Value) (flags : ℕ) (behind : List ℕ) (kind : Break) → LowerGiven p lower flags behind → read_bound value_read lower ≡ Ok v
      → HasUpper flags behind upper → read_bound value_read upper ≡ Err kind → Err kind ≡ range_read t p
  upper_broken lower upper v flags behind kind l read u e = answered (Err kind) (with_lower lower flags behind l ∙ rw (read, upper_again flags behind upper u, e) refl)

  pub both_read : (lower upper : Bound (List ℕ)) (v w : Bound Value) (flags : ℕ) (behind : List ℕ) → LowerGiven p lower flags behind → read_bound value_read lower ≡ Ok v
      → HasUpper flags behind upper → read_bound value_read upper ≡ Ok w → answer_by (bound_cells (part_spelling t).canonical) (Ok (v, w)) ≡ range_read t p
  both_read lower upper v w flags behind l read u e = answered (Ok (v, w)) (with_lower lower flags behind l ∙ rw (read, upper_again flags behind upper u, e) refl)
