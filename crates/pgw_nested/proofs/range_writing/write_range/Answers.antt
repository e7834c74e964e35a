use Rattle.std.proofs.Common.{◌≡◌, ◌++◌, ◌∷◌, List, ℕ, Some, ap, ◌∙◌}
use Rattle.std.specs.Range.Bound.{bound_map}
use Rattle.pgw_meta.specs.Known.{known}
use Rattle.pgw_nested.specs.Range.{lower_flags, upper_flags}
use Rattle.pgw_nested.specs.RangeWritten.{bound_of_kind, flags_of_kinds}
use Rattle.pgw_nested.proofs.RangeWritings.{joined, bounds_wrote}
use Rattle.pgw_nested.proofs.range_writing.write_range.Goals as goal

pub returns-clause-wrote : goal.returns-clause-wrote
returns-clause-wrote g c =
    let a = c.in_default.ensures.wrote in
    let b = c.in_default-write_bound.ensures.wrote in
    let o = c.in_ok-begin_range.ensures in
    let flags = flags_of_kinds c.kind_of.result c.kind_of-2.result in (
      flags ∷ (a.0 ++ b.0),
      b.1 ∙ ap (λ (xs : List ℕ). xs ++ b.0) (a.1 ∙ ap (λ (xs : List ℕ). xs ++ a.0) o.ok) ∙ joined c.args.out.now.out.now.bytes flags a.0 b.0,
      λ k t.
          let begun : known (g.L.PgMetadataLookup.state c.begin_range.new.out.lookup.now) ≡ Some k = ap (λ l. known (g.L.PgMetadataLookup.state l)) o.lookup ∙ t in
          let x = a.2 k begun in
          let y = b.2 k (ap (λ s. s.known) c.in_default.ensures.told ∙ begun) in (
            (x.0, y.0),
            x.1,
            y.1,
            bounds_wrote (g.T.ToSql.writes k) (bound_map (λ v. v.now) c.args.lower, bound_map (λ v. v.now) c.args.upper) (lower_flags (bound_of_kind c.kind_of.result)) (upper_flags (bound_of_kind c.kind_of-2.result)) a.0 b.0 x.0 y.0
                c.kind_of.ensures.lower c.kind_of-2.ensures.upper x.1 x.2 y.1 y.2,
          ),
    )
