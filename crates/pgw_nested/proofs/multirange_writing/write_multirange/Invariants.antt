use Rattle.std.proofs.Common.{◌≡◌, ◌≤◌, ◌<◌, ℕ, List, ◌++◌, length, take, Some}
use Rattle.pgw_wire.specs.Output.{IsSameOutput}
use Rattle.pgw_meta.specs.Known.{Known, known}
use Rattle.pgw_nested.specs.RangeWritten.{WritesBoundsOf}
use Rattle.pgw_nested.proofs.RangeWritings.{IsFrontOfRanges}
use Rattle.pgw_nested.proofs.multirange_writing.write_multirange.Given as goal

-- Behind the bytes that stood there come the number of the ranges and those so far.
abbrev pub invariant-each : goal.invariant-each
invariant-each g l = record {
  same : IsSameOutput l.fn.out l.out;
  told : (g.L.PgMetadataLookup.state l.out.lookup.now).told ≡ (g.L.PgMetadataLookup.state l.fn.out.lookup.now).told;
  faults : (g.L.PgMetadataLookup.state l.fn.out.lookup.now).fault_count ≤ (g.L.PgMetadataLookup.state l.out.lookup.now).fault_count;
  few : length l.ranges < 2147483648;
  wrote : (bytes : List ℕ) × (l.out.out.now.bytes ≡ l.fn.out.out.now.bytes ++ bytes)
      × ((k : Known) → known (g.L.PgMetadataLookup.state l.fn.out.lookup.now) ≡ Some k
      → IsFrontOfRanges (WritesBoundsOf g.R.BoundsOf.is_lower g.R.BoundsOf.is_upper g.T.ToSql.writes k) (take l.range-index l.ranges) (length l.ranges) bytes);
}
