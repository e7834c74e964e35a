use Rattle.std.proofs.Common.{◌≡◌, ◌≤◌, ◌<◌, ◌+◌, ℕ, List, ◌++◌, length, take, Some}
use Rattle.pgw_wire.specs.Output.{IsSameOutput}
use Rattle.pgw_meta.specs.Known.{Known, known}
use Rattle.pgw_nested.specs.Writing.{IsFront}
use Rattle.pgw_nested.proofs.array_writing.write_elements.Given as goal

-- Behind the bytes that stood there come the beginning of the array and the elements so far.
abbrev pub invariant-items : goal.invariant-items
invariant-items g l = record {
  same : IsSameOutput l.fn.out l.out;
  told : (g.L.PgMetadataLookup.state l.out.lookup.now).told ≡ (g.L.PgMetadataLookup.state l.fn.out.lookup.now).told;
  faults : (g.L.PgMetadataLookup.state l.fn.out.lookup.now).fault_count ≤ (g.L.PgMetadataLookup.state l.out.lookup.now).fault_count;
  place : l.out.start + l.mark.place ≡ length l.fn.out.out.now.bytes + 4;
  few : length l.items < 2147483648;
  wrote : (bytes : List ℕ) × (l.out.out.now.bytes ≡ l.fn.out.out.now.bytes ++ bytes) × (20 ≤ length bytes)
      × ((k : Known) → known (g.L.PgMetadataLookup.state l.fn.out.lookup.now) ≡ Some k → IsFront (g.T.ToSql.writes k) (take l.item-index l.items) l.oid (length l.items) bytes);
}
