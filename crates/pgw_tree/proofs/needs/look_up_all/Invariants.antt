use Rattle.std.proofs.Common.{◌≡◌, ◌≤◌, [], Some, take, drop}
use Rattle.pgw_meta.specs.Known.{Known, known}
use Rattle.pgw_meta.specs.Needs.{needed_keys}
use Rattle.pgw_tree.specs.Lookups.{AreFound, first_unmet}
use Rattle.pgw_tree.proofs.needs.look_up_all.Given as goal

-- The needs so far were found, so that the first one that is not met is among the others.
abbrev pub invariant-loop-need : goal.invariant-loop-need
invariant-loop-need g l =
    let before = g.L.PgMetadataLookup.state l.fn.lookup in
    let now = g.L.PgMetadataLookup.state l.lookup in
    let needs = needed_keys l.needs in
    record {
      found : AreFound (known before) (take l.need-index needs) l.oids;
      first : (k : Known) → known before ≡ Some k → first_unmet k (drop l.need-index needs) ≡ first_unmet k needs;
      told : now.told ≡ before.told;
      faults : before.fault_count ≤ now.fault_count;
      none : needs ≡ [] → (l.oids ≡ []) × (l.lookup ≡ l.fn.lookup);
    }
