use Rattle.std.proofs.Common.{◌≡◌, drop}
use Rattle.pgw_meta.specs.Keys.{key_of}
use Rattle.pgw_meta.specs.NamedOids.{known_of}
use Rattle.pgw_meta.proofs.found_oids.first_oids.Given as goal

-- What is left tells of the key what the whole list does.
abbrev pub invariant-loop-entry : goal.invariant-loop-entry
invariant-loop-entry l = known_of (drop l.entry-index l.entries) (key_of l.key) ≡ known_of l.entries (key_of l.key)
