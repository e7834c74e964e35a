use Rattle.std.proofs.Common.{◌≡◌, [], ◌∷◌, take}
use Rattle.pgw_wire.specs.Memory.{no_calls}
use Rattle.pgcopy.specs.OidWords.{searched_schema}
use Rattle.pgcopy.proofs.catalog.catalog_of.Given as goal

-- The catalog has the entries so far.
abbrev pub invariant-loop-entry : goal.invariant-loop-entry
invariant-loop-entry l = l.catalog ≡ record { entries = take l.entry-index l.entries; path = searched_schema ∷ []; searches = no_calls [] }
