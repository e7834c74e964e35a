use Rattle.std.proofs.Common.{◌≡◌, map, string_bytes, drop, is_some}
use Rattle.std.specs.List.{filter_map}
use Rattle.pgw_meta.specs.NamedOids.{known_of}
use Rattle.pgw_meta.specs.Catalog.{in_schema}
use Rattle.pgcopy.specs.Words.{entry_of}
use Rattle.pgcopy.proofs.words.is_given.Given as goal

-- The words that are left give oids to the type where all do.
abbrev pub invariant-loop-word : goal.invariant-loop-word
invariant-loop-word l =
    is_some (known_of (filter_map entry_of (map string_bytes (drop l.word-index l.words))) (in_schema l.schema l.name))
    ≡ is_some (known_of (filter_map entry_of (map string_bytes l.words)) (in_schema l.schema l.name))
