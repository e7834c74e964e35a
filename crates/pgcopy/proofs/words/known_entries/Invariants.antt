use Rattle.std.proofs.Common.{◌≡◌, ◌++◌, map, string_bytes, drop}
use Rattle.std.specs.List.{filter_map}
use Rattle.pgcopy.specs.Words.{entry_of}
use Rattle.pgcopy.proofs.words.known_entries.Given as goal

-- the entries so far and those of what is left are those of all
abbrev pub invariant-loop-word : goal.invariant-loop-word
invariant-loop-word l = l.entries ++ filter_map entry_of (map string_bytes (drop l.word-index l.words)) ≡ filter_map entry_of (map string_bytes l.words)
