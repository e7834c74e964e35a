use Rattle.std.proofs.Common.{◌≡◌, ◌++◌, map, string_bytes, drop}
use Rattle.std.specs.List.{filter_map}
use Rattle.pgw_meta.specs.Types.{column_shapes, types_of}
use Rattle.pgcopy.specs.Words.{type_of}
use Rattle.pgcopy.proofs.words.known_types.Given as goal

-- the types so far and those of what is left are those of all
abbrev pub invariant-loop-word : goal.invariant-loop-word
invariant-loop-word l = column_shapes (types_of l.columns) ++ filter_map type_of (map string_bytes (drop l.word-index l.words)) ≡ filter_map type_of (map string_bytes l.words)
