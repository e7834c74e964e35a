-- The types that are built so far: the scalar types, ranges and multiranges over those that PostgreSQL has ranges over,
-- and nullable, array and named types over one that is built.
use Rattle.std.specs.Prelude.{⊤, IsTrue}
use Rattle.pgw_meta.specs.Schema.{has_ranges}
use Rattle.pgw_meta.specs.Shape.{Shape, scalar, nullable, array, range, multirange, named}

abbrev pub IsBuilt : Shape → Type 0
IsBuilt (scalar s) = ⊤
IsBuilt (nullable t) = IsBuilt t
IsBuilt (array t) = IsBuilt t
IsBuilt (range t) = IsTrue (has_ranges t)
IsBuilt (multirange t) = IsTrue (has_ranges t)
IsBuilt (named k t) = IsBuilt t
IsBuilt _ = ⊥
