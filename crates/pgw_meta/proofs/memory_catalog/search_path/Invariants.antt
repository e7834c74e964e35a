use Rattle.std.proofs.Common.{◌≡◌, drop}
use Rattle.pgw_meta.specs.Catalog.{on_path}
use Rattle.pgw_meta.proofs.memory_catalog.search_path.Given as goal

-- What is left of the path has of the name what the whole path has.
abbrev pub invariant-loop-schema : goal.invariant-loop-schema
invariant-loop-schema l = on_path l.entries (drop l.schema-index l.path) l.name ≡ on_path l.entries l.path l.name
