use Rattle.std.proofs.Common.{◌≡◌, drop}
use Rattle.pgw_meta.specs.Types.{shapes}
use Rattle.pgw_meta.specs.Walk.{parts_fault}
use Rattle.pgw_meta.proofs.schema.+check.Given as goal

-- The first fault of the parts that are left is that of all.
abbrev pub invariant-check_parts-loop-part : goal.invariant-check_parts-loop-part
invariant-check_parts-loop-part l =
    parts_fault l.column l.depth (shapes (drop l.part-index l.parts)) ≡ parts_fault l.column l.depth (shapes l.parts)
