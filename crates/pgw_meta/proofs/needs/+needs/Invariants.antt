use Rattle.std.proofs.Common.{◌≡◌, drop}
use Rattle.pgw_meta.specs.Types.{shapes}
use Rattle.pgw_meta.specs.Needs.{needed_keys, with_needs, components_needs}
use Rattle.pgw_meta.proofs.needs.+needs.Given as goal

-- The needs so far with those of the components that are left are the first needs with those of all.
abbrev pub invariant-add_components_needs-loop-component : goal.invariant-add_components_needs-loop-component
invariant-add_components_needs-loop-component l =
    with_needs (needed_keys l.needs) (components_needs (shapes (drop l.component-index l.components)))
    ≡ with_needs (needed_keys l.fn.needs) (components_needs (shapes l.components))
