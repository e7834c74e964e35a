use Rattle.std.proofs.Common.{◌≡◌, take}
use Rattle.std.specs.List.{AllByRecursion}
use Rattle.pgw_cell.specs.Equal.{length_word}
use Rattle.pgw_cell.proofs.equal_elements.behind_equal.Given as goal

-- Where no difference was seen, the fields so far begin with the size.
abbrev pub invariant-loop-element : goal.invariant-loop-element
invariant-loop-element g l = l.most ≡ 0 → AllByRecursion (λ f. length_word f ≡ l.size) (take l.element-index l.elements)
