use Rattle.std.proofs.Common.{◌≡◌, ◌/◌, ◌<◌, ℕ, List, length, ap, ◌∙◌, arith, subst}
use Rattle.std.specs.List.{AllByRecursion}
use Rattle.std.specs.Simd.{first_chunks}
use Rattle.std.proofs.lemmas.List.{take_all}
use Rattle.std.proofs.Math.Nat.{mul-div_cancel}
use Rattle.pgw_cell.specs.Equal.{length_word}
use Rattle.pgw_cell.proofs.EqualElements.{equal_fields}
use Rattle.pgw_cell.proofs.equal_elements.behind_equal.Goals as goal

pub returns-then-most-eq0 : goal.returns-then-most-eq0
returns-then-most-eq0 g c =
    let size = c.args.size in
    let n = g.row.N in
    let fields = c.in_ok-fields.fields.now in
    let chunks = c.as_chunks.result.0.now in
    let some : 0 < n = omega (arith, c.requires.size) in
    let long = c.in_ok-fields.ensures.piece.1 in
    let many : length fields / n ≡ c.args.count = ap (λ k. k / n) long ∙ mul-div_cancel c.args.count some in
    equal_fields size n c.args.count c.args.bytes.now fields c.in_ok-fields.rest.now c.requires.size (λ i. omega (arith, c.type_inv.bytes i)) c.in_ok-fields.ensures.piece.0 long
    (subst (λ (k : ℕ). AllByRecursion (λ f. length_word f ≡ size) (first_chunks n k fields)) many
    (subst (λ (fs : List (List ℕ)). AllByRecursion (λ f. length_word f ≡ size) fs) (take_all c.loop-element.element-index chunks c.loop-element-test.false ∙ c.as_chunks.ensures.front) (c.loop-element.invariant c.if-most-eq0.true)))
