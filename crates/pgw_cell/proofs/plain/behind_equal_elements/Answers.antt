use Rattle.std.proofs.Common.{sym, subst, arith}
use Rattle.pgw_cell.specs.Plain.{Passes}
use Rattle.pgw_cell.specs.declared.plain.Rule.{Rule}
use Rattle.pgw_cell.proofs.EqualElements.{equal_passed}
use Rattle.pgw_cell.proofs.plain.behind_equal_elements.Goals as goal

pub returns-in-One : goal.returns-in-One
returns-in-One c = equal_passed c.args.element 1 c.args.count c.args.bytes.now c.behind_equal.result (λ p long. subst (λ (r : Rule). Passes r p) (sym c.in-One.is) long) (omega arith) c.behind_equal.ensures

pub returns-in-Two : goal.returns-in-Two
returns-in-Two c = equal_passed c.args.element 2 c.args.count c.args.bytes.now c.behind_equal-in-Two.result (λ p long. subst (λ (r : Rule). Passes r p) (sym c.in-Two.is) long) (omega arith) c.behind_equal-in-Two.ensures

pub returns-in-Four : goal.returns-in-Four
returns-in-Four c = equal_passed c.args.element 4 c.args.count c.args.bytes.now c.behind_equal-in-Four.result (λ p long. subst (λ (r : Rule). Passes r p) (sym c.in-Four.is) long) (omega arith) c.behind_equal-in-Four.ensures

pub returns-in-Six : goal.returns-in-Six
returns-in-Six c = equal_passed c.args.element 6 c.args.count c.args.bytes.now c.behind_equal-in-Six.result (λ p long. subst (λ (r : Rule). Passes r p) (sym c.in-Six.is) long) (omega arith) c.behind_equal-in-Six.ensures

pub returns-in-Eight : goal.returns-in-Eight
returns-in-Eight c = equal_passed c.args.element 8 c.args.count c.args.bytes.now c.behind_equal-in-Eight.result (λ p long. subst (λ (r : Rule). Passes r p) (sym c.in-Eight.is) long) (omega arith) c.behind_equal-in-Eight.ensures

pub returns-in-Sixteen : goal.returns-in-Sixteen
returns-in-Sixteen c = equal_passed c.args.element 16 c.args.count c.args.bytes.now c.behind_equal-in-Sixteen.result (λ p long. subst (λ (r : Rule). Passes r p) (sym c.in-Sixteen.is) long) (omega arith) c.behind_equal-in-Sixteen.ensures
