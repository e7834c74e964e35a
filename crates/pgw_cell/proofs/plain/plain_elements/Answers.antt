use Rattle.std.proofs.Common.{arith}
use Rattle.pgw_meta.specs.Types.{shape}
use Rattle.pgw_cell.proofs.PlainFields.{elements_passed, kept_so}
use Rattle.pgw_cell.proofs.plain.plain_elements.Goals as goal
use Rattle.pgw_cell.proofs.plain.plain_elements.Goals.{else-null-via-then-null+else-flags-eq0, else-null-via-else-null}

pub returns : goal.returns
returns c =
    let t = shape c.args.t.now in
    elements_passed t c.args.piece.now c.in_ok-flags.elements.now c.in_ok-null.rest.now c.in_ok-flags.flags c.in_ok-flags.count c.in_ok-null.null
    c.in_ok-flags.ensures (omega (arith, c.if-count-gt2147483647.false))
    (kept_so t c.rule_of.result c.is_nullable.result c.in_ok-flags.count c.in_ok-flags.elements.now c.in_ok-null.rest.now c.in_ok-null.null c.rule_of.ensures c.is_nullable.ensures c.in_ok-null.ensures)
    (elim c.else-null.branch [
      | else-null-via-then-null+else-flags-eq0 w ↦ λ null_there none. w.if-flags-eq0.false none
      | else-null-via-else-null w ↦ λ null_there none. absurd (cc)
    ])
