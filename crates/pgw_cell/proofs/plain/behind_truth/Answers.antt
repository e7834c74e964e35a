use Rattle.std.proofs.Common.{◌∙◌, ◌++◌, ap}
use Rattle.std.specs.Int.{to_be_bytes, w32}
use Rattle.pgw_cell.proofs.PlainFields.{truth_passed}
use Rattle.pgw_cell.proofs.plain.behind_truth.Goals as goal

pub returns-in-len1-up : goal.returns-in-len1-up
returns-in-len1-up c =
    truth_passed c.args.most c.args.bytes.now c.in_ok-length.rest.now (c.in_ok-length.ensures.number ∙ ap (λ n. to_be_bytes w32 n ++ c.in_ok-length.rest.now) c.if-length-eq1.true) c.in-len1-up.len_at_least c.if-truth-le1.true c.if-most-ge1.true
