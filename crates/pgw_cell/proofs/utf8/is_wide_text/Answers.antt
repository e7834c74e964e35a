use Rattle.std.proofs.Common.{◌∙◌}
use Rattle.pgw_scalar.proofs.TextFields.{text_tested}
use Rattle.pgw_cell.proofs.utf8.is_wide_text.Goals as goal

pub returns : goal.returns
returns c = c.is_ok.ensures.value ∙ text_tested _ _ _ _ c.from_utf8.ensures.cases
