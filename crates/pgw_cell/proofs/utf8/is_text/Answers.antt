use Rattle.std.proofs.Common.{◌∙◌, sym}
use Rattle.std.proofs.lemmas.Str.{IsUtf8-from_ascii, is_utf8-from_IsUtf8}
use Rattle.pgw_scalar.proofs.TextFields.{ascii_tested}
use Rattle.pgw_cell.proofs.utf8.is_text.Goals as goal

pub returns-then-is_ascii : goal.returns-then-is_ascii
returns-then-is_ascii c = c.if-is_ascii.true ∙ sym (is_utf8-from_IsUtf8 c.args.bytes.now (IsUtf8-from_ascii c.args.bytes.now (ascii_tested c.is_ascii.result _ _ c.if-is_ascii.true c.is_ascii.ensures.cases)))
