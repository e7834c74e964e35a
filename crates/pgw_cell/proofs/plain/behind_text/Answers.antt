use Rattle.std.proofs.Common.{◌∙◌, sym}
use Rattle.std.proofs.lemmas.Str.{IsUtf8-from_is_utf8}
use Rattle.pgw_cell.proofs.plain.behind_text.Goals as goal

pub returns-then-is_text : goal.returns-then-is_text
returns-then-is_text c = record {
  piece = c.in_ok-piece.piece.now;
  passes = IsUtf8-from_is_utf8 c.in_ok-piece.piece.now (sym c.is_text.ensures ∙ c.if-is_text.true);
  fits = c.in_ok-piece.ensures.fits;
  is = c.in_ok-piece.ensures.field;
}
