use Rattle.std.proofs.Common.{◌∙◌, ap, Ok, sym, refl}
use Rattle.std.proofs.lemmas.Result.{err_from_is_err_and}
use Rattle.pgw_cell.specs.Value.{string}
use Rattle.pgw_cell.specs.Spellings.{read_as}
use Rattle.pgw_cell.proofs.ReadCells.{text_read, text_refused}
use Rattle.pgw_cell.proofs.read.read_text.Goals as goal

pub returns-in_err-from_str-in-Ok : goal.returns-in_err-from_str-in-Ok
returns-in_err-from_str-in-Ok c =
    let p = err_from_is_err_and c.from_residual.result c.from_residual.ensures.1 in
    rw (p.1, p.2) (string c.args.piece.now, ap (read_as string) (text_read c.args.piece.now c.in-Ok.ensures.cases.1), refl)

pub returns-in_ok-from_str-in-Ok : goal.returns-in_ok-from_str-in-Ok
returns-in_ok-from_str-in-Ok c =
    ap (read_as string) (text_read c.args.piece.now c.in-Ok.ensures.cases.1)
    ∙ ap (λ s. Ok (string s)) (sym c.in-Ok.ensures.cases.0 ∙ sym c.in_ok-from_str-in-Ok.ensures)

pub returns-in-Err : goal.returns-in-Err
returns-in-Err c = ap (read_as string) (text_refused c.args.piece.now c.in-Err.ensures.cases.0)
