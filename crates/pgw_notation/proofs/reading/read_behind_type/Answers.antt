use Rattle.std.proofs.Common.{ap, ◌∙◌, arith}
use Rattle.std.specs.Vec.{vec_len}
use Rattle.pgw_meta.specs.Types.{shape}
use Rattle.pgw_notation.specs.Reading.{in_mode, behind_type, read_token}
use Rattle.pgw_notation.specs.Views.{token_of, frames_of}
use Rattle.pgw_notation.proofs.Kept.{comma_kept}
use Rattle.pgw_notation.proofs.reading.read_behind_type.Goals as goal

pub returns-in_ok-push-in-Comma : goal.returns-in_ok-push-in-Comma
returns-in_ok-push-in-Comma c =
    let records = c.args.open.now.items in
    let len = c.args.open.now.ok.0 in
    let last = c.in-Some.ensures.item in
    ap (λ t. read_token c.args.place (in_mode (frames_of records) (behind_type c.args.suffixes (shape c.args.t))) (token_of t)) c.in-Comma.is
    ∙ comma_kept c.args.place c.args.suffixes (vec_len c.args.open.now) records c.in-Some.record.now c.push.new.self c.args.t (omega (arith, len)) last.3.0 last.1 c.in_ok-push-in-Comma.ensures.ok
