use Rattle.std.proofs.Common.{◌≡◌, ◌<◌, ◌^◌, ◌++◌, ℕ, false, List, length, Some, MatchResult, Result, Ok, Err, Bor}
use Rattle.std.specs.Int.{to_be_bytes, w32}
use Rattle.pgw_wire.specs.Cell.{frame}
use Rattle.pgw_wire.specs.declared.sql_error.SqlError.{SqlError}
use Rattle.pgw_nested.specs.Frames.{HasNoFrame, HasNoPiece}
use Rattle.pgw_nested.proofs.Cut.{no_piece, piece_framed}
use Rattle.pgw_nested.proofs.cuts.take_frame.Goals as goal

taken : (n : ℕ) (bytes rest : List ℕ) → bytes ≡ to_be_bytes w32 n ++ rest → n < 2 ^ 32 → (r : Result (Bor (List ℕ) × Bor (List ℕ)) SqlError)
    → MatchResult r (λ x. (n < 2147483648) × (length x.0.now ≡ n) × (rest ≡ x.0.now ++ x.1.now)) (λ e. HasNoPiece n rest e)
    → MatchResult r (λ x. (length x.0.now < 2147483648) × (bytes ≡ frame (Some x.0.now) ++ x.1.now)) (λ e. HasNoFrame false bytes e)
taken n bytes rest is fits (Ok x) h = piece_framed n bytes rest x.0.now x.1.now is h
taken n bytes rest is fits (Err e) h = no_piece false n bytes rest e is fits (λ never. absurd (cc)) h

pub returns : goal.returns
returns c =
    let n = c.in_ok-len in
    taken n.len c.args.bytes.now n.rest.now n.ensures.0 n.ensures.1 c.take_sized.result c.take_sized.ensures
