use Rattle.std.proofs.Common.{◌≡◌, ◌<◌, inr, ℕ, arith}
use Rattle.pgw_wire.proofs.Taking.{exit}
use Rattle.pgw_record.proofs.record_pieces.RecordPieces.next_piece.Goals as goal

positive : (n : ℕ) → (n ≡ 0 → ⊥) → 0 < n
positive n some = omega arith

pub returns-in_err-piece : goal.returns-in_err-piece
returns-in_err-piece c =
    rw (exit c.from_residual-in_err-piece.result _ c.from_residual-in_err-piece.ensures.1)
    (inr (positive c.args.self.now.left c.if-self-eq0.false, c.in_err-piece.ensures.err), c.in_err-piece.ensures.kept)
