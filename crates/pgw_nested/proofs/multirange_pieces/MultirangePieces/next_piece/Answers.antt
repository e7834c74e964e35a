use Rattle.std.proofs.Common.{◌≡◌, ◌<◌, ℕ, refl, arith}
use Rattle.pgw_wire.proofs.Taking.{exit}
use Rattle.pgw_nested.proofs.multirange_pieces.MultirangePieces.next_piece.Goals as goal

positive : (n : ℕ) → (n ≡ 0 → ⊥) → 0 < n
positive n some = omega arith

pub returns-in_err-piece : goal.returns-in_err-piece
returns-in_err-piece c =
    rw (exit c.from_residual.result _ c.from_residual.ensures.1) (positive c.args.self.now.left c.if-self-eq0.false, c.in_err-piece.ensures, refl)
