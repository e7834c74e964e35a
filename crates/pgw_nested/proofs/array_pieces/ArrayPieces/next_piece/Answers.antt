use Rattle.std.proofs.Common.{◌≡◌, ◌<◌, ℕ, refl, arith}
use Rattle.pgw_wire.proofs.Taking.{exit}
use Rattle.pgw_nested.proofs.array_pieces.ArrayPieces.next_piece.Goals as goal

positive : (n : ℕ) → (n ≡ 0 → ⊥) → 0 < n
positive n some = omega arith

pub returns-in_err-cell : goal.returns-in_err-cell
returns-in_err-cell c =
    rw (exit c.from_residual.result _ c.from_residual.ensures.1) (positive c.args.self.now.left c.if-self-eq0.false, c.in_err-cell.ensures, refl)
