use Rattle.std.proofs.Common.{◌≡◌}
use Rattle.std.specs.Io.KnownBytes.{Keeps}
use Rattle.pgcopy.proofs.lent.LentWriterWrite.flush.Given as goal

-- a flush that was interrupted kept the bytes
abbrev pub invariant-loop : goal.invariant-loop
invariant-loop g l = (l.self.passed ≡ l.initial.self.passed) × (l.self.inner.ghost_name ≡ l.initial.self.inner.ghost_name)
    × Keeps (g.W.Write.contents l.initial.self.inner.now) (g.W.Write.contents l.self.inner.now)
