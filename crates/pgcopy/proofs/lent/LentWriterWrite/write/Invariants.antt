use Rattle.std.proofs.Common.{◌≡◌, ◌+◌, ◌<◌, length}
use Rattle.std.specs.Prelude.{◌^◌}
use Rattle.std.specs.Io.KnownBytes.{Keeps}
use Rattle.pgcopy.proofs.lent.LentWriterWrite.write.Given as goal

-- a write that was interrupted appended nothing
abbrev pub invariant-loop : goal.invariant-loop
invariant-loop g l = (l.self.passed ≡ l.initial.self.passed) × (l.self.inner.ghost_name ≡ l.initial.self.inner.ghost_name)
    × (l.self.passed + length l.buf < 2 ^ 64)
    × Keeps (g.W.Write.contents l.initial.self.inner.now) (g.W.Write.contents l.self.inner.now)
