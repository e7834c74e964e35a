-- A call that failed kept the bytes, so the next call begins with those that were there before.
use Rattle.std.proofs.Common.{ℕ, List, Option, None, Some, sym, ◌∙◌}
use Rattle.std.specs.Io.KnownBytes.{Consumes, Keeps}

pub keeps_then : (a b c : Option (List ℕ)) → Keeps a b → Keeps b c → Keeps a c
keeps_then None b c h k = tt
keeps_then (Some old) None c h k = absurd h
keeps_then (Some old) (Some mid) None h k = absurd k
keeps_then (Some old) (Some mid) (Some new) h k = k ∙ h

pub consumes_behind_kept : (a b c : Option (List ℕ)) (bytes : List ℕ) → Keeps a b → Consumes b c bytes → Consumes a c bytes
consumes_behind_kept None b c bytes h k = tt
consumes_behind_kept (Some old) None c bytes h k = absurd h
consumes_behind_kept (Some old) (Some mid) None bytes h k = absurd k
consumes_behind_kept (Some old) (Some mid) (Some new) bytes h k = sym h ∙ k
