use Rattle.pgw_meta.specs.Keys.{key_of}
use Rattle.pgw_meta.specs.NeedPlaces.{IsNewKey}
use Rattle.pgw_meta.proofs.needs.place_of.Given as goal

-- None of the needs so far has the key.
abbrev pub invariant-loop-place : goal.invariant-loop-place
invariant-loop-place l = IsNewKey l.needs (key_of l.key) l.place
