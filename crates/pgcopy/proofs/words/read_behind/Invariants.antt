use Rattle.std.proofs.Common.{◌≡◌, [], ◌∷◌, codes, map, string_bytes, take, drop}
use Rattle.pgcopy.specs.Words.{first_fault}
use Rattle.pgcopy.specs.WordsRead.{AreRead}
use Rattle.pgcopy.proofs.words.read_behind.Given as goal

-- the first fault behind what was read is that of all
abbrev pub invariant-loop-k : goal.invariant-loop-k
invariant-loop-k l = record {
  left : first_fault (codes "copy" ∷ map string_bytes (take l.k l.words)) (map string_bytes (drop l.k l.words)) ≡ first_fault (codes "copy" ∷ []) (map string_bytes l.words);
  seen : AreRead l.seen (map string_bytes (take l.k l.words));
}
