use Rattle.std.proofs.Common.{arith, rules, ◌≤◌, map, string_bytes, take}
use Rattle.std.proofs.lemmas.List.{length-map, length-take}
use Rattle.pgcopy.proofs.ReadingWords.{types_few}
use Rattle.pgcopy.proofs.words.read_behind.Goals as goal

pub read_word-requires : goal.read_word-requires
read_word-requires c =
    let read = take c.loop-k.k c.args.words.now in
    let few : c.loop-k.seen.types ≤ c.loop-k.k = omega (arith, c.loop-k.invariant.seen.types, types_few (map string_bytes read), length-map read string_bytes, length-take c.loop-k.k c.args.words.now, c.loop-k-test.true) in
    search (rules, few)
