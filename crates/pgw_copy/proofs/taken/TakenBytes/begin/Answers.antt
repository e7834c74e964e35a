use Rattle.std.proofs.Common.{◌≤◌, [], vec_len, ◌∙◌, ap, length, arith}
use Rattle.pgw_copy.proofs.Buffers.{take_two}
use Rattle.pgw_copy.proofs.taken.TakenBytes.begin.Goals as goal

pub returns : goal.returns
returns c =
    let is = c.copy_from_slice.ensures.after ∙ c.to_be_bytes.ensures in
    let room : 2 ≤ vec_len c.make_room.new.bytes = omega (arith, c.in_ok-make_room.ensures.ok) in
    record { ok = take_two 2 (vec_len c.make_room.new.bytes) [] c.copy_from_slice.new.self _ _ (omega (arith, ap length is)) room ∙ is }
