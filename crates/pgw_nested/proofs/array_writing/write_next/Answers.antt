use Rattle.std.proofs.Common.{◌≡◌, ◌≤◌, ◌+◌, ◌++◌, length, refl, ap, ◌∙◌, append_assoc, arith, length-append, None, Some}
use Rattle.std.specs.Int.{to_be_bytes, w32}
use Rattle.pgw_wire.specs.Room.{overwritten}
use Rattle.pgw_nested.proofs.Writings.{overwritten_behind, overwritten_length}
use Rattle.pgw_nested.proofs.array_writing.write_next.Goals as goal

pub returns-in-Yes-clause-wrote : goal.returns-in-Yes-clause-wrote
returns-in-Yes-clause-wrote g c base bytes h l p =
    let a = c.in_ok-write_element.ensures.wrote in
    let one = to_be_bytes w32 1 in
    let place = c.write_element.new.out.start + c.args.mark.now.place in
    let at : place ≡ length base + 4 = ap (λ s. s + c.args.mark.now.place) c.in_ok-write_element.ensures.same.2 ∙ p in
    let long : 8 ≤ length (bytes ++ a.0) = omega (arith, l, length-append bytes a.0) in
    let same : length (overwritten (bytes ++ a.0) 4 one) ≡ length (bytes ++ a.0) = overwritten_length (bytes ++ a.0) one long refl in (
      overwritten (bytes ++ a.0) 4 one,
      c.null_flag.ensures.bytes ∙ ap (λ bs. overwritten bs place one) (a.1 ∙ ap (λ xs. xs ++ a.0) h ∙ append_assoc base bytes a.0) ∙ overwritten_behind base (bytes ++ a.0) one place at refl,
      omega (arith, same, length-append bytes a.0),
      λ k t. let w = rw c.in-Yes.is at (a.2 k t) in (None, w.0, ap (λ b. overwritten (bytes ++ b) 4 one) w.1),
    )

pub returns-in-No-clause-wrote : goal.returns-in-No-clause-wrote
returns-in-No-clause-wrote g c base bytes h l p =
    let a = c.in_ok-write_element.ensures.wrote in (
      bytes ++ a.0,
      a.1 ∙ ap (λ xs. xs ++ a.0) h ∙ append_assoc base bytes a.0,
      omega (arith, length-append bytes a.0),
      λ k t. let w = rw c.in-No.is at (a.2 k t) in (Some w.0, w.1, ap (λ b. bytes ++ b) w.2),
    )
