use Rattle.std.proofs.Common.{◌≡◌, ◌≤◌, ◌++◌, List, ℕ, length, take, drop, ◌+◌, ◌-◌, arith, sym, ap, ◌∙◌, length-take, length-drop, refl}
use Rattle.pgw_wire.proofs.Taking.{took_weaker, exit, takes_first, takes_done}
use Rattle.pgw_copy.proofs.Buffers.{take_two}
use Rattle.pgw_copy.specs.Reader.{IsShort}
use Rattle.pgw_copy.proofs.Reading.{kept_of_cut}
use Rattle.pgw_copy.proofs.taken.TakenBytes.append.Goals as goal

-- how much was to be filled
part : (used next : ℕ) (lent : List ℕ) → used + next ≤ length lent → length (take (used + next - used) (drop used lent)) ≡ next
part used next lent within = omega (arith, within, length-take (used + next - used) (drop used lent), length-drop used lent)

pub returns-in_err-fill-clause-takes : goal.returns-in_err-fill-clause-takes
returns-in_err-fill-clause-takes g c =
    let size = part c.self.inside.used c.args.next c.deref_mut.result.now (omega (arith, c.in_ok-make_room.ensures.ok, ap length c.deref_mut.ensures.value)) in
    takes_first _ _ (exit c.from_residual-in_err-fill.result _ c.from_residual-in_err-fill.ensures.1) (rw size at c.in_err-fill.ensures.takes)
    (λ d bytes. kept_of_cut (IsShort c.args.next) (IsShort c.args.next) (λ _. ⊥) d bytes bytes (λ s. s))

pub returns-clause-takes : goal.returns-clause-takes
returns-clause-takes g c =
    let used = c.self.inside.used in
    let lent = c.deref_mut.result.now in
    let buf = c.fill.new.buf in
    let room : used + c.args.next ≤ length lent = omega (arith, c.in_ok-make_room.ensures.ok, ap length c.deref_mut.ensures.value) in
    let long : length buf ≡ c.args.next = c.fill.auto.buf ∙ part used c.args.next lent room in
    let front : take used lent ≡ c.args.self.now = ap (take used) c.deref_mut.ensures.value ∙ c.in_ok-make_room.ensures.kept ∙ c.self.view_is in
    takes_done _ _ _ (took_weaker (c.in_ok-fill.ensures.takes.ok _ refl) (λ taken e. (
      ap length e ∙ long,
      take_two _ _ (take used lent) buf _ _ (omega (arith, long, length-take used lent, room)) (omega (arith, c.in_ok-make_room.ensures.ok)) ∙ ap (λ l. l ++ buf) front ∙ ap (λ l. c.args.self.now ++ l) (sym e),
    )))
