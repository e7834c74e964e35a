use Rattle.std.proofs.Common.{arith, refl, sym}
use Rattle.std.proofs.lemmas.Bool.{eqb-false}
use Rattle.pgcopy.proofs.Options.{reads_number, reads_none}
use Rattle.pgcopy.proofs.numbers.read_number.Goals as goal

pub returns-in-Ok : goal.returns-in-Ok
returns-in-Ok c =
    let plain = eqb-false _ 43 (sym (c.if-starts_with.ensures.byte (omega arith) (omega arith) (λ w o h. h))) in
    let read = rw c.in-Ok.is at c.parse.ensures.value.0 in
    let number = reads_number c.args.most c.in-Ok.number c.args.digits.now read plain c.if-number-most.true in
    rw (number.0, number.1) refl

pub returns-in_default-2 : goal.returns-in_default-2
returns-in_default-2 c =
    let plain = eqb-false _ 43 (sym (c.if-starts_with.ensures.byte (omega arith) (omega arith) (λ w o h. h))) in
    let read = rw c.in_default.is at c.parse.ensures.value.0 in
    let none = reads_none c.args.most c.in_default.field-0 c.args.digits.now read plain c.ranges.most.fits in
    rw none refl
