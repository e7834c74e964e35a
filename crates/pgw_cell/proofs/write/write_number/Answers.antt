use Rattle.std.proofs.Common.{◌≡◌, ◌++◌, length, ap, ◌∙◌, arith, append_assoc, w16}
use Rattle.std.proofs.lemmas.Int.{to_z-of_z}
use Rattle.std.proofs.lemmas.Result.{err_from_is_err_and}
use Rattle.pgw_numeric.specs.Numeric.{number_sign, header_bytes, digit_bytes, field_bytes}
use Rattle.pgw_numeric.proofs.Fields.{length_digits}
use Rattle.pgw_cell.proofs.WroteCells.{wrote_all, wrote_none}
use Rattle.pgw_cell.proofs.write.write_number.Goals as goal

pub returns-in_err-begin_field : goal.returns-in_err-begin_field
returns-in_err-begin_field c =
    let field = field_bytes c.args.weight (number_sign c.args.negative) c.args.scale c.args.digits.now in
    let p = err_from_is_err_and c.from_residual.result c.from_residual.ensures.1 in
    rw (p.1, p.2) (wrote_none c.args.field_max c.size.result field c.in_err-begin_field.field-0.0 c.args.out.now c.begin_field.new.out (omega (arith, c.size.ensures, c.header-header.ensures.count, length_digits c.args.digits.now)) c.in_err-begin_field.ensures)

pub returns : goal.returns
returns c =
    let digits = c.args.digits.now in
    let header = header_bytes (length digits) c.args.weight (number_sign c.args.negative) c.args.scale in
    let field = field_bytes c.args.weight (number_sign c.args.negative) c.args.scale digits in
    let many : length field ≡ c.size.result = omega (arith, c.size.ensures, c.header-header.ensures.count, length_digits digits) in
    let weighed = ap (λ n. header_bytes (length digits) n (number_sign c.args.negative) c.args.scale) (to_z-of_z w16 c.args.weight c.ranges.weight) in
    let front = c.push_reserved.ensures.bytes ∙ ap (λ l. c.begin_field.new.out.bytes ++ l) (c.to_bytes.ensures ∙ c.header-header.ensures.bytes ∙ weighed) in
    let more = c.push_digits.ensures.bytes ∙ ap (λ l. l ++ digit_bytes digits) front ∙ append_assoc c.begin_field.new.out.bytes header (digit_bytes digits) in
    wrote_all c.args.field_max c.size.result field c.begin_field.result c.args.out.now c.begin_field.new.out c.push_digits.new.out many c.in_ok-begin_field.was c.begin_field.ensures more
    (omega (arith, length_digits digits, c.push_reserved.ensures.spare, c.push_digits.ensures.spare, ap length c.to_bytes.ensures))
