use Rattle.std.proofs.Common.{true, false, subst, ap, Err}
use Rattle.pgw_wire.specs.declared.sql_error.SqlError.{SqlError}
use Rattle.pgw_numeric.specs.Numeric.{IsNumeric, not_a_number}
use Rattle.pgw_numeric.specs.Written.{numeric_of}
use Rattle.pgw_numeric.specs.declared.numeric.PgNumeric.{PgNumeric}
use Rattle.pgw_cell.proofs.Numerics.{value_read, number_read, number_wanted}
use Rattle.pgw_cell.proofs.read.read_numeric.Goals as goal

pub returns-in-Ok-Positive : goal.returns-in-Ok-Positive
returns-in-Ok-Positive c =
    let given = c.value_of_piece.result.raw_value.now in
    let is = subst (λ (v : PgNumeric). IsNumeric given (numeric_of v)) c.in-Ok-Positive.field-0-is c.in-Ok-Positive.ensures.answers in
    number_read c.args.piece.now given false c.in-Ok-Positive.weight c.in-Ok-Positive.scale c.in-Ok-Positive.digits.items c.from_vec.result c.value_of_piece.ensures c.from_vec.ensures is

pub returns-in-Ok-Negative : goal.returns-in-Ok-Negative
returns-in-Ok-Negative c =
    let given = c.value_of_piece.result.raw_value.now in
    let is = subst (λ (v : PgNumeric). IsNumeric given (numeric_of v)) c.in-Ok-Negative.field-0-is c.in-Ok-Negative.ensures.answers in
    number_read c.args.piece.now given true c.in-Ok-Negative.weight c.in-Ok-Negative.scale c.in-Ok-Negative.digits.items c.from_vec-in-Ok-Negative.result c.value_of_piece.ensures c.from_vec-in-Ok-Negative.ensures is

pub returns-in-Ok-NaN : goal.returns-in-Ok-NaN
returns-in-Ok-NaN c =
    let given = c.value_of_piece.result.raw_value.now in
    let is = subst (λ (v : PgNumeric). IsNumeric given (numeric_of v)) c.in-Ok-NaN.field-0-is c.in-Ok-NaN.ensures.answers in
    value_read c.args.piece.now given not_a_number c.value_of_piece.ensures is

pub returns-in-Err-NoMemory : goal.returns-in-Err-NoMemory
returns-in-Err-NoMemory c = number_wanted c.args.piece.now c.value_of_piece.result.raw_value.now c.value_of_piece.ensures (c.in-Err-NoMemory.ensures.memory (ap (λ (e : SqlError). Err e) c.in-Err-NoMemory.field-0-is))
