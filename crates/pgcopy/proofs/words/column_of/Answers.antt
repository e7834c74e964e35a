use Rattle.std.proofs.Common.{Ok, Err, sym, subst, ◌∙◌}
use Rattle.std.specs.Prelude.{IfOk}
use Rattle.pgw_meta.specs.Types.{shape}
use Rattle.pgw_notation.specs.Faults.{IsTextOf}
use Rattle.pgcopy.proofs.TypeNames.{column_told, none_told}
use Rattle.pgcopy.proofs.words.column_of.Goals as goal

pub returns-in-Ok : goal.returns-in-Ok
returns-in-Ok c =
    column_told c.args.word.now (shape c.in-Ok.t) (sym c.has_record.ensures ∙ c.if-has_record.false)
    (subst (λ r. IfOk r (λ t. IsTextOf (shape t) c.args.word.now)) c.in-Ok.is c.parse_type.ensures.text)

pub returns-in-Err-Syntax : goal.returns-in-Err-Syntax
returns-in-Err-Syntax c =
    none_told c.args.word.now c.in-Err-Syntax.field-0 (c.parse_type.ensures.fault c.in-Err-Syntax.field-0 (λ memory. absurd (cc)) c.in-Err-Syntax.is)

pub returns-in-Err-TooDeep : goal.returns-in-Err-TooDeep
returns-in-Err-TooDeep c =
    none_told c.args.word.now c.in-Err-TooDeep.field-0 (c.parse_type.ensures.fault c.in-Err-TooDeep.field-0 (λ memory. absurd (cc)) c.in-Err-TooDeep.is)
