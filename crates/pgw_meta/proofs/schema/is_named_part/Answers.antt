use Rattle.pgw_meta.proofs.OtherTypes.{not_to_be_named}
use Rattle.pgw_meta.proofs.schema.is_named_part.Goals as goal

pub returns-in_default : goal.returns-in_default
returns-in_default c = not_to_be_named c.args.t.now c.in_default.not-Text c.in_default.not-Record
