use Rattle.pgw_meta.proofs.OtherTypes.{not_array}
use Rattle.pgw_meta.proofs.schema.is_array.Goals as goal

pub returns-in_default : goal.returns-in_default
returns-in_default c = not_array c.args.t.now c.in_default.not-Array
