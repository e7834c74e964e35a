use Rattle.pgw_meta.proofs.OtherTypes.{not_nullable}
use Rattle.pgw_cell.proofs.sizes.is_nullable.Goals as goal

pub returns-in_default : goal.returns-in_default
returns-in_default c = not_nullable c.args.t.now c.in_default.not-Nullable
