use Rattle.pgw_meta.specs.Types.{shape}
use Rattle.pgw_cell.proofs.Reading.{canonical_spells}
use Rattle.pgw_cell.proofs.laws.canonical_is_read_back.Goals as goal

pub returns : goal.returns
returns c = λ known v has fits. canonical_spells known (shape c.args.t.now) v has fits
