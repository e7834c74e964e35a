use Rattle.pgw_meta.specs.Types.{shape}
use Rattle.pgw_cell.proofs.Reading.{size_counted}
use Rattle.pgw_cell.proofs.laws.size_is_counted.Goals as goal

pub returns : goal.returns
returns c = λ known v has. size_counted known (shape c.args.t.now) v has
