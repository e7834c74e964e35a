use Rattle.pgw_meta.specs.NamedOids.{known_of}
use Rattle.pgw_cell.proofs.PlainFields.{other_element}
use Rattle.pgw_cell.proofs.plain.+element_of.Goals as goal

pub returns-in_default : goal.returns-in_default
returns-in_default t c = other_element (known_of c.args.found.now) c.args.t.now c.in_default.not-Nullable c.in_default.not-Named c.in_default.not-Array
