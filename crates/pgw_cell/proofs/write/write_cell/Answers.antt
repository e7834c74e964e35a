use Rattle.std.proofs.Common.{arith}
use Rattle.std.proofs.lemmas.Result.{on_ok_weaker}
use Rattle.pgw_meta.specs.NamedOids.{known_of}
use Rattle.pgw_meta.specs.Types.{shape}
use Rattle.pgw_cell.specs.Cells.{canonical_cell}
use Rattle.pgw_cell.specs.Data.{value_of}
use Rattle.pgw_cell.proofs.Reading.{size_counted}
use Rattle.pgw_cell.proofs.WroteCells.{too_long}
use Rattle.pgw_cell.proofs.write.write_cell.Goals as goal

pub returns-clause-fits : goal.returns-clause-fits
returns-clause-fits c =
    let size = size_counted (known_of c.args.found.now) (shape c.args.t.now) (value_of c.args.value.now) c.requires.has in
    on_ok_weaker c.write.result (λ short. omega (arith, size, short)) c.write.ensures.fits

pub returns-clause-long : goal.returns-clause-long
returns-clause-long c =
    let t = shape c.args.t.now in
    let v = value_of c.args.value.now in
    let size = size_counted (known_of c.args.found.now) t v c.requires.has in (
      λ e fits. omega (arith, size, c.write.ensures.long e, fits),
      λ long. too_long c.args.field_max (canonical_cell (known_of c.args.found.now) t v) c.write.result c.args.out.now c.write.new.out c.write.ensures (λ short. long (omega (arith, size, short))),
    )

pub returns-clause-memory : goal.returns-clause-memory
returns-clause-memory c = λ e.
    let size = size_counted (known_of c.args.found.now) (shape c.args.t.now) (value_of c.args.value.now) c.requires.has in
    omega (arith, size, c.write.ensures.memory e)

pub returns-clause-suffices : goal.returns-clause-suffices
returns-clause-suffices c = λ fits room.
    let size = size_counted (known_of c.args.found.now) (shape c.args.t.now) (value_of c.args.value.now) c.requires.has in
    c.write.ensures.suffices (omega (arith, size, fits)) room
