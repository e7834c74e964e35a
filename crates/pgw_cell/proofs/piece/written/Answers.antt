use Rattle.std.proofs.Common.{◌∙◌, ap, sym, arith, w16, w32, w64}
use Rattle.pgw_meta.specs.Types.{shape}
use Rattle.pgw_scalar.proofs.Whole.{size_16, size_32, size_64}
use Rattle.pgw_cell.specs.Written.{canonical_read}
use Rattle.pgw_cell.proofs.Written.{signed_written, unsigned_written, oid_written, interval_written}
use Rattle.pgw_cell.proofs.piece.written.Goals as goal

pub returns-in-Int2 : goal.returns-in-Int2
returns-in-Int2 c =
    c.whole.ensures ∙ signed_written w16 2 size_16 c.args.piece.now (λ i. omega (arith, c.type_inv.piece i))
    ∙ ap (λ u. canonical_read (shape u) c.args.piece.now) (sym c.in-Int2.is)

pub returns-in-Int4 : goal.returns-in-Int4
returns-in-Int4 c =
    c.whole-in-Int4.ensures ∙ signed_written w32 4 size_32 c.args.piece.now (λ i. omega (arith, c.type_inv.piece i))
    ∙ ap (λ u. canonical_read (shape u) c.args.piece.now) (sym c.in-Int4.is)

pub returns-in-Int8 : goal.returns-in-Int8
returns-in-Int8 c =
    c.whole-in-Int8.ensures ∙ signed_written w64 8 size_64 c.args.piece.now (λ i. omega (arith, c.type_inv.piece i))
    ∙ ap (λ u. canonical_read (shape u) c.args.piece.now) (sym c.in-Int8.is)

pub returns-in-Oid : goal.returns-in-Oid
returns-in-Oid c =
    c.front-in-Oid.ensures ∙ oid_written c.args.piece.now (λ i. omega (arith, c.type_inv.piece i))
    ∙ ap (λ u. canonical_read (shape u) c.args.piece.now) (sym c.in-Oid.is)

pub returns-in-Money : goal.returns-in-Money
returns-in-Money c =
    c.whole-in-Money.ensures ∙ signed_written w64 8 size_64 c.args.piece.now (λ i. omega (arith, c.type_inv.piece i))
    ∙ ap (λ u. canonical_read (shape u) c.args.piece.now) (sym c.in-Money.is)

pub returns-in-Lsn : goal.returns-in-Lsn
returns-in-Lsn c =
    c.whole-in-Lsn.ensures ∙ unsigned_written w64 8 size_64 c.args.piece.now (λ i. omega (arith, c.type_inv.piece i))
    ∙ ap (λ u. canonical_read (shape u) c.args.piece.now) (sym c.in-Lsn.is)

pub returns-in-Time : goal.returns-in-Time
returns-in-Time c =
    c.whole-in-Time.ensures ∙ signed_written w64 8 size_64 c.args.piece.now (λ i. omega (arith, c.type_inv.piece i))
    ∙ ap (λ u. canonical_read (shape u) c.args.piece.now) (sym c.in-Time.is)

pub returns-in-Timestamp : goal.returns-in-Timestamp
returns-in-Timestamp c =
    c.whole-in-Timestamp.ensures ∙ signed_written w64 8 size_64 c.args.piece.now (λ i. omega (arith, c.type_inv.piece i))
    ∙ ap (λ u. canonical_read (shape u) c.args.piece.now) (sym c.in-Timestamp.is)

pub returns-in-Timestamptz : goal.returns-in-Timestamptz
returns-in-Timestamptz c =
    c.whole-in-Timestamptz.ensures ∙ signed_written w64 8 size_64 c.args.piece.now (λ i. omega (arith, c.type_inv.piece i))
    ∙ ap (λ u. canonical_read (shape u) c.args.piece.now) (sym c.in-Timestamptz.is)

pub returns-in-Interval : goal.returns-in-Interval
returns-in-Interval c =
    c.front-in-Interval.ensures ∙ interval_written c.args.piece.now (λ i. omega (arith, c.type_inv.piece i))
    ∙ ap (λ u. canonical_read (shape u) c.args.piece.now) (sym c.in-Interval.is)
