use Rattle.std.proofs.Common.{ap}
use Rattle.pgw_wire.proofs.Taking.{exit}
use Rattle.pgw_wire.specs.declared.sql_error.SqlError.TheVariants.{Dimensions}
use Rattle.pgw_nested.proofs.Begun.{cut_at_4, cut_at_5, too_many, none, one}
use Rattle.pgw_nested.proofs.Cut.{told_again}
use Rattle.pgw_nested.proofs.array_pieces.ArrayPieces.new.Goals as goal

pub returns-then-dimensions-eq0 : goal.returns-then-dimensions-eq0
returns-then-dimensions-eq0 c =
    let d = c.in_ok-dimensions in
    let f = c.in_ok-flags in
    let o = c.in_ok-_oid in
    none c.args.bytes.now d.dimensions f.flags o._oid d.rest.now f.rest.now o.rest.now c.if-dimensions-eq0.true d.ensures f.ensures o.ensures

pub returns-in_err-count : goal.returns-in_err-count
returns-in_err-count c =
    let d = c.in_ok-dimensions in
    let f = c.in_ok-flags in
    let o = c.in_ok-_oid in
    rw (exit c.from_residual-in_err-count.result _ c.from_residual-in_err-count.ensures.1)
    (cut_at_4 c.args.bytes.now d.dimensions f.flags o._oid d.rest.now f.rest.now o.rest.now _ c.if-dimensions-eq0.false d.ensures f.ensures o.ensures c.in_err-count.ensures)

pub returns-in_err-_bound : goal.returns-in_err-_bound
returns-in_err-_bound c =
    let d = c.in_ok-dimensions in
    let f = c.in_ok-flags in
    let o = c.in_ok-_oid in
    let n = c.in_ok-count in
    rw (exit c.from_residual-in_err-_bound.result _ c.from_residual-in_err-_bound.ensures.1)
    (cut_at_5 c.args.bytes.now d.dimensions f.flags o._oid n.count d.rest.now f.rest.now o.rest.now n.rest.now _ c.if-dimensions-eq0.false d.ensures f.ensures o.ensures n.ensures c.in_err-_bound.ensures)

pub returns-then-dimensions-ne1 : goal.returns-then-dimensions-ne1
returns-then-dimensions-ne1 c =
    let d = c.in_ok-dimensions in
    let f = c.in_ok-flags in
    let o = c.in_ok-_oid in
    let n = c.in_ok-count in
    let b = c.in_ok-_bound in
    too_many c.args.bytes.now d.dimensions f.flags o._oid n.count b._bound d.rest.now f.rest.now o.rest.now n.rest.now b.rest.now _ c.if-dimensions-eq0.false c.if-dimensions-ne1.true d.ensures f.ensures o.ensures n.ensures b.ensures
    (ap Dimensions (told_again d.dimensions c.cast_signed.result d.ensures.1 c.cast_signed.ensures))

pub returns : goal.returns
returns c =
    let d = c.in_ok-dimensions in
    let f = c.in_ok-flags in
    let o = c.in_ok-_oid in
    let n = c.in_ok-count in
    let b = c.in_ok-_bound in
    rw c.elements_counted.ensures
    (one c.args.bytes.now d.dimensions f.flags o._oid n.count b._bound d.rest.now f.rest.now o.rest.now n.rest.now b.rest.now c.if-dimensions-ne1.false d.ensures f.ensures o.ensures n.ensures b.ensures)
