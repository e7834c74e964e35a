use Rattle.std.proofs.Common.{arith, ◌++◌, ◌+◌, Ok, refl, ap, inl, inr}
use Rattle.pgw_wire.proofs.Taking.{exit, took_then, took_weaker, takes_done, takes_refused}
use Rattle.pgw_wire.proofs.Adding.{wrote_none}
use Rattle.pgw_meta.specs.Types.{column_shapes}
use Rattle.pgw_tree.specs.Canonical.{canonical_front}
use Rattle.pgw_tree.specs.Causes.{in_header, in_end}
use Rattle.pgw_tree.proofs.Parts.{reader_first}
use Rattle.pgw_tree.proofs.Copies.{none_copied, header_says, settled_then, behind_written}
use Rattle.pgw_tree.proofs.Finish.{copied_rows}
use Rattle.pgw_tree.proofs.Runs.{run_copied, end_copied, rows_later, shown_later}
use Rattle.pgw_meta.specs.NamedOids.{known_of}
use Rattle.pgw_tree.proofs.stream.copy_stream.Goals as goal

pub returns-in_err-reader-clause-takes : goal.returns-in_err-reader-clause-takes
returns-in_err-reader-clause-takes g c =
    reader_first _ _ (exit c.from_residual.result _ c.from_residual.ensures.1) c.in_err-reader.ensures.takes (λ bytes h. inl (header_says c.in_err-reader.field-0.0 bytes h, wrote_none _))

pub returns-in_err-header-clause-takes : goal.returns-in_err-header-clause-takes
returns-in_err-header-clause-takes g c =
    takes_refused _ _ (exit c.from_residual-in_err-header.result _ c.from_residual-in_err-header.ensures.1)
    (took_weaker (c.in_ok-reader.ensures.takes.ok _ refl) (λ x h. inr (inr (refl, in_header h c.in_err-header.ensures.writes.0)))) (λ h. absurd (cc)) (λ h. absurd (cc))

pub returns-in_err-rows-clause-takes : goal.returns-in_err-rows-clause-takes
returns-in_err-rows-clause-takes g c =
    let ts = column_shapes c.args.columns.now.types.now in
    shown_later (known_of c.args.columns.now.found.now) c.args.limits ts 0 (exit c.from_residual-in_err-rows.result _ c.from_residual-in_err-rows.ensures.1)
    (took_weaker (c.in_ok-reader.ensures.takes.ok _ refl) (λ x h. none_copied (known_of c.args.columns.now.found.now) c.args.limits ts _ x h c.in_ok-header.ensures.writes)) c.in_err-rows.ensures.takes

pub loop-writer-init : goal.loop-writer-init
loop-writer-init g c =
    let ts = column_shapes c.args.columns.now.types.now in
    let shown = c.in_ok-rows.ensures.takes.ok _ refl in
    record {
      ready = c.in_ok-reader.ensures.reader;
      few = shown.has.few;
      took = took_then (took_weaker (c.in_ok-reader.ensures.takes.ok _ refl) (λ x h. none_copied (known_of c.args.columns.now.found.now) c.args.limits ts _ x h c.in_ok-header.ensures.writes)) shown (λ x y k r. run_copied (known_of c.args.columns.now.found.now) c.args.limits ts 0 _ x y k r);
    }

pub returns-in_err-copy_row-clause-takes : goal.returns-in_err-copy_row-clause-takes
returns-in_err-copy_row-clause-takes g c =
    rows_later (known_of c.args.columns.now.found.now) c.args.limits (column_shapes c.args.columns.now.types.now) c.loop-writer.rows (exit c.from_residual-in_err-copy_row.result _ c.from_residual-in_err-copy_row.ensures.1) c.loop-writer.invariant.took c.in_err-copy_row.ensures.takes

pub loop-writer-preserved : goal.loop-writer-preserved
loop-writer-preserved g c =
    let ts = column_shapes c.args.columns.now.types.now in
    let rows = c.loop-writer.rows in
    let turn = rw c.if-branch.true at (c.in_ok-copy_row.ensures.takes.ok _ refl) in
    let copied = took_then c.loop-writer.invariant.took turn (λ x y k r. run_copied (known_of c.args.columns.now.found.now) c.args.limits ts rows (rows + 1) x y k r) in
    let shown = c.in_ok-rows-2.ensures.takes.ok _ refl in
    record {
      ready = c.in_ok-copy_row.ensures.ready (ap Ok c.if-branch.true);
      few = shown.has.few;
      took = took_then copied shown (λ x y k r. run_copied (known_of c.args.columns.now.found.now) c.args.limits ts (rows + 1) _ x y k r);
    }

pub returns-in_err-rows-2-clause-takes : goal.returns-in_err-rows-2-clause-takes
returns-in_err-rows-2-clause-takes g c =
    let ts = column_shapes c.args.columns.now.types.now in
    let rows = c.loop-writer.rows in
    let turn = rw c.if-branch.true at (c.in_ok-copy_row.ensures.takes.ok _ refl) in
    shown_later (known_of c.args.columns.now.found.now) c.args.limits ts (rows + 1) (exit c.from_residual-in_err-rows-2.result _ c.from_residual-in_err-rows-2.ensures.1)
    (took_then c.loop-writer.invariant.took turn (λ x y k r. run_copied (known_of c.args.columns.now.found.now) c.args.limits ts rows (rows + 1) x y k r)) c.in_err-rows-2.ensures.takes

pub returns-in_err-trailer-clause-takes : goal.returns-in_err-trailer-clause-takes
returns-in_err-trailer-clause-takes g c =
    let ts = column_shapes c.args.columns.now.types.now in
    let turn = rw c.if-branch.false at (c.in_ok-copy_row.ensures.takes.ok _ refl) in
    takes_refused _ _ (exit c.from_residual-in_err-trailer.result _ c.from_residual-in_err-trailer.ensures.1)
    (took_then c.loop-writer.invariant.took turn (λ x y k end.
    let so_far = end_copied (known_of c.args.columns.now.found.now) c.args.limits ts c.loop-writer.rows x k end.1 in
    inr (inr (refl, in_end so_far.rows x so_far.begins so_far.within (ap (λ l. x ++ l) end.0) (behind_written so_far.written c.in_err-trailer.ensures.err)))))
    (λ h. absurd (cc)) (λ h. absurd (cc))

pub returns-clause-takes : goal.returns-clause-takes
returns-clause-takes g c =
    let ts = column_shapes c.args.columns.now.types.now in
    let turn = rw c.if-branch.false at (c.in_ok-copy_row.ensures.takes.ok _ refl) in
    takes_done c.loop-writer.rows _ _ (took_then c.loop-writer.invariant.took turn (λ x y k end.
    let so_far = end_copied (known_of c.args.columns.now.found.now) c.args.limits ts c.loop-writer.rows x k end.1 in
    copied_rows c.args.limits ts (canonical_front (known_of c.args.columns.now.found.now) ts) c.loop-writer.rows _ (x ++ y) so_far.rows (record { front = x; begins = so_far.begins; is = ap (λ l. x ++ l) end.0 }) so_far.within so_far.many
    (settled_then so_far.written c.in_ok-trailer.ensures.ok)))

pub loop-writer-smaller : goal.loop-writer-smaller
loop-writer-smaller g c =
    let more = c.in_ok-copy_row.ensures.more (ap Ok c.if-branch.true) in
    let shown = c.in_ok-rows-2.ensures.takes.ok _ refl in
    omega (arith, more, shown.has.counted)

pub returns-in_err-rows-2-clause-write_fault : goal.returns-in_err-rows-2-clause-write_fault
returns-in_err-rows-2-clause-write_fault g c = λ is.
    let turn = rw c.if-branch.true at (c.in_ok-copy_row.ensures.takes.ok _ refl) in
    let exits = exit c.from_residual-in_err-rows-2.result _ c.from_residual-in_err-rows-2.ensures.1 in
    omega (arith, c.loop-writer.invariant.took.has.written.goes_on.0, turn.has.written.goes_on.0, c.in_err-rows-2.ensures.write_fault (cc))

pub returns-in_err-trailer-clause-write_fault : goal.returns-in_err-trailer-clause-write_fault
returns-in_err-trailer-clause-write_fault g c = λ is.
    let turn = rw c.if-branch.false at (c.in_ok-copy_row.ensures.takes.ok _ refl) in
    omega (arith, c.loop-writer.invariant.took.has.written.goes_on.0, turn.has.1.goes_on.0, c.in_err-trailer.ensures.failed)
