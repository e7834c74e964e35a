use Rattle.std.proofs.Common.{◌≡◌, ◌<◌, ◌≤◌, ◌++◌, List, [], ℕ, length, sym, ap, ◌∙◌, refl, arith, append_assoc, length-append}
use Rattle.pgw_tree.proofs.PlainRows.{some_at, some_unless_none, front_of}
use Rattle.pgw_tree.proofs.Runs.{IsCutAt, none_before, one_before, ends_in, no_end, no_row_end}
use Rattle.pgw_tree.proofs.shown.row_end_behind.Goals as goal

left_over : (all front rest : List ℕ) (sent : ℕ) → all ≡ front ++ rest → length front ≤ sent → sent < length all → 0 < length rest
left_over all front rest sent is begun inside = omega (arith, ap length is, length-append front rest, begun, inside)

pub loop-behind-init : goal.loop-behind-init
loop-behind-init c = record {
  sent_rows = [];
  front = [];
  is = refl;
  run_is = refl;
  begun = omega arith;
  split = λ known most columns many all. none_before known most columns many c.args.canonical.now c.args.run.now all;
}

pub unwrap-behind-requires : goal.unwrap-behind-requires
unwrap-behind-requires c =
    let inv = c.loop-behind.invariant in
    let q = c.requires.rows in
    let some = left_over c.args.canonical.now inv.sent_rows c.loop-behind.rest.now c.args.sent inv.is inv.begun c.requires.inside in
    some_unless_none c.behind_row.result (λ none. no_end q.0 q.1 q.2 _ _ _ _ _ (inv.split q.0 q.1 q.2 q.3 q.4) some (c.behind_row.ensures.none none))

pub unwrap-run_behind-requires : goal.unwrap-run_behind-requires
unwrap-run_behind-requires c =
    let inv = c.loop-behind.invariant in
    let q = c.requires.rows in
    let some = left_over c.args.canonical.now inv.sent_rows c.loop-behind.rest.now c.args.sent inv.is inv.begun c.requires.inside in
    some_unless_none c.behind_row-in-loop-behind.result (λ none. no_row_end q.0 q.1 q.2 _ _ _ _ _ (inv.split q.0 q.1 q.2 q.3 q.4) some (c.behind_row-in-loop-behind.ensures.none none))

pub returns-then-sent-canonical-clause-row : goal.returns-then-sent-canonical-clause-row
returns-then-sent-canonical-clause-row c = λ known most columns many all.
    let inv = c.loop-behind.invariant in
    let cut = some_at c.behind_row.result c.unwrap-behind.result _ c.unwrap-behind.ensures c.behind_row.ensures.some in
    let row = some_at c.behind_row-in-loop-behind.result c.unwrap-run_behind.result _ c.unwrap-run_behind.ensures c.behind_row-in-loop-behind.ensures.some in
    let at : IsCutAt c.loop-behind.rest.now c.loop-behind.run_rest.now cut.0 c.unwrap-behind.result.now row.0 c.unwrap-run_behind.result.now = record { canonical_row = cut.1; canonical_is = cut.2; is_row = row.1; row_is = row.2 } in
    let some = left_over c.args.canonical.now inv.sent_rows c.loop-behind.rest.now c.args.sent inv.is inv.begun c.requires.inside in
    let sent = inv.is ∙ ap (λ l. inv.sent_rows ++ l) cut.2 ∙ sym (append_assoc inv.sent_rows cut.0 c.unwrap-behind.result.now) in
    let splits = inv.run_is ∙ ap (λ l. inv.front ++ l) row.2 ∙ sym (append_assoc inv.front row.0 c.unwrap-run_behind.result.now) in
    ends_in known most columns all.rows _ _ _ _ cut.0 _ row.0 _ _ c.args.sent (inv.split known most columns many all) some at inv.begun
    (omega (arith, c.if-sent-canonical.true, ap length sent, length-append (inv.sent_rows ++ cut.0) c.unwrap-behind.result.now, length-append inv.sent_rows cut.0))
    (front_of c.args.run.now (inv.front ++ row.0) c.unwrap-run_behind.result.now splits)

pub loop-behind-preserved : goal.loop-behind-preserved
loop-behind-preserved c =
    let inv = c.loop-behind.invariant in
    let cut = some_at c.behind_row.result c.unwrap-behind.result _ c.unwrap-behind.ensures c.behind_row.ensures.some in
    let row = some_at c.behind_row-in-loop-behind.result c.unwrap-run_behind.result _ c.unwrap-run_behind.ensures c.behind_row-in-loop-behind.ensures.some in
    let at : IsCutAt c.loop-behind.rest.now c.loop-behind.run_rest.now cut.0 c.unwrap-behind.result.now row.0 c.unwrap-run_behind.result.now = record { canonical_row = cut.1; canonical_is = cut.2; is_row = row.1; row_is = row.2 } in
    let some = left_over c.args.canonical.now inv.sent_rows c.loop-behind.rest.now c.args.sent inv.is inv.begun c.requires.inside in
    let sent = inv.is ∙ ap (λ l. inv.sent_rows ++ l) cut.2 ∙ sym (append_assoc inv.sent_rows cut.0 c.unwrap-behind.result.now) in
    record {
      sent_rows = inv.sent_rows ++ cut.0;
      front = inv.front ++ row.0;
      is = sent;
      run_is = inv.run_is ∙ ap (λ l. inv.front ++ l) row.2 ∙ sym (append_assoc inv.front row.0 c.unwrap-run_behind.result.now);
      begun = omega (arith, c.if-sent-canonical.false, ap length sent, length-append (inv.sent_rows ++ cut.0) c.unwrap-behind.result.now);
      split = λ known most columns many all. one_before known most columns all.rows _ _ _ _ cut.0 _ row.0 _ (inv.split known most columns many all) some at;
    }
