use Rattle.std.proofs.Common.{take_all, rules, ◌+◌, [], ◌++◌, length, ap, ◌∙◌, sym, subst, append-nil, append_assoc, arith, take, drop, inr}
use Rattle.std.specs.Int.{to_be_bytes, w32}
use Rattle.pgw_nested.specs.Array.{Each}
use Rattle.pgw_nested.specs.Frames.{frames}
use Rattle.pgw_nested.specs.Written.{IsWrittenAs, IsRefusedWith, RefusesElements}
use Rattle.pgw_nested.specs.RangeWritten.{WritesBoundsOf}
use Rattle.pgw_nested.proofs.Writings.{refused_for, each_length, whole_at, front_at}
use Rattle.pgw_nested.proofs.RangeWritings.{IsFrontOfRanges, ranges_more}
use Rattle.pgw_nested.proofs.multirange_writing.write_multirange.Goals as goal

pub each-init : goal.each-init
each-init g c = record {
  same = search rules;
  told = search rules;
  faults = search rules;
  few = search rules;
  wrote = (
    to_be_bytes w32 (length c.args.ranges.now),
    search rules,
    λ k t. record { cells = []; written = tt; is = sym (append-nil _) },
  );
}

pub each-preserved : goal.each-preserved
each-preserved g c =
    let i = c.each.invariant in
    let xs = c.args.ranges.now in
    let n = c.in_default.ensures.wrote in
    record {
      same = search rules;
      told = search rules;
      faults = search rules;
      few = i.few;
      wrote = (
        i.wrote.0 ++ n.0,
        n.1 ∙ ap (λ b. b ++ n.0) i.wrote.1 ∙ append_assoc _ i.wrote.0 n.0,
        λ k t.
            subst (λ zs. IsFrontOfRanges (WritesBoundsOf g.R.BoundsOf.is_lower g.R.BoundsOf.is_upper g.T.ToSql.writes k) zs (length xs) (i.wrote.0 ++ n.0))
            (front_at xs c.each.range-index c.range-item.result (omega (arith, c.each-test.true)) c.range-item.is)
            (ranges_more (WritesBoundsOf g.R.BoundsOf.is_lower g.R.BoundsOf.is_upper g.T.ToSql.writes k) (take c.each.range-index xs) c.range-item.result (length xs) i.wrote.0 n.0 c.in_default.field-0
            (i.wrote.2 k t) (n.2 k (ap (λ s. s.known) i.told ∙ t))),
      );
    }

pub returns-in-Err-clause-wrote : goal.returns-in-Err-clause-wrote
returns-in-Err-clause-wrote g c =
    let i = c.each.invariant in
    let xs = c.args.ranges.now in
    let n = c.in-Err.ensures.wrote in (
      i.wrote.0 ++ n.0,
      n.1 ∙ ap (λ b. b ++ n.0) i.wrote.1 ∙ append_assoc _ i.wrote.0 n.0,
      λ k t.
          let f = i.wrote.2 k t in
          let w = WritesBoundsOf g.R.BoundsOf.is_lower g.R.BoundsOf.is_upper g.T.ToSql.writes k in
          let x = c.range-item.result in
          refused_for (IsRefusedWith w x) (RefusesElements w xs) c.in-Err.error
          (λ r. inr (
            i.few,
            record {
              front = take c.each.range-index xs;
              cells = f.cells;
              value = x;
              behind = drop (c.each.range-index + 1) xs;
              is = sym (whole_at xs c.each.range-index x (omega (arith, c.each-test.true)) c.range-item.is);
              written = f.written;
              refused = r;
            },
          ))
          (n.2 k (ap (λ s. s.known) i.told ∙ t)),
    )

pub returns-clause-wrote : goal.returns-clause-wrote
returns-clause-wrote g c =
    let i = c.each.invariant in
    let xs = c.args.ranges.now in (
      i.wrote.0,
      i.wrote.1,
      λ k t.
          let f = i.wrote.2 k t in
          let w = WritesBoundsOf g.R.BoundsOf.is_lower g.R.BoundsOf.is_upper g.T.ToSql.writes k in
          let all : Each (IsWrittenAs w) f.cells xs = subst (λ zs. Each (IsWrittenAs w) f.cells zs) (take_all c.each.range-index xs c.each-test.false) f.written in
          (f.cells, i.few, all, f.is ∙ ap (λ n. to_be_bytes w32 n ++ frames f.cells) (sym (each_length (IsWrittenAs w) f.cells xs all))),
    )
