use Rattle.std.proofs.Common.{take_all, rules, ◌+◌, [], ◌++◌, length, ap, ◌∙◌, sym, subst, append-nil, arith, take, drop, inr}
use Rattle.pgw_nested.specs.Frames.{frames}
use Rattle.pgw_nested.specs.Array.{Each, array_head, any_null, flags_of}
use Rattle.pgw_nested.specs.Written.{IsWrittenAs, IsRefusedWith, RefusesElements}
use Rattle.pgw_nested.specs.Writing.{IsFront}
use Rattle.pgw_nested.proofs.Beginnings.{head_length}
use Rattle.pgw_nested.proofs.Writings.{front_more, refused_for, each_length, whole_at, front_at}
use Rattle.pgw_nested.proofs.array_writing.write_elements.Goals as goal

pub items-init : goal.items-init
items-init g c = record {
  same = search rules;
  told = search rules;
  faults = search rules;
  place = search rules;
  few = search rules;
  wrote = (
    array_head 0 c.args.oid (length c.args.items.now) 1,
    search rules,
    omega (arith, head_length 0 c.args.oid (length c.args.items.now) 1),
    λ k t. record { cells = []; written = tt; is = sym (append-nil _) },
  );
}

pub items-preserved : goal.items-preserved
items-preserved g c =
    let i = c.items.invariant in
    let xs = c.args.items.now in
    let n = c.in_default.ensures.wrote c.args.out.now.out.now.bytes i.wrote.0 i.wrote.1 (omega (arith, i.wrote.2)) i.place in
    let e = front_at xs c.items.item-index c.item-item.result (omega (arith, c.items-test.true)) c.item-item.is in
    record {
      same = search rules;
      told = search rules;
      faults = search rules;
      place = search rules;
      few = i.few;
      wrote = (
        n.0,
        n.1,
        omega (arith, i.wrote.2, n.2),
        λ k t.
            let w = n.3 k (ap (λ s. s.known) i.told ∙ t) in
            subst (λ zs. IsFront (g.T.ToSql.writes k) zs c.args.oid (length xs) n.0) e
            (front_more (g.T.ToSql.writes k) (take c.items.item-index xs) c.item-item.result c.args.oid (length xs) i.wrote.0 n.0 w.0 (i.wrote.3 k t) w.1 w.2),
      );
    }

pub returns-in-Err-clause-wrote : goal.returns-in-Err-clause-wrote
returns-in-Err-clause-wrote g c =
    let i = c.items.invariant in
    let xs = c.args.items.now in
    let n = c.in-Err.ensures.wrote c.args.out.now.out.now.bytes i.wrote.0 i.wrote.1 (omega (arith, i.wrote.2)) i.place in (
      n.0,
      n.1,
      λ k t.
          let f = i.wrote.3 k t in
          let w = g.T.ToSql.writes k in
          let x = c.item-item.result in
          refused_for (IsRefusedWith w x) (RefusesElements w xs) c.in-Err.error
          (λ r. inr (
            i.few,
            record {
              front = take c.items.item-index xs;
              cells = f.cells;
              value = x;
              behind = drop (c.items.item-index + 1) xs;
              is = sym (whole_at xs c.items.item-index x (omega (arith, c.items-test.true)) c.item-item.is);
              written = f.written;
              refused = r;
            },
          ))
          (n.3 k (ap (λ s. s.known) i.told ∙ t)),
    )

pub returns-clause-wrote : goal.returns-clause-wrote
returns-clause-wrote g c =
    let i = c.items.invariant in
    let xs = c.args.items.now in (
      i.wrote.0,
      i.wrote.1,
      λ k t.
          let f = i.wrote.3 k t in
          let w = g.T.ToSql.writes k in
          let all : Each (IsWrittenAs w) f.cells xs = subst (λ zs. Each (IsWrittenAs w) f.cells zs) (take_all c.items.item-index xs c.items-test.false) f.written in
          (f.cells, i.few, all, f.is ∙ ap (λ n. array_head (flags_of (any_null f.cells)) c.args.oid n 1 ++ frames f.cells) (sym (each_length (IsWrittenAs w) f.cells xs all))),
    )
