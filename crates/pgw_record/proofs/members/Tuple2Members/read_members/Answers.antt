use Rattle.std.proofs.Common.{refl, subst}
use Rattle.pgw_wire.proofs.Taking.{exit}
use Rattle.pgw_wire.specs.Cell.{Cell}
use Rattle.pgw_meta.specs.Reading.{IsRefused}
use Rattle.pgw_record.specs.Pieces.{coming_of, component_of}
use Rattle.pgw_record.proofs.MembersRead.{not_given, head_refused, tail_refused, all_read}
use Rattle.pgw_record.proofs.members.Tuple2Members.read_members.Goals as goal

pub returns-in_err-piece : goal.returns-in_err-piece
returns-in_err-piece g c =
    let h = g.H.FromSql in
    let t = g.T.Members in
    rw (exit c.from_residual.result _ c.from_residual.ensures.1)
    (not_given h.reads h.refuses t.spelled t.refuses h.MEMORY t.MEMORY c.args.pieces.now.rest.now c.in_err-piece.field-0.0 c.in_err-piece.ensures.err)

pub returns-in_err-head : goal.returns-in_err-head
returns-in_err-head g c =
    let h = g.H.FromSql in
    let t = g.T.Members in
    let p = c.in_ok-piece in
    let e = c.in_err-head.field-0.0 in
    rw (exit c.from_residual-in_err-head.result _ c.from_residual-in_err-head.ensures.1)
    (head_refused h.reads h.refuses t.spelled t.refuses h.MEMORY t.MEMORY c.args.pieces.now.rest.now (component_of p.piece) (coming_of c.args.pieces.now) (coming_of c.next_component.new.self) e refl p.ensures.ok
    (subst (λ (x : Cell). IsRefused (h.refuses x) h.MEMORY e) c.value_of.ensures.cell c.in_err-head.ensures))

pub returns-in_err-tail : goal.returns-in_err-tail
returns-in_err-tail g c =
    let h = g.H.FromSql in
    let t = g.T.Members in
    let p = c.in_ok-piece in
    let e = c.in_err-tail.field-0.0 in
    rw (exit c.from_residual-in_err-tail.result _ c.from_residual-in_err-tail.ensures.1)
    (tail_refused h.reads h.refuses t.spelled t.refuses h.MEMORY t.MEMORY c.args.pieces.now.rest.now (component_of p.piece) (coming_of c.args.pieces.now) (coming_of c.next_component.new.self) c.in_ok-head.head e refl p.ensures.ok
    (subst (λ (x : Cell). h.reads x c.in_ok-head.head) c.value_of.ensures.cell c.in_ok-head.ensures) c.in_err-tail.ensures)

pub returns : goal.returns
returns g c =
    let h = g.H.FromSql in
    let t = g.T.Members in
    let p = c.in_ok-piece in
    all_read h.reads h.refuses t.spelled t.refuses h.MEMORY t.MEMORY c.args.pieces.now.rest.now t.COUNT (component_of p.piece) (coming_of c.args.pieces.now) (coming_of c.next_component.new.self) c.in_ok-head.head c.in_ok-tail.tail refl p.ensures.ok
    (subst (λ (x : Cell). h.reads x c.in_ok-head.head) c.value_of.ensures.cell c.in_ok-head.ensures) c.in_ok-tail.ensures
