use Rattle.std.proofs.Common.{◌≡◌, ◌<◌, ◌≤◌, ℕ, Err, subst, arith}
use Rattle.pgw_wire.proofs.Taking.{exit}
use Rattle.pgw_record.specs.Record.{BeginsNoRecord, RefusesRecord}
use Rattle.pgw_record.specs.Pieces.{coming_of, BeginsRecord}
use Rattle.pgw_record.specs.Members.{AreRecordMembers}
use Rattle.pgw_record.proofs.MembersRead.{no_record, record_read, value_read}
use Rattle.pgw_record.proofs.members.read_tuple.Goals as goal

few : (n m : ℕ) → n ≡ m → n ≤ 2147483647 → m < 2147483648
few n m same h = omega arith

pub returns-in_err-pieces : goal.returns-in_err-pieces
returns-in_err-pieces g c =
    let m = g.M.Members in
    let bytes = c.as_bytes.result.now in
    let e = c.in_err-pieces.field-0.0 in
    rw (exit c.from_residual-in_err-pieces.result _ c.from_residual-in_err-pieces.ensures.1)
    (value_read (AreRecordMembers m.spelled) (RefusesRecord m.COUNT m.refuses) m.MEMORY c.args.value c.in_ok-value.value bytes (Err e) c.in_ok-value.ensures c.as_bytes.ensures
    (no_record m.spelled m.refuses m.MEMORY m.COUNT bytes e (subst (λ (n : ℕ). BeginsNoRecord bytes n e) c.requires.members c.in_err-pieces.ensures)))

pub returns : goal.returns
returns g c =
    let m = g.M.Members in
    let p = c.in_ok-pieces in
    let bytes = c.as_bytes.result.now in
    value_read (AreRecordMembers m.spelled) (RefusesRecord m.COUNT m.refuses) m.MEMORY c.args.value c.in_ok-value.value bytes c.read_members.result c.in_ok-value.ensures c.as_bytes.ensures
    (record_read m.spelled m.refuses m.MEMORY m.COUNT bytes (coming_of p.pieces) (few c.args.count m.COUNT c.requires.members c.requires.few)
    (subst (λ (n : ℕ). BeginsRecord bytes n (coming_of p.pieces)) c.requires.members p.ensures) c.read_members.result c.read_members.ensures)
