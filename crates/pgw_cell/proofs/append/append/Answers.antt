use Rattle.std.proofs.Common.{◌∙◌, Bool, Ok, Err, None, refl, sym, ap, subst, arith}
use Rattle.pgw_wire.specs.Cell.{cell_of}
use Rattle.pgw_wire.specs.declared.cell.RawCell.{RawCell}
use Rattle.pgw_wire.specs.declared.kind.Break.TheVariants.{Null}
use Rattle.pgw_wire.specs.Room.{Room}
use Rattle.pgw_wire.proofs.Taking.{exit}
use Rattle.pgw_meta.specs.NamedOids.{known_of}
use Rattle.pgw_meta.specs.Types.{shape}
use Rattle.pgw_cell.specs.Value.{null}
use Rattle.pgw_cell.specs.Nulls.{read_by}
use Rattle.pgw_cell.specs.Pieces.{read_piece}
use Rattle.pgw_cell.specs.Appending.{has_field, has_break, lacks_memory}
use Rattle.pgw_cell.proofs.Appending.{CellAppended, cell_appended}
use Rattle.pgw_cell.proofs.append.append.Goals as goal

pub returns-then-not-is_nullable-clause-value : goal.returns-then-not-is_nullable-clause-value
returns-then-not-is_nullable-clause-value c =
    let s = shape c.args.t.now in
    let old = c.args.out.now.bytes in
    subst (λ (x : RawCell). CellAppended (known_of c.args.found.now) s (cell_of x) c.args.field_max old old (Err _)) (sym c.in-Null.is)
    (has_break Null (ap (λ (b : Bool). read_by b (read_piece s) None) (sym c.is_nullable.ensures ∙ c.if-not-is_nullable.true)) refl refl)

pub returns-in_err-push_all-in-Null-clause-value :
    goal.returns-in_err-push_all-in-Null-clause-value
returns-in_err-push_all-in-Null-clause-value c =
    let s = shape c.args.t.now in
    let old = c.args.out.now.bytes in
    let told = exit c.from_residual.result _ c.from_residual.ensures.1 in
    subst (λ (x : RawCell). CellAppended (known_of c.args.found.now) s (cell_of x) c.args.field_max old c.push_all.new.self.bytes c.from_residual.result) (sym c.in-Null.is)
    (lacks_memory null (ap (λ (b : Bool). read_by b (read_piece s) None) (sym c.is_nullable.ensures ∙ c.if-not-is_nullable.false)) (omega arith) (ap (λ (r : Room). r.bytes) c.in_err-push_all-in-Null.ensures.err) told)

pub returns-in-Piece-clause-value : goal.returns-in-Piece-clause-value
returns-in-Piece-clause-value c =
    let known = known_of c.args.found.now in
    let s = shape c.args.t.now in
    let old = c.args.out.now.bytes in
    subst (λ (x : RawCell). CellAppended known s (cell_of x) c.args.field_max old c.append_piece.new.out.bytes c.append_piece.result) (sym c.in-Piece.is)
    (cell_appended known s c.in-Piece.piece.now c.args.field_max old c.append_piece.new.out.bytes c.append_piece.result c.are_bytes.ensures c.append_piece.ensures)

pub returns-in_ok-push_all-in-Null-clause-value : goal.returns-in_ok-push_all-in-Null-clause-value
returns-in_ok-push_all-in-Null-clause-value c =
    let s = shape c.args.t.now in
    let old = c.args.out.now.bytes in
    subst (λ (x : RawCell). CellAppended (known_of c.args.found.now) s (cell_of x) c.args.field_max old c.push_all.new.self.bytes (Ok tt)) (sym c.in-Null.is)
    (has_field null (ap (λ (b : Bool). read_by b (read_piece s) None) (sym c.is_nullable.ensures ∙ c.if-not-is_nullable.false)) (omega arith) c.in_ok-push_all-in-Null.ensures.ok refl)
