-- The fields of the row are those that contracts see.
use Rattle.std.proofs.Common.{◌≡◌, ◌∙◌, ◌<◌, ℕ, ap, subst, Some, Option, List, length, get_or}
use Rattle.std.specs.declared.alloc.Global.{Global}
use Rattle.std.specs.declared.vec.Vec.{Vec}
use Rattle.std.specs.Prelude.{slice_get, option_map}
use Rattle.pgw_row.specs.Results.{Answered}
use Rattle.pgw_row.specs.ResultRows.{fields_of_columns, row_fields}
use Rattle.pgw_row.proofs.ResultFields.{row_seen}
use Rattle.pgw_row.proofs.result.PgResult.get_row.Goals as goal

abbrev Cells : Type 0
Cells = Vec (Option (Vec ℕ Global)) Global

pub returns : goal.returns
returns c =
    let row = c.in_ok-get.ensures.lookup in
    let inside = c.self.inside in
    subst (λ (seen : Answered). Some (fields_of_columns c.new.result.columns.now c.new.result.cells.now) ≡ option_map (row_fields seen.columns) (slice_get seen.rows c.args.row_idx)) c.self.view_is
    (row_seen inside.columns.items c.new.result.columns.now inside.rows.items c.args.row_idx c.in_ok-get.field-0.now c.new.result.cells.now
    (c.new.ensures.columns ∙ c.deref.ensures.value) (c.new.ensures.cells ∙ c.deref-in_ok-get.ensures.value)
    (subst (λ (l : List Cells). c.args.row_idx < length l) c.deref-2.ensures.value row.3.0)
    (row.1 ∙ ap (λ l. get_or l c.args.row_idx c.in_ok-get.field-0.now) c.deref-2.ensures.value))
