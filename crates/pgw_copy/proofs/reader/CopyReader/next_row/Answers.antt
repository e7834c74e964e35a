use Rattle.std.proofs.Common.{◌∙◌, ◌++◌, refl, sym, ap}
use Rattle.pgw_wire.proofs.Taking.{took_then, took_weaker, exit, takes_first, takes_later, takes_done}
use Rattle.pgw_copy.specs.State.{behind_count, cells_of}
use Rattle.pgw_copy.proofs.Reading.{count_of_row, cut_of_row, row_of}
use Rattle.pgw_copy.proofs.reader.CopyReader.next_row.Goals as goal

pub returns-in_err-next_count : goal.returns-in_err-next_count
returns-in_err-next_count g c =
    let is = exit c.from_residual.result _ c.from_residual.ensures.1 in (
      (refl, (λ _. tt), rw is c.in_err-next_count.ensures.err),
      record {
        takes = takes_first _ _ is c.in_err-next_count.ensures.takes count_of_row;
        reader = tt;
      },
    )

pub returns-in_err-read_fields-in-Some : goal.returns-in_err-read_fields-in-Some
returns-in_err-read_fields-in-Some g c =
    let is = exit c.from_residual-in_err-read_fields-in-Some.result _ c.from_residual-in_err-read_fields-in-Some.ensures.1 in
    let n = c.in-Some.field-0 in
    let counted = rw c.in-Some.is at (c.in_ok-next_count.ensures.takes.ok _ refl) in
    let pends = ap (λ s. s.pending) c.in_ok-next_count.ensures.ok ∙ c.in-Some.is in (
      (refl, (λ _. tt), rw is (rw c.in_err-read_fields-in-Some.was at c.read_fields.follows.holds-at-none)),
      record {
        takes = takes_later _ _ is counted (c.in_err-read_fields-in-Some.ensures.takes n pends) (cut_of_row n);
        reader = tt;
      },
    )

pub returns-in-None : goal.returns-in-None
returns-in-None g c =
    let counted = rw c.in-None.is at (c.in_ok-next_count.ensures.takes.ok _ refl) in (
      (refl, (λ _. tt), c.in_ok-next_count.ensures.ok ∙ ap behind_count c.in-None.is),
      record {
        takes = takes_done _ _ _ (took_weaker counted (λ _ h. (h, tt)));
        reader = tt;
      },
    )

pub returns-in_ok-read_fields-in-Some : goal.returns-in_ok-read_fields-in-Some
returns-in_ok-read_fields-in-Some g c =
    let n = c.in-Some.field-0 in
    let counted = rw c.in-Some.is at (c.in_ok-next_count.ensures.takes.ok _ refl) in
    let pends = ap (λ s. s.pending) c.in_ok-next_count.ensures.ok ∙ c.in-Some.is in
    let row = c.in_ok-read_fields-in-Some.field-0 in (
      (refl, (λ _. tt), rw c.in_ok-read_fields-in-Some.was at c.read_fields.follows.holds-at-none),
      record {
        takes = takes_done _ _ _ (took_then counted ((c.in_ok-read_fields-in-Some.ensures.takes n pends).ok _ refl) (λ x y count fields. (
          row_of n (cells_of row) x y count (c.in_ok-read_fields-in-Some.ensures.many n pends) fields.0,
          fields.1 ∙ ap (λ l. l ++ y) (sym count.1),
        )));
        reader = tt;
      },
    )
