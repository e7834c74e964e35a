use Rattle.std.proofs.Common.{rules, tests, ◌≡◌, ◌≢◌, length}
use Rattle.std.proofs.lemmas.Iterator.{IsFirst-from_position, YieldsList-from_slice}
use Rattle.std.proofs.lemmas.List.{length-map}
use Rattle.pgw_row.specs.Results.{row_of}
use Rattle.pgw_row.proofs.Ragged.{first_of_images}
use Rattle.pgw_row.proofs.result.first_ragged.Goals as goal

pub returns : goal.returns
returns c =
    first_of_images row_of (λ row. length row ≢ c.args.columns) (λ row. length row ≡ c.args.columns) c.args.rows.now c.position.result
    (IsFirst-from_position _ _ _ (λ row. length (row_of row) ≢ c.args.columns) (λ row. length (row_of row) ≡ c.args.columns) c.position.ensures.ran
    (YieldsList-from_slice c.args.rows.now cc) (λ x q k. search (rules, tests, length-map)) (λ x q k. search (rules, tests, length-map)))
