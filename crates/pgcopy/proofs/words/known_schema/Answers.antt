use Rattle.std.proofs.Common.{sym, ap, ◌∙◌, subst, map, string_bytes}
use Rattle.std.proofs.lemmas.Result.{IfOk-weaker}
use Rattle.pgw_meta.specs.Types.{column_shapes}
use Rattle.pgw_tree.specs.ColumnTypes.{AreBuilt}
use Rattle.pgcopy.proofs.TypeNames.{all_built}
use Rattle.pgcopy.proofs.words.known_schema.Goals as goal

pub returns-clause-built : goal.returns-clause-built
returns-clause-built c =
    IfOk-weaker c.new.result _ _ (λ schema is. subst AreBuilt (sym (ap column_shapes is ∙ c.in_ok-columns.ensures)) (all_built (map string_bytes c.args.words.now))) c.new.ensures.columns
