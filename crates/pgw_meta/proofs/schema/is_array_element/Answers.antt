use Rattle.std.proofs.Common.{sym, ap, ◌∙◌}
use Rattle.pgw_meta.specs.Schema.{is_array}
use Rattle.pgw_meta.proofs.OtherTypes.{no_null_around}
use Rattle.pgw_meta.proofs.schema.is_array_element.Goals as goal

pub returns-in_default : goal.returns-in_default
returns-in_default c = c.is_array-in_default.ensures ∙ ap is_array (sym (no_null_around c.args.t.now c.in_default.not-Nullable))
