-- What the program keeps of the words that it has read, and of a plan.
use Rattle.std.specs.Prelude.{◌≡◌, ℕ, ◌-◌, ◌≤◌, ◌<◌, ◌==◌, List, [], length, codes, option_map, IfSome}
use Rattle.std.specs.List.{filter_map, list_all}
use Rattle.std.specs.Str.Parse.{digits_value}
use Rattle.std.specs.Option.{unwrap_or}
use Rattle.pgw_meta.specs.Types.{column_shapes}
use Rattle.pgw_tree.specs.Limits.{default_limits}
use Rattle.pgcopy.specs.declared.words.Plan.{Plan}
use Rattle.pgcopy.specs.declared.words.WordsRead.{WordsRead}
use Rattle.pgcopy.specs.Words.{type_of, is_option, digits_in, columns_fault, first_fault, limits_in, PlanData}

-- the numbers of the options among these words, and how many types they have
pub record AreRead (seen : WordsRead) (words : List (List ℕ)) : Type 0 where
  pub rows : seen.rows ≡ option_map (digits_value 10) (digits_in (codes "rows=") words)
  pub field : seen.field ≡ option_map (digits_value 10) (digits_in (codes "field=") words)
  pub field_fits : IfSome seen.field (λ n. n ≤ 2147483647)
  pub types : seen.types ≡ length (filter_map type_of words)
  pub begun : (seen.types == 0) ≡ list_all is_option words

-- Nothing is wrong with a single one of these words, and this is what their options and their types are. There are 1 to
-- 32767 types.
pub record AreColumns (seen : WordsRead) (words : List (List ℕ)) : Type 0 where
  pub rows : unwrap_or seen.rows default_limits.rows_max ≡ (limits_in words).rows_max
  pub field : unwrap_or seen.field default_limits.field_max ≡ (limits_in words).field_max
  pub field_fits : IfSome seen.field (λ n. n ≤ 2147483647)
  pub types : seen.types ≡ length (filter_map type_of words)
  pub some : 1 ≤ seen.types
  pub few : seen.types ≤ 32767
  pub fewer : seen.types < length words
  pub fault : first_fault [] words ≡ columns_fault (length words - seen.types) (filter_map type_of words)

-- what a plan asks for
abbrev pub plan_data : Plan → PlanData
plan_data plan = record { limits = plan.limits; entries = plan.entries; columns = column_shapes plan.schema }
