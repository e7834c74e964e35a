-- What the words of a command line ask for: the limits, the oids that they give types, and the types of the columns to
-- copy, or the first thing that is wrong.
use Rattle.std.specs.Prelude.{ℕ, ◌+◌, ◌-◌, ◌≡◌, ◌≢◌, ◌==◌, ◌&&◌, ◌||◌, List, [], ◌∷◌, ◌++◌, length, drop, map, String, string_bytes, codes, Option, None, Some, is_some, option_map, Result, Ok, Err, Bool, true, false, IsTrue, IsFalse, if◌then◌else◌}
use Rattle.std.specs.List.{filter_map, starts_with, list_all, list_any, AllZip, IsDistinct}
use Rattle.std.specs.Option.{option_or, option_and_then, option_map_or}
use Rattle.std.specs.Result.{result_ok, result_err}
use Rattle.std.specs.Str.{bytes_eq}
use Rattle.std.specs.Str.Parse.{digits_value}
use Rattle.pgw_meta.specs.Shape.{Shape}
use Rattle.pgw_meta.specs.Schema.{IsValidSchema, schema_fault, fault_number}
use Rattle.pgw_meta.specs.declared.schema.SchemaError.{SchemaError}
use Rattle.pgw_meta.specs.declared.schema.SchemaError.TheVariants.{NestedNullable, NestedArray, BadRange, EmptyRecord, WideRecord, BadNamed, TooDeep as DeepColumn}
use Rattle.pgw_notation.specs.Tokens.{tokens}
use Rattle.pgw_notation.specs.Faults.{IsTextOf, IsFaultOf}
use Rattle.pgw_notation.specs.Reading.{start, read_tokens}
use Rattle.pgw_notation.specs.declared.fault.TypeFault.{TypeFault}
use Rattle.pgw_notation.specs.declared.fault.TypeFault.TheVariants.{Syntax, TooDeep, NoMemory}
use Rattle.pgw_meta.specs.Known.{Key, Known}
use Rattle.pgw_meta.specs.Needs.{is_same_key, needs_of}
use Rattle.pgw_meta.specs.NamedOids.{known_of}
use Rattle.pgw_meta.specs.Catalog.{in_schema}
use Rattle.pgw_meta.specs.declared.found_oids.Found.{Found}
use Rattle.pgw_tree.specs.Limits.{Limits, default_limits}
use Rattle.pgw_cell.specs.Value.{Value}
use Rattle.pgw_tree.specs.Lookups.{first_unmet}
use Rattle.pgw_tree.specs.Canonical.{canonical_front}
use Rattle.pgcopy.specs.Numbers.{is_number}
use Rattle.pgcopy.specs.OidWords.{SpellsEntry, entry_in, schema_of, entry_key}
use Rattle.pgcopy.specs.declared.words.WordFault.{WordFault}
use Rattle.pgcopy.specs.declared.words.WordFault.TheVariants.{NoCommand, UnknownCommand, BadNumber, Repeated, BadOid, BadType, DeepType, NoTypes, Schema, NotYet}

-- whether a word has a `(`, as the text of a type has where a record stands in it; records are not copied yet
abbrev pub has_record : List ℕ → Bool
has_record word = list_any (λ byte. byte == 40) word

-- A word is the text of the type of a column.
pub record IsColumn (word : List ℕ) (t : Shape) : Type 0 where
  pub text : IsTextOf t word
  pub copied : IsFalse (has_record word)

-- what stands in a word behind these bytes, where it begins with them
abbrev pub behind : List ℕ → List ℕ → Option (List ℕ)
behind front word = if starts_with ◌==◌ word front then Some (drop (length front) word) else None

-- whether a word is an option, where no type stands before it
abbrev pub is_option : List ℕ → Bool
is_option word =
    is_some (behind (codes "rows=") word) || is_some (behind (codes "field=") word) || is_some (behind (codes "oid=") word)

-- The limit that an option sets, by the digits of each word that is this option: without such a word it is `most`, and
-- with one the number of its digits. More do not stand in a plan.
abbrev pub IsSet : ℕ → List (List ℕ) → ℕ → Type 0
IsSet most [] limit = limit ≡ most
IsSet most (digits ∷ []) limit = (is_number most digits ≡ true) × (limit ≡ digits_value 10 digits)
IsSet most (digits ∷ again ∷ more) limit = ⊥

-- the bytes of the words
abbrev pub texts : {A : Type 0} → List (String A) → List (List ℕ)
texts words = map string_bytes words

-- How much to copy at most, the oids that types are given, and the types of the columns.
pub record PlanData : Type 0 where
  pub limits : Limits
  pub entries : List Found
  pub columns : List Shape

-- Words ask for this: the command `copy`, then options, each at most once, and then the texts of types that the columns of
-- a stream may have. Each option `oid=` is one entry, in their order, and no two have the same schema and name.
pub record IsPlan (words : List (List ℕ)) (plan : PlanData) : Type 0 where
  pub options : List (List ℕ)
  pub types : List (List ℕ)
  pub is : words ≡ codes "copy" ∷ (options ++ types)
  pub known : list_all is_option options ≡ true
  pub rows : IsSet default_limits.rows_max (filter_map (behind (codes "rows=")) options) plan.limits.rows_max
  pub field : IsSet default_limits.field_max (filter_map (behind (codes "field=")) options) plan.limits.field_max
  pub entries : AllZip SpellsEntry (filter_map (behind (codes "oid=")) options) plan.entries
  pub once : IsDistinct is_same_key (map entry_key plan.entries)
  pub columns : AllZip IsColumn types plan.columns
  pub valid : IsValidSchema plan.columns

-- No plan is what the words ask for.
abbrev pub HasNoPlan : List (List ℕ) → Type 0
HasNoPlan words = (plan : PlanData) → IsPlan words plan → ⊥

-- What the entries of a plan tell of a key: the oids of its name in its schema, which is `public` where it has none.
abbrev pub named : PlanData → Known
named plan key = known_of plan.entries (in_schema (schema_of key) key.name)

-- The key of the first type of which the columns of a plan need an oid that its entries do not give, or give as 0.
abbrev pub missing : PlanData → Option Key
missing plan = first_unmet (named plan) (needs_of plan.columns)

-- what rows of a plan are written as, by the oids that its entries give: the canonical stream up to the end of the rows
abbrev pub canonical_rows : PlanData → List (List Value) → List ℕ
canonical_rows plan = canonical_front (named plan) plan.columns

-- the entry of a word, where it is an option `oid=` and spells one
abbrev pub entry_of : List ℕ → Option Found
entry_of word = option_and_then entry_in (behind (codes "oid=") word)

-- the number of an option, or what is wrong with it: its digits, or that the option stands before it already
abbrev pub number_of : ℕ → List ℕ → Bool → Result ℕ WordFault
number_of most digits again =
    if is_number most digits then (if again then Err Repeated else Ok (digits_value 10 digits)) else Err BadNumber

-- the digits of the first of these words that begins so
abbrev pub digits_in : List ℕ → List (List ℕ) → Option (List ℕ)
digits_in front [] = None
digits_in front (word ∷ words) = option_or (behind front word) (digits_in front words)

-- what is wrong with the number of a word that is the option `front`, behind these words
abbrev pub number_fault : List ℕ → ℕ → List (List ℕ) → List ℕ → Option WordFault
number_fault front most before word =
    option_and_then (λ digits. result_err (number_of most digits (is_some (digits_in front before))))
    (behind front word)

-- what is wrong with an option `oid=` behind these words: it spells no entry, or one of these has its schema and name
abbrev pub oid_fault : List (List ℕ) → List ℕ → Option WordFault
oid_fault before word =
    option_map_or
    (λ (entry : Found). if is_some (known_of (filter_map entry_of before) (entry_key entry)) then Some Repeated else None)
    (entry_of word) (Some BadOid)

-- what is wrong with an option behind these words
abbrev pub option_fault : List (List ℕ) → List ℕ → Option WordFault
option_fault before word =
    if is_some (behind (codes "rows=") word) then number_fault (codes "rows=") default_limits.rows_max before word
    else if is_some (behind (codes "field=") word)
    then number_fault (codes "field=") default_limits.field_max before word
    else oid_fault before word

-- whether a word behind these words, the command not among them, is an option
abbrev pub is_option_behind : List (List ℕ) → List ℕ → Bool
is_option_behind before word = list_all is_option before && is_option word

-- This is wrong with a word that is to be the text of a column's type.
abbrev pub IsTypeFault : List ℕ → WordFault → Type 0
IsTypeFault word (BadType place) = IsFaultOf (Syntax place) word
IsTypeFault word (DeepType place) = IsFaultOf (TooDeep place) word
IsTypeFault word NotYet = ((t : Shape) × IsTextOf t word) × IsTrue (has_record word)
IsTypeFault word _ = ⊥

-- This is wrong with an option behind these words, or with the text of a type.
abbrev pub IsFaultAs : Bool → List (List ℕ) → List ℕ → WordFault → Type 0
IsFaultAs true before word fault = option_fault before word ≡ Some fault
IsFaultAs false before word fault = IsTypeFault word fault

-- the place of the word that a fault of columns names, where the first column is at the place `first`; a fault of all
-- columns has the place behind them
abbrev pub place_of : ℕ → ℕ → SchemaError → ℕ
place_of first behind (NestedNullable column) = first + column
place_of first behind (NestedArray column) = first + column
place_of first behind (BadRange column) = first + column
place_of first behind (EmptyRecord column) = first + column
place_of first behind (WideRecord column) = first + column
place_of first behind (BadNamed column) = first + column
place_of first behind (DeepColumn column) = first + column
place_of first behind _ = behind

-- What is wrong, and the place of its word, counted from 0. What is wrong with no single word has the place behind the
-- last.
pub record PlacedFault : Type 0 where
  pub place : ℕ
  pub fault : WordFault

abbrev pub placed : ℕ → WordFault → PlacedFault
placed place fault = record { place = place; fault = fault }

-- what is wrong with all columns together, of which the first is at this place
abbrev pub columns_fault : ℕ → List Shape → Option PlacedFault
columns_fault first [] = Some (placed first NoTypes)
columns_fault first (t ∷ ts) =
    option_map (λ e. placed (place_of first (first + length (t ∷ ts)) e) (Schema (fault_number e))) (schema_fault (t ∷ ts))

-- It is what is wrong with the type of a column, where each word is the text of one.
abbrev pub IsOfAColumn : WordFault → Type 0
IsOfAColumn (Schema number) = number ≢ 2
IsOfAColumn _ = ⊥

-- This is wrong with all words behind the command together: nothing is wrong with one of them, but with their columns.
pub record IsFaultOfAll (words : List (List ℕ)) (wrong : PlacedFault) : Type 0 where
  pub options : List (List ℕ)
  pub types : List (List ℕ)
  pub columns : List Shape
  pub is : words ≡ options ++ types
  pub known : list_all is_option options ≡ true
  pub are : AllZip IsColumn types columns
  pub fault : columns_fault (1 + length options) columns ≡ Some wrong

-- This is wrong at the place between the words `before` and the words `after`: with the first of `after`, and where there
-- is none, with all the words together.
abbrev pub IsFaultBetween : List (List ℕ) → List (List ℕ) → PlacedFault → Type 0
IsFaultBetween [] [] wrong = wrong ≡ placed 0 NoCommand
IsFaultBetween [] (command ∷ after) wrong = (command ≢ codes "copy") × (wrong ≡ placed 0 UnknownCommand)
IsFaultBetween (command ∷ before) (word ∷ after) wrong =
    (wrong.place ≡ length (command ∷ before)) × IsFaultAs (is_option_behind before word) before word wrong.fault
IsFaultBetween (command ∷ before) [] wrong = IsFaultOfAll before wrong

-- This is wrong with the words, and nothing is wrong with a word in front of it.
pub record IsFirstFault (words : List (List ℕ)) (wrong : PlacedFault) : Type 0 where
  pub before : List (List ℕ)
  pub after : List (List ℕ)
  pub is : words ≡ before ++ after
  pub fault : IsFaultBetween before after wrong
  pub first : (front : List (List ℕ)) (word : List ℕ) (back : List (List ℕ)) → before ≡ front ++ word ∷ back
      → (other : PlacedFault) → IsFaultBetween front (word ∷ back) other → ⊥

-- The same as it is read from left to right, for the crate's own functions. `proofs/Plans.antt` proves that they agree.

-- the type of a column that a word is the text of
abbrev pub type_of : List ℕ → Option Shape
type_of word = if has_record word then None else result_ok (read_tokens 0 start (tokens word))

abbrev pub as_word_fault : TypeFault → WordFault
as_word_fault (Syntax place) = BadType place
as_word_fault (TooDeep place) = DeepType place
as_word_fault NoMemory = NotYet

-- what is wrong with the text of a column's type
abbrev pub type_fault_of : List ℕ → Option WordFault
type_fault_of word =
    option_or
    (option_map as_word_fault (result_err (read_tokens 0 start (tokens word))))
    (if has_record word then Some NotYet else None)

-- what is wrong with a word behind these words, the command not among them
abbrev pub word_fault : List (List ℕ) → List ℕ → Option WordFault
word_fault before word = if is_option_behind before word then option_fault before word else type_fault_of word

-- what is wrong with all words behind the command together, where nothing is wrong with one of them
abbrev pub fault_of_all : List (List ℕ) → Option PlacedFault
fault_of_all words =
    columns_fault (1 + (length words - length (filter_map type_of words))) (filter_map type_of words)

-- what is wrong at the place between the words `before` and the words `after`
abbrev pub fault_between : List (List ℕ) → List (List ℕ) → Option PlacedFault
fault_between [] [] = Some (placed 0 NoCommand)
fault_between [] (command ∷ after) = if bytes_eq command (codes "copy") then None else Some (placed 0 UnknownCommand)
fault_between (command ∷ before) (word ∷ after) =
    option_map (placed (length (command ∷ before))) (word_fault before word)
fault_between (command ∷ before) [] = fault_of_all before

-- the first fault at a place not before the words `after`, where the words `before` stand in front of them
abbrev pub first_fault : List (List ℕ) → List (List ℕ) → Option PlacedFault
first_fault before [] = fault_between before []
first_fault before (word ∷ after) =
    option_or (fault_between before (word ∷ after)) (first_fault (before ++ word ∷ []) after)

-- the number that an option sets, or else its default
abbrev pub number_in : List ℕ → ℕ → List (List ℕ) → ℕ
number_in front default words = option_map_or (digits_value 10) (digits_in front words) default

abbrev pub limits_in : List (List ℕ) → Limits
limits_in words = record {
  rows_max = number_in (codes "rows=") default_limits.rows_max words;
  field_max = number_in (codes "field=") default_limits.field_max words;
}

abbrev pub plan_of_texts : List (List ℕ) → Result PlanData PlacedFault
plan_of_texts words =
    option_map_or Err (first_fault [] words)
    (Ok (record {
      limits = limits_in words;
      entries = filter_map entry_of words;
      columns = filter_map type_of words;
    }))

-- The plan of words, or their first fault. `IsPlan` and `IsFirstFault` say which these are, and `read_words` that they
-- agree.
abbrev pub plan_of : {A : Type 0} → List (String A) → Result PlanData PlacedFault
plan_of words = plan_of_texts (texts words)

-- Words that ask what the program is, and for no command: one of these three alone.
abbrev pub asks_about_texts : List (List ℕ) → Bool
asks_about_texts [] = false
asks_about_texts (word ∷ []) =
    bytes_eq word (codes "--help") || bytes_eq word (codes "-h") || bytes_eq word (codes "--version")
asks_about_texts (word ∷ other ∷ words) = false

abbrev pub asks_about : {A : Type 0} → List (String A) → Bool
asks_about words = asks_about_texts (texts words)
