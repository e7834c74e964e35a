-- What some command lines ask for, computed from the definitions.
use Rattle.std.proofs.Common.{◌≡◌, ℕ, List, [], ◌∷◌, ◌++◌, codes, Option, Some, None, option_map, Result, Ok, Err, refl, ap, subst, arith, inl}
use Rattle.std.proofs.lemmas.Option.{none-some}
use Rattle.pgw_meta.specs.Known.{Key}
use Rattle.pgw_meta.specs.Shape.{Shape, scalar, int4, int8, text, macaddr, macaddr8, date, timestamptz, numeric, nullable, array, range, multirange, named as named_type}
use Rattle.pgw_meta.specs.declared.found_oids.Found.{Found}
use Rattle.pgw_tree.specs.Limits.{default_limits}
use Rattle.pgcopy.specs.declared.words.WordFault.{WordFault}
use Rattle.pgcopy.specs.declared.words.WordFault.TheVariants.{NoCommand, UnknownCommand, BadNumber, Repeated, BadOid, BadType, DeepType, NoTypes, Schema, NotYet}
use Rattle.pgcopy.specs.OidWords.{SpellsEntry, entry_in}
use Rattle.pgcopy.proofs.Entries.{none_twice}
use Rattle.pgcopy.specs.Words.{named, missing, type_of, PlanData, IsPlan, HasNoPlan, PlacedFault, IsFirstFault, IsFaultAs, is_option_behind, IsFaultBetween, plan_of_texts}
use Rattle.pgcopy.proofs.TypeNames.{columns_are}
use Rattle.pgcopy.proofs.ColumnFaults.{fine_columns}
use Rattle.pgcopy.proofs.Plans.{found_is_plan, plan_is_found, fault_no_plan, found_is_first}

-- a key
abbrev key : Option (List ℕ) → List ℕ → Key
key schema name = record { schema = schema; name = name }

types_named : (type_of (codes "int4") ≡ Some (scalar int4)) × (type_of (codes "text?") ≡ Some (nullable (scalar text)))
    × (type_of (codes "macaddr8") ≡ Some (scalar macaddr8)) × (type_of (codes "macaddr?") ≡ Some (nullable (scalar macaddr)))
types_named = (refl, refl, refl, refl)

named_nothing : (type_of [] ≡ None) × (type_of (codes "?") ≡ None) × (type_of (codes "?int4") ≡ None) × (type_of (codes "int4 ") ≡ None)
named_nothing = (refl, refl, refl, refl)

-- arrays: of an element that is not null, of one that may be, and each of them or null
arrays_named : (type_of (codes "int4[]") ≡ Some (array (scalar int4))) × (type_of (codes "int4?[]") ≡ Some (array (nullable (scalar int4))))
    × (type_of (codes "text[]?") ≡ Some (nullable (array (scalar text)))) × (type_of (codes "text?[]?") ≡ Some (nullable (array (nullable (scalar text)))))
arrays_named = (refl, refl, refl, refl)

-- ranges and multiranges, which stand where a scalar type does
ranges_named : (type_of (codes "int4range") ≡ Some (range (scalar int4))) × (type_of (codes "numrange?") ≡ Some (nullable (range (scalar numeric))))
    × (type_of (codes "tstzmultirange") ≡ Some (multirange (scalar timestamptz))) × (type_of (codes "daterange?[]") ≡ Some (array (nullable (range (scalar date)))))
    × (type_of (codes "int8multirange[]?") ≡ Some (nullable (array (multirange (scalar int8)))))
ranges_named = (refl, refl, refl, refl, refl)

no_ranges : (type_of (codes "int2range") ≡ None) × (type_of (codes "numericrange") ≡ None) × (type_of (codes "timerange") ≡ None) × (type_of (codes "tsrange[") ≡ None)
no_ranges = (refl, refl, refl, refl)

no_arrays : (type_of (codes "[]") ≡ None) × (type_of (codes "?[]") ≡ None) × (type_of (codes "int4[") ≡ None) × (type_of (codes "int4]") ≡ None) × (type_of (codes "int4 []") ≡ None)
    × (type_of (codes "int4[ ]") ≡ None)
no_arrays = (refl, refl, refl, refl, refl, refl)

-- texts of types that no column may have, and of ones with keys
doubled : (type_of (codes "int4??") ≡ Some (nullable (nullable (scalar int4)))) × (type_of (codes "int4[][]") ≡ Some (array (array (scalar int4))))
doubled = (refl, refl)

keyed : (type_of (codes "@citext:text?") ≡ Some (nullable (named_type (key None (codes "citext")) (scalar text))))
    × (type_of (codes "@my.mood:text[]") ≡ Some (array (named_type (key (Some (codes "my")) (codes "mood")) (scalar text))))
keyed = (refl, refl)

-- records are not copied yet
records : (type_of (codes "(int4,text)") ≡ None) × (type_of (codes "@t:(int4)") ≡ None)
records = (refl, refl)

-- the entry of a name in a schema
abbrev entry : List ℕ → List ℕ → ℕ → ℕ → Found
entry schema name oid array_oid = record { key = record { schema = Some schema; name = name }; oid = oid; array_oid = array_oid }

-- 63 letters, the longest name
abbrev longest : List ℕ
longest = codes "abcdefghijklmnopqrstuvwxyzabcdefghijklmnopqrstuvwxyzabcdefghijk"

spelled : (entry_in (codes "citext:16400:16405") ≡ Some (entry (codes "public") (codes "citext") 16400 16405))
    × (entry_in (codes "my_Schema1.t:0:4294967295") ≡ Some (entry (codes "my_Schema1") (codes "t") 0 4294967295))
    × (entry_in (codes "7:00:00000000000012") ≡ Some (entry (codes "public") (codes "7") 0 12))
    × (option_map (λ (e : Found). e.key.name) (entry_in (longest ++ codes ":1:2")) ≡ Some longest)
spelled = (refl, refl, refl, refl)

spelled_by_hand : SpellsEntry (codes "public.t:01:2") (entry (codes "public") (codes "t") 1 2)
spelled_by_hand = record {
  text = codes "public.t";
  oid = codes "01";
  array_oid = codes "2";
  is = refl;
  schema = codes "public";
  in_schema = refl;
  stands_for = inl refl;
  schema_is_name = refl;
  name_is_name = refl;
  oid_is = refl;
  array_oid_is = refl;
}

not_names : (entry_in (codes ":1:2") ≡ None) × (entry_in (codes ".t:1:2") ≡ None) × (entry_in (codes "s.:1:2") ≡ None) × (entry_in (codes "a.b.t:1:2") ≡ None)
    × (entry_in (codes "t-t:1:2") ≡ None) × (entry_in (codes " t:1:2") ≡ None) × (entry_in (97 ∷ longest ++ codes ":1:2") ≡ None) × (entry_in (195 ∷ 164 ∷ codes ":1:2") ≡ None)
not_names = (refl, refl, refl, refl, refl, refl, refl, refl)

not_oids : (entry_in (codes "t:1") ≡ None) × (entry_in (codes "t") ≡ None) × (entry_in [] ≡ None) × (entry_in (codes "t:1:2:3") ≡ None) × (entry_in (codes "t::2") ≡ None)
    × (entry_in (codes "t:1:") ≡ None) × (entry_in (codes "t:+1:2") ≡ None) × (entry_in (codes "t:1:-2") ≡ None) × (entry_in (codes "t:1: 2") ≡ None)
    × (entry_in (codes "t:4294967296:2") ≡ None) × (entry_in (codes "t:1:4294967296") ≡ None)
not_oids = (refl, refl, refl, refl, refl, refl, refl, refl, refl, refl, refl)

-- what the entry of `public.t` tells: of `t` without a schema, and of no other schema
told : (named (record { limits = default_limits; entries = entry (codes "public") (codes "t") 1 2 ∷ []; columns = [] }) (record { schema = None; name = codes "t" }) ≡ Some (record { oid = 1; array_oid = 2 }))
    × (named (record { limits = default_limits; entries = entry (codes "public") (codes "t") 1 2 ∷ []; columns = [] }) (record { schema = Some (codes "public"); name = codes "t" }) ≡ Some (record { oid = 1; array_oid = 2 }))
    × (named (record { limits = default_limits; entries = entry (codes "my") (codes "t") 1 2 ∷ []; columns = [] }) (record { schema = None; name = codes "t" }) ≡ None)
told = (refl, refl, refl)

-- the shape of the arrays of a key's type, and what some entries and columns ask for
abbrev arrays_of : Key → Shape
arrays_of k = array (named_type k (scalar text))

abbrev asks : List Found → List Shape → PlanData
asks entries columns = record { limits = default_limits; entries = entries; columns = columns }

-- A column of a named type needs no oid, and one of its arrays the type's, which the entry of its name in its schema has.
nothing_missing : (missing (asks [] (named_type (key None (codes "t")) (scalar text) ∷ scalar int4 ∷ [])) ≡ None)
    × (missing (asks (entry (codes "public") (codes "t") 1 0 ∷ []) (arrays_of (key None (codes "t")) ∷ [])) ≡ None)
    × (missing (asks (entry (codes "my") (codes "t") 1 2 ∷ []) (arrays_of (key (Some (codes "my")) (codes "t")) ∷ [])) ≡ None)
nothing_missing = (refl, refl, refl)

-- It is missing without an entry, where that stands in another schema, and where its oid is 0. Of two the first counts, in
-- the order of the columns.
first_missing : (missing (asks [] (arrays_of (key None (codes "t")) ∷ [])) ≡ Some (key None (codes "t")))
    × (missing (asks (entry (codes "my") (codes "t") 1 2 ∷ []) (arrays_of (key None (codes "t")) ∷ [])) ≡ Some (key None (codes "t")))
    × (missing (asks (entry (codes "public") (codes "t") 0 2 ∷ []) (arrays_of (key None (codes "t")) ∷ [])) ≡ Some (key None (codes "t")))
    × (missing (asks (entry (codes "public") (codes "t") 1 2 ∷ []) (arrays_of (key None (codes "t")) ∷ arrays_of (key None (codes "v")) ∷ arrays_of (key None (codes "u")) ∷ [])) ≡ Some (key None (codes "v")))
first_missing = (refl, refl, refl, refl)

-- words without options
types_alone : IsPlan (codes "copy" ∷ codes "int4" ∷ codes "text?" ∷ []) (record { limits = default_limits; entries = []; columns = scalar int4 ∷ nullable (scalar text) ∷ [] })
types_alone = record {
  options = [];
  types = codes "int4" ∷ codes "text?" ∷ [];
  is = refl;
  known = refl;
  rows = refl;
  field = refl;
  entries = tt;
  once = none_twice;
  columns = columns_are (codes "int4" ∷ codes "text?" ∷ []) (scalar int4 ∷ nullable (scalar text) ∷ []) refl;
  valid = fine_columns 0 (scalar int4 ∷ nullable (scalar text) ∷ []) refl;
}

both_limits : IsPlan (codes "copy" ∷ codes "field=02" ∷ codes "rows=15" ∷ codes "text" ∷ []) (record { limits = record { rows_max = 15; field_max = 2 }; entries = []; columns = scalar text ∷ [] })
both_limits = record {
  options = codes "field=02" ∷ codes "rows=15" ∷ [];
  types = codes "text" ∷ [];
  is = refl;
  known = refl;
  rows = (refl, refl);
  field = (refl, refl);
  entries = tt;
  once = none_twice;
  columns = columns_are (codes "text" ∷ []) (scalar text ∷ []) refl;
  valid = fine_columns 0 (scalar text ∷ []) refl;
}

with_entries : IsPlan (codes "copy" ∷ codes "oid=t:1:2" ∷ codes "rows=15" ∷ codes "oid=my.t:3:4" ∷ codes "text" ∷ [])
    (record { limits = record { rows_max = 15; field_max = 2147483647 }; entries = entry (codes "public") (codes "t") 1 2 ∷ entry (codes "my") (codes "t") 3 4 ∷ []; columns = scalar text ∷ [] })
with_entries = found_is_plan _ _ refl

most_rows : plan_of_texts (codes "copy" ∷ codes "rows=18446744073709551615" ∷ codes "int4" ∷ []) ≡ Ok (record { limits = default_limits; entries = []; columns = scalar int4 ∷ [] })
most_rows = refl

no_words : HasNoPlan []
no_words plan p = let no : [] ≡ codes "copy" ∷ (p.options ++ p.types) = p.is in cc

other_command : HasNoPlan (codes "cpy" ∷ codes "int4" ∷ [])
other_command plan p = let no : codes "cpy" ∷ codes "int4" ∷ [] ≡ codes "copy" ∷ (p.options ++ p.types) = p.is in cc

-- the words state another limit
other_limit : IsPlan (codes "copy" ∷ codes "rows=15" ∷ codes "text" ∷ []) (record { limits = record { rows_max = 16; field_max = 2147483647 }; entries = []; columns = scalar text ∷ [] }) → ⊥
other_limit p = let no : 15 ≡ 16 = ap rows_of (plan_is_found _ _ p) in omega (arith, no)
  where
    rows_of : Result PlanData PlacedFault → ℕ
    rows_of (Ok plan) = plan.limits.rows_max
    rows_of (Err wrong) = 0

-- the words have no plan, and this fault at this place
abbrev Wrong : List (List ℕ) → ℕ → WordFault → Type 0
Wrong words place fault = HasNoPlan words × IsFirstFault words (record { place = place; fault = fault })

wrong : (words : List (List ℕ)) (place : ℕ) (fault : WordFault) → plan_of_texts words ≡ Err (record { place = place; fault = fault }) → Wrong words place fault
wrong words place fault found = (fault_no_plan words _ found, found_is_first words _ found)

again_by_hand : IsFirstFault (codes "copy" ∷ codes "rows=1" ∷ codes "rows=2" ∷ []) (record { place = 2; fault = Repeated })
again_by_hand = record {
  before = codes "copy" ∷ codes "rows=1" ∷ [];
  after = codes "rows=2" ∷ [];
  is = refl;
  fault = (refl, refl);
  first = fine;
}
  where
    fine : (front : List (List ℕ)) (word : List ℕ) (back : List (List ℕ)) → codes "copy" ∷ codes "rows=1" ∷ [] ≡ front ++ word ∷ back → (other : PlacedFault) → IsFaultBetween front (word ∷ back) other → ⊥
    fine [] word back e other h = let same : word ≡ codes "copy" = cc in h.0 same
    fine (a ∷ []) word back e other h =
        let same : word ≡ codes "rows=1" = cc in
        none-some other.fault (subst (λ w. IsFaultAs (is_option_behind [] w) [] w other.fault) same h.1)
    fine (a ∷ b ∷ []) word back e other h = cc
    fine (a ∷ b ∷ c ∷ front) word back e other h = cc

nothing : Wrong [] 0 NoCommand
nothing = wrong [] 0 NoCommand refl

unknown : Wrong (codes "cpy" ∷ codes "int4" ∷ []) 0 UnknownCommand
unknown = wrong _ 0 UnknownCommand refl

again : Wrong (codes "copy" ∷ codes "rows=1" ∷ codes "rows=2" ∷ codes "int4" ∷ []) 2 Repeated
again = wrong _ 2 Repeated refl

form_first : Wrong (codes "copy" ∷ codes "rows=1" ∷ codes "rows=x" ∷ codes "int4" ∷ []) 2 BadNumber
form_first = wrong _ 2 BadNumber refl

too_many_rows : Wrong (codes "copy" ∷ codes "rows=18446744073709551616" ∷ codes "int4" ∷ []) 1 BadNumber
too_many_rows = wrong _ 1 BadNumber refl

too_long_fields : Wrong (codes "copy" ∷ codes "field=2147483648" ∷ codes "int4" ∷ []) 1 BadNumber
too_long_fields = wrong _ 1 BadNumber refl

no_digits : Wrong (codes "copy" ∷ codes "rows=" ∷ codes "int4" ∷ []) 1 BadNumber
no_digits = wrong _ 1 BadNumber refl

behind_a_type : Wrong (codes "copy" ∷ codes "int4" ∷ codes "rows=1" ∷ []) 2 (BadType 0)
behind_a_type = wrong _ 2 (BadType 0) refl

no_space : Wrong (codes "copy" ∷ codes "int4 " ∷ []) 1 (BadType 4)
no_space = wrong _ 1 (BadType 4) refl

ends_early : Wrong (codes "copy" ∷ codes "(int4" ∷ []) 1 (BadType 5)
ends_early = wrong _ 1 (BadType 5) refl

-- The 32nd suffix is too deep, though fewer of them make no column.
many_marks : Wrong (codes "copy" ∷ codes "int4[][][][][][][][][][][][][][][][][][][][][][][][][][][][][][][][]" ∷ []) 1 (DeepType 66)
many_marks = wrong _ 1 (DeepType 66) refl

no_records : Wrong (codes "copy" ∷ codes "(int4)" ∷ []) 1 NotYet
no_records = wrong _ 1 NotYet refl

marked_twice : Wrong (codes "copy" ∷ codes "rows=1" ∷ codes "text" ∷ codes "int4??" ∷ []) 3 (Schema 3)
marked_twice = wrong _ 3 (Schema 3) refl

arrays_of_arrays : Wrong (codes "copy" ∷ codes "int4[]?[]" ∷ codes "int4??" ∷ []) 1 (Schema 4)
arrays_of_arrays = wrong _ 1 (Schema 4) refl

-- A word that is no text of a type comes before the columns' faults.
words_first : Wrong (codes "copy" ∷ codes "int4??" ∷ codes "int" ∷ []) 2 (BadType 0)
words_first = wrong _ 2 (BadType 0) refl

bad_oid : Wrong (codes "copy" ∷ codes "oid=t:1" ∷ codes "int4" ∷ []) 1 BadOid
bad_oid = wrong _ 1 BadOid refl

oid_behind_a_type : Wrong (codes "copy" ∷ codes "int4" ∷ codes "oid=t:1:2" ∷ []) 2 (BadType 3)
oid_behind_a_type = wrong _ 2 (BadType 3) refl

oids_again : Wrong (codes "copy" ∷ codes "oid=t:1:2" ∷ codes "rows=1" ∷ codes "oid=public.t:3:4" ∷ codes "int4" ∷ []) 3 Repeated
oids_again = wrong _ 3 Repeated refl

oid_form_first : Wrong (codes "copy" ∷ codes "oid=t:1:2" ∷ codes "oid=t:x:2" ∷ codes "int4" ∷ []) 2 BadOid
oid_form_first = wrong _ 2 BadOid refl

other_schema : plan_of_texts (codes "copy" ∷ codes "oid=t:1:2" ∷ codes "oid=my.t:3:4" ∷ codes "int4" ∷ [])
    ≡ Ok (record { limits = default_limits; entries = entry (codes "public") (codes "t") 1 2 ∷ entry (codes "my") (codes "t") 3 4 ∷ []; columns = scalar int4 ∷ [] })
other_schema = refl

options_alone : Wrong (codes "copy" ∷ codes "rows=1" ∷ []) 2 NoTypes
options_alone = wrong _ 2 NoTypes refl
