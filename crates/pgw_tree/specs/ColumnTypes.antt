-- What is known of the types of columns whose rows are copied.
use Rattle.std.specs.Prelude.{List, map, refl, true}
use Rattle.std.proofs.Math.Bool.{Bool-set}
use Rattle.std.specs.List.{AllByRecursion, AllByRecursion-prop}
use Rattle.pgw_meta.specs.Known.{Known}
use Rattle.pgw_meta.specs.Schema.{has_ranges}
use Rattle.pgw_meta.specs.Shape.{Shape, scalar, nullable, array, range, multirange, composite, named}
use Rattle.pgw_cell.specs.Built.{IsBuilt}
use Rattle.pgw_cell.specs.Plain.{plain_cell}
use Rattle.pgw_cell.specs.declared.plain.PlainCell.{PlainCell}

-- Rows of columns of these types can be copied.
abbrev pub AreBuilt : List Shape → Type 0
AreBuilt columns = AllByRecursion IsBuilt columns

-- That has one proof at most, as what a struct keeps must.
IsBuilt-prop : (t : Shape) → IsProp (IsBuilt t)
IsBuilt-prop (scalar s) = λ x y. refl
IsBuilt-prop (nullable t) = IsBuilt-prop t
IsBuilt-prop (array t) = IsBuilt-prop t
IsBuilt-prop (range t) = Bool-set (has_ranges t) true
IsBuilt-prop (multirange t) = Bool-set (has_ranges t) true
IsBuilt-prop (composite ts) = λ x y. absurd x
IsBuilt-prop (named k t) = IsBuilt-prop t

pub AreBuilt-prop : (columns : List Shape) → IsProp (AreBuilt columns)
AreBuilt-prop columns = AllByRecursion-prop IsBuilt IsBuilt-prop columns

-- by what canonical fields of the columns are known, where these are the oids of named types
abbrev pub plain_cells : Known → List Shape → List PlainCell
plain_cells known columns = map (plain_cell known) columns
