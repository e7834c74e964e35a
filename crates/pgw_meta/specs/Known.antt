-- What is known of types that are looked up by their names.
use Rattle.std.specs.Prelude.{ℕ, List, Option, Bool}
use Rattle.pgw_wire.specs.Outside.{Outside}

-- what a type is looked up by: the schema that it stands in, where one is said, and its name
pub record Key : Type 0 where
  pub schema : Option (List ℕ)
  pub name : List ℕ

-- the oid of a type, and that of its arrays
pub record Oids : Type 0 where
  pub oid : ℕ
  pub array_oid : ℕ

-- the two oids of each key that is known
abbrev pub Known : Type 0
Known = Key → Option Oids

-- what a lookup tells of what it knows, and whether it never fails
pub record Knowledge : Type 0 where
  pub known : Option Known
  pub faultless : Bool

abbrev pub LookupState : Type 0
LookupState = Outside Knowledge (Unit {0})

abbrev pub known : LookupState → Option Known
known s = s.told.known
