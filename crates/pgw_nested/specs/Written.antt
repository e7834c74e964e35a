-- What the values of an array are written as, over what their type says of each.
use Rattle.std.specs.Prelude.{◌≡◌, ◌<◌, ◌≤◌, ◌⊎◌, ◌++◌, ℕ, List, ◌∷◌, length, None, Some, Result, Ok, Err}
use Rattle.pgw_wire.specs.Cell.{Cell}
use Rattle.pgw_wire.specs.declared.is_null.IsNull.{IsNull}
use Rattle.pgw_wire.specs.declared.is_null.IsNull.TheVariants.{Yes, No}
use Rattle.pgw_meta.specs.Known.{Key, Oids}
use Rattle.pgw_meta.specs.Metadata.{failed_key}
use Rattle.pgw_meta.specs.Naming.{Naming}
use Rattle.pgw_meta.specs.Writing.{Writes}
use Rattle.pgw_meta.specs.declared.serialize.WriteError.{WriteError}
use Rattle.pgw_meta.specs.declared.serialize.WriteError.TheVariants.{UnknownType, TooMany}
use Rattle.pgw_nested.specs.Array.{Each, array_bytes}

-- what values of a type are written as, under what is known
abbrev pub WritesKnown : Type 0 → Type 1
WritesKnown A = A → Result IsNull WriteError → List ℕ → Type 0

-- The value is written as the cell: as a null, of which no byte stays, or as a piece of at most 2147483647 bytes.
abbrev pub IsWrittenAs : {A : Type 0} → WritesKnown A → Cell → A → Type 0
IsWrittenAs writes None v = (bytes : List ℕ) × writes v (Ok Yes) bytes
IsWrittenAs writes (Some piece) v = writes v (Ok No) piece × (length piece < 2147483648)

-- The value is refused with its own error, or because its piece is longer.
abbrev pub IsRefusedWith : {A : Type 0} → WritesKnown A → A → WriteError → Type 0
IsRefusedWith writes v e =
    (bytes : List ℕ) × (writes v (Err e) bytes ⊎ (writes v (Ok No) bytes × (2147483648 ≤ length bytes) × (e ≡ TooMany)))

-- The first of the values that is not written as a cell is refused with the error.
pub record FirstRefused {A : Type 0} (writes : WritesKnown A) (values : List A) (e : WriteError) : Type 0 where
  pub front : List A
  pub cells : List Cell
  pub value : A
  pub behind : List A
  pub is : values ≡ front ++ (value ∷ behind)
  pub written : Each (IsWrittenAs writes) cells front
  pub refused : IsRefusedWith writes value e

-- It is the error that the key is not known.
abbrev pub IsUnknown : Key → WriteError → Type 0
IsUnknown key (UnknownType error) = failed_key error ≡ key
IsUnknown key _ = ⊥

-- why values are no elements of an array: there are more than 2147483647, or one of them is refused
abbrev pub RefusesElements : {A : Type 0} → WritesKnown A → List A → WriteError → Type 0
RefusesElements writes values e =
    ((2147483648 ≤ length values) × (e ≡ TooMany)) ⊎ ((length values < 2147483648) × FirstRefused writes values e)

-- An array is never null. It is written as its cells, with the oid of the elements' type. It is refused because the key
-- of that type is not known, and else because its elements are.
abbrev pub WritesArray : {A : Type 0} → Naming → Writes A → Writes (List A)
WritesArray element writes known values (Ok Yes) bytes = ⊥
WritesArray element writes known values (Ok No) bytes =
    (oids : Oids) × (cells : List Cell) × (element.oids known ≡ Ok oids) × (length values < 2147483648)
    × Each (IsWrittenAs (writes known)) cells values × (bytes ≡ array_bytes oids.oid cells)
WritesArray element writes known values (Err e) bytes =
    ((key : Key) × (element.oids known ≡ Err key) × IsUnknown key e)
    ⊎ ((oids : Oids) × (element.oids known ≡ Ok oids) × RefusesElements (writes known) values e)
