-- What the members of a value are written as, one after the other, over what their types say of each.
use Rattle.std.specs.Prelude.{◌≡◌, ◌+◌, ◌⊎◌, ⊤, ℕ, List, [], ◌∷◌, length, Result, Ok, Err}
use Rattle.pgw_wire.specs.Cell.{Cell}
use Rattle.pgw_wire.specs.declared.is_null.IsNull.{IsNull}
use Rattle.pgw_wire.specs.declared.is_null.IsNull.TheVariants.{Yes, No}
use Rattle.pgw_meta.specs.Known.{Key, Oids, Known}
use Rattle.pgw_meta.specs.Naming.{Naming}
use Rattle.pgw_meta.specs.Writing.{Writes, IsWriteRefused}
use Rattle.pgw_meta.specs.declared.serialize.WriteError.{WriteError}
use Rattle.pgw_nested.specs.Written.{WritesKnown, IsWrittenAs, IsRefusedWith, IsUnknown}
use Rattle.pgw_record.specs.Record.{Component, component_bytes, components_bytes, record_bytes}

-- The member is written as the component: with the oid of its type, and the cell that it is written as.
abbrev pub IsComponentOf : {A : Type 0} → Naming → Writes A → Known → A → Component → Type 0
IsComponentOf naming writes known v c =
    (oids : Oids) × (naming.oids known ≡ Ok oids) × (c.oid ≡ oids.oid) × IsWrittenAs (writes known) c.cell v

-- why it is refused: the key of its type is not known, or it is refused as a value of that
abbrev pub RefusesComponent : {A : Type 0} → Naming → Writes A → Known → A → WriteError → Type 0
RefusesComponent naming writes known v e =
    ((key : Key) × (naming.oids known ≡ Err key) × IsUnknown key e)
    ⊎ ((oids : Oids) × (naming.oids known ≡ Ok oids) × IsRefusedWith (writes known) v e)

-- what is said of members: how many there are, as which components they are written, and with which error they are
-- refused
pub record WrittenMembers : Type 1 where
  pub count : ℕ
  pub written : List Component → Type 0
  pub refused : WriteError → Type 0

abbrev pub IsNone : List Component → Type 0
IsNone [] = ⊤
IsNone (c ∷ cs) = ⊥

abbrev pub no_member : WrittenMembers
no_member = record { count = 0; written = IsNone; refused = λ _. ⊥ }

-- The component in front is so, and of the others this is so.
abbrev pub IsInFront : (Component → Type 0) → (List Component → Type 0) → List Component → Type 0
IsInFront Is Others [] = ⊥
IsInFront Is Others (c ∷ cs) = Is c × Others cs

-- A member in front of others. The first that is refused is this one or, where it is written, one behind it.
abbrev pub member : {A : Type 0} → Naming → Writes A → Known → A → WrittenMembers → WrittenMembers
member naming writes known v others = record {
  count = 1 + others.count;
  written = IsInFront (IsComponentOf naming writes known v) others.written;
  refused = λ e. RefusesComponent naming writes known v e
      ⊎ ((c : Component) × IsComponentOf naming writes known v c × others.refused e);
}

-- A record is never null. It is written as its components, or refused as its members are.
abbrev pub WritesRecord : WrittenMembers → Result IsNull WriteError → List ℕ → Type 0
WritesRecord members (Ok Yes) bytes = ⊥
WritesRecord members (Ok No) bytes =
    (components : List Component) × members.written components × (bytes ≡ record_bytes components)
WritesRecord members (Err e) bytes = members.refused e

-- ---- what the crate's own calls leave of the output

-- A component with this oid was written.
abbrev pub WroteCell : {A : Type 0} → WritesKnown A → ℕ → A → List ℕ → Result (Unit {0}) WriteError → Type 0
WroteCell writes oid v bytes (Ok u) =
    (cell : Cell) × IsWrittenAs writes cell v × (bytes ≡ component_bytes (record { oid = oid; cell = cell }))
WroteCell writes oid v bytes (Err e) = IsWriteRefused (IsRefusedWith writes v) e

-- One member was written.
abbrev pub WroteComponent : {A : Type 0} → Naming → Writes A → Known → A → List ℕ → Result (Unit {0}) WriteError
    → Type 0
WroteComponent naming writes known v bytes (Ok u) =
    (c : Component) × IsComponentOf naming writes known v c × (bytes ≡ component_bytes c)
WroteComponent naming writes known v bytes (Err e) = IsWriteRefused (RefusesComponent naming writes known v) e

-- Members were written, one behind the other.
abbrev pub WroteMembers : WrittenMembers → List ℕ → Result (Unit {0}) WriteError → Type 0
WroteMembers members bytes (Ok u) =
    (components : List Component) × (length components ≡ members.count) × members.written components
    × (bytes ≡ components_bytes components)
WroteMembers members bytes (Err e) = IsWriteRefused members.refused e
