-- The members of a value as the components of a record, behind the count. For the crate's own functions.
use Rattle.std.specs.Prelude.{◌≡◌, ℕ, List, length}
use Rattle.pgw_record.specs.Record.{Component, AreComponents, components_bytes, IsRecord}

-- The bytes are so many components, which spell the members.
pub record AreMembers {A : Type 0} (count : ℕ) (Spelled : A → List Component → Type 0) (bytes : List ℕ) (v : A)
    : Type 0 where
  pub components : List Component
  pub many : length components ≡ count
  pub each : AreComponents components
  pub is : bytes ≡ components_bytes components
  pub spelled : Spelled v components

-- The bytes are the field of a record whose components spell the members.
abbrev pub AreRecordMembers : {A : Type 0} → (A → List Component → Type 0) → List ℕ → A → Type 0
AreRecordMembers Spelled bytes v = IsRecord (Spelled v) bytes
