-- The field of a record, and with which error a piece is refused that is none. Stated over the members of a value, one
-- after the other: what a cell spells as the member, and with what it fails as one. So this says what a record of any
-- members is.
use Rattle.std.specs.Prelude.{◌≡◌, ◌≢◌, ◌<◌, ◌^◌, ◌⊎◌, ◌++◌, ⊤, ℕ, true, List, [], ◌∷◌, length}
use Rattle.std.specs.Int.{w32, to_be_bytes, cast_signed}
use Rattle.pgw_wire.specs.Cell.{Cell, frame}
use Rattle.pgw_wire.specs.declared.kind.Break.{Break}
use Rattle.pgw_wire.specs.declared.sql_error.SqlError.{SqlError}
use Rattle.pgw_wire.specs.declared.sql_error.SqlError.TheVariants.{ShortBuffer, TupleCount, ZeroOid, Surplus}
use Rattle.pgw_nested.specs.Frames.{IsFramed, HasNoFrame}
use Rattle.pgw_nested.specs.Array.{kind_named}

-- a component of a record: the oid that is stated of its type, and its cell
pub record Component : Type 0 where
  pub oid : ℕ
  pub cell : Cell

-- The oid is any but 0, and a piece has at most 2147483647 bytes.
abbrev pub IsComponent : Component → Type 0
IsComponent c = (c.oid ≢ 0) × (c.oid < 2 ^ 32) × IsFramed true c.cell

abbrev pub AreComponents : List Component → Type 0
AreComponents [] = ⊤
AreComponents (c ∷ cs) = IsComponent c × AreComponents cs

-- how a component stands there: its oid in 4 bytes, and the frame of its cell
abbrev pub component_bytes : Component → List ℕ
component_bytes c = to_be_bytes w32 c.oid ++ frame c.cell

-- all of them, one behind the other
abbrev pub components_bytes : List Component → List ℕ
components_bytes [] = []
components_bytes (c ∷ cs) = component_bytes c ++ components_bytes cs

-- What a record of these components is written as: how many there are, in 4 bytes, and then each.
abbrev pub record_bytes : List Component → List ℕ
record_bytes cs = to_be_bytes w32 (length cs) ++ components_bytes cs

-- The field of a record with these components. Nothing stands behind the last.
pub record AreRecordComponents (bytes : List ℕ) (components : List Component) : Type 0 where
  pub few : length components < 2147483648
  pub each : AreComponents components
  pub is : bytes ≡ record_bytes components

-- The cell in front spells the value, and what is said of the others is so.
abbrev pub SpellsMember : {A : Type 0} → (Cell → A → Type 0) → A → (List Component → Type 0) → List Component → Type 0
SpellsMember Spell v Others [] = ⊥
SpellsMember Spell v Others (c ∷ cs) = Spell c.cell v × Others cs

-- behind the last member
abbrev pub SpellsNone : List Component → Type 0
SpellsNone [] = ⊤
SpellsNone (c ∷ cs) = ⊥

-- The field of a record whose components spell the members of a value.
pub record IsRecord (Spelled : List Component → Type 0) (bytes : List ℕ) : Type 0 where
  pub components : List Component
  pub are : AreRecordComponents bytes components
  pub spelled : Spelled components

-- The bytes end inside an oid, or that is 0. Each with the error that tells it.
abbrev pub HasNoOid : List ℕ → SqlError → Type 0
HasNoOid bytes error =
    ((length bytes < 4) × (error ≡ ShortBuffer))
    ⊎ ((rest : List ℕ) × (bytes ≡ to_be_bytes w32 0 ++ rest) × (error ≡ ZeroOid))

-- No component stands in front of the bytes: no oid stands there, or no frame behind it.
pub data HasNoComponent (bytes : List ℕ) (error : SqlError) : Type 0 where
  no_oid : HasNoOid bytes error → HasNoComponent bytes error
  no_cell : (oid : ℕ) (rest : List ℕ) → bytes ≡ to_be_bytes w32 oid ++ rest → oid ≢ 0 → oid < 2 ^ 32
      → HasNoFrame true rest error → HasNoComponent bytes error

-- The member in front fails, where no component stands there, or one whose cell fails. Or its cell spells a value, and
-- what stands behind it fails. `name` is how an error is told.
pub data FailsMember {A E : Type 0} (name : SqlError → E) (Spell : Cell → A → Type 0) (Fail : Cell → E → Type 0)
    (FailOthers : List ℕ → E → Type 0) (bytes : List ℕ) (e : E) : Type 0 where
  no_component : (error : SqlError) → HasNoComponent bytes error → e ≡ name error
      → FailsMember name Spell Fail FailOthers bytes e
  cell_fails : (c : Component) (behind : List ℕ) → bytes ≡ component_bytes c ++ behind → IsComponent c
      → Fail c.cell e → FailsMember name Spell Fail FailOthers bytes e
  fails_behind : (c : Component) (behind : List ℕ) (v : A) → bytes ≡ component_bytes c ++ behind → IsComponent c
      → Spell c.cell v → FailOthers behind e → FailsMember name Spell Fail FailOthers bytes e

-- Bytes behind the last component are a fault.
abbrev pub FailsNone : {E : Type 0} → (SqlError → E) → List ℕ → E → Type 0
FailsNone name bytes e = (bytes ≢ []) × (e ≡ name Surplus)

-- The bytes begin as no record of so many components does: they end inside the count, or have another. Each with the
-- error that tells it.
pub data BeginsNoRecord (bytes : List ℕ) (count : ℕ) (error : SqlError) : Type 0 where
  no_count : length bytes < 4 → error ≡ ShortBuffer → BeginsNoRecord bytes count error
  other_count : (n : ℕ) (rest : List ℕ) → bytes ≡ to_be_bytes w32 n ++ rest → n < 2 ^ 32 → n ≢ count
      → error ≡ TupleCount (cast_signed w32 count) (cast_signed w32 n) → BeginsNoRecord bytes count error

-- The first fault, from the left, of a piece that is the field of no record with so many members: in front of them, or
-- theirs.
pub data FailsRecord {E : Type 0} (name : SqlError → E) (members : ℕ) (FailMembers : List ℕ → E → Type 0)
    (bytes : List ℕ) (e : E) : Type 0 where
  fails_in_front : (error : SqlError) → BeginsNoRecord bytes members error → e ≡ name error
      → FailsRecord name members FailMembers bytes e
  fails_at_member : (rest : List ℕ) → bytes ≡ to_be_bytes w32 members ++ rest → FailMembers rest e
      → FailsRecord name members FailMembers bytes e

-- with which error the members are refused, and with which a piece is that is of no record
abbrev pub RefusesMember : {A : Type 0} → (Cell → A → Type 0) → (Cell → SqlError → Type 0)
    → (List ℕ → SqlError → Type 0) → List ℕ → SqlError → Type 0
RefusesMember Spell Refuse RefuseOthers bytes e = FailsMember (λ error. error) Spell Refuse RefuseOthers bytes e

abbrev pub RefusesNone : List ℕ → SqlError → Type 0
RefusesNone bytes e = FailsNone (λ error. error) bytes e

abbrev pub RefusesRecord : ℕ → (List ℕ → SqlError → Type 0) → List ℕ → SqlError → Type 0
RefusesRecord members RefuseMembers bytes e = FailsRecord (λ error. error) members RefuseMembers bytes e

-- in which kind the members break, and in which a piece does that is of no record
abbrev pub BreaksMember : {A : Type 0} → (Cell → A → Type 0) → (Break → Cell → Type 0) → (List ℕ → Break → Type 0)
    → List ℕ → Break → Type 0
BreaksMember Spell Broken BreakOthers bytes kind =
    FailsMember kind_named Spell (λ cell k. Broken k cell) BreakOthers bytes kind

abbrev pub BreaksNone : List ℕ → Break → Type 0
BreaksNone bytes kind = FailsNone kind_named bytes kind

abbrev pub BreaksRecord : ℕ → (List ℕ → Break → Type 0) → List ℕ → Break → Type 0
BreaksRecord members BreakMembers bytes kind = FailsRecord kind_named members BreakMembers bytes kind
