-- Which of the oids that are needed of named types a lookup has, and which need it lacks first.
use Rattle.std.specs.Prelude.{◌≡◌, ◌==◌, ◌&&◌, not, Bool, true, false, List, [], ◌∷◌, Option, None, Some, Result, Err, ⊤, if◌then◌else◌}
use Rattle.std.specs.Option.{option_map_or}
use Rattle.pgw_wire.specs.Outside.{HasFailed}
use Rattle.pgw_meta.specs.Known.{Key, Oids, Known, LookupState}
use Rattle.pgw_meta.specs.Keys.{owned_key}
use Rattle.pgw_meta.specs.Needs.{NeededKey}
use Rattle.pgw_meta.specs.NamedOids.{known_of}
use Rattle.pgw_meta.specs.declared.found_oids.Found.{Found}
use Rattle.pgw_meta.specs.declared.key.TypeKey.{TypeKey}
use Rattle.pgw_meta.specs.declared.metadata_lookup.LookupError.{LookupError}
use Rattle.pgw_meta.specs.declared.metadata_lookup.LookupError.TheVariants.{Failed, NoMemory as no_memory_left}
use Rattle.pgw_tree.specs.declared.fault.CopyFault.{CopyFault}
use Rattle.pgw_tree.specs.declared.fault.CopyFault.TheVariants.{UnknownType, LookupFault, NoMemory}

-- Those of the two oids that are needed are not 0, which is the oid of no type.
abbrev pub meets : NeededKey → Oids → Bool
meets n oids = not (n.type_side && oids.oid == 0) && not (n.array_side && oids.array_oid == 0)

-- The key is known, and its oids are those that are needed.
abbrev pub is_met : Known → NeededKey → Bool
is_met known n = option_map_or (meets n) (known n.key) false

-- the key of the first need that is not met
abbrev pub first_unmet : Known → List NeededKey → Option Key
first_unmet known [] = None
first_unmet known (n ∷ ns) = if is_met known n then first_unmet known ns else Some n.key

-- Entries cover needs: by what they tell of keys, each need is met.
abbrev pub Covers : List Found → List NeededKey → Type 0
Covers entries needs = first_unmet (known_of entries) needs ≡ None

abbrev pub entry_oids : Found → Oids
entry_oids f = record { oid = f.oid; array_oid = f.array_oid }

-- An entry of a needed key, with oids that meet the need: where a lookup tells what it knows, those that it knows.
pub record IsFound (told : Option Known) (n : NeededKey) (f : Found) : Type 0 where
  pub key : owned_key f.key ≡ n.key
  pub meets_it : meets n (entry_oids f) ≡ true
  pub is_known : (known : Known) → told ≡ Some known → known n.key ≡ Some (entry_oids f)

-- an entry for each need, in the same order
abbrev pub AreFound : Option Known → List NeededKey → List Found → Type 0
AreFound told [] [] = ⊤
AreFound told [] (f ∷ fs) = ⊥
AreFound told (n ∷ ns) [] = ⊥
AreFound told (n ∷ ns) (f ∷ fs) = IsFound told n f × AreFound told ns fs

-- Where a lookup tells what it knows, this is the key of the first need that is not met.
abbrev pub IsFirstUnmet : Option Known → List NeededKey → Key → Type 0
IsFirstUnmet told needs key = (known : Known) → told ≡ Some known → first_unmet known needs ≡ Some key

-- Each need is met by what a lookup tells that it knows. Where there is no need, it may tell nothing.
abbrev pub AreMet : Option Known → List NeededKey → Type 0
AreMet told [] = ⊤
AreMet told (n ∷ ns) = (known : Known) × (told ≡ Some known) × (first_unmet known (n ∷ ns) ≡ None)

-- A lookup that was asked has failed. Where there is no need, it is not asked.
abbrev pub HasFailedAsked : List NeededKey → LookupState → LookupState → Type 0
HasFailedAsked [] before now = ⊥
HasFailedAsked (n ∷ ns) before now = HasFailed before now

-- a fault of looking the needs up
abbrev pub IsLookupFault : CopyFault → Type 0
IsLookupFault (UnknownType key) = ⊤
IsLookupFault LookupFault = ⊤
IsLookupFault _ = ⊥

-- the fault of a copy that an error of its lookup is
abbrev pub looked_up_fault : LookupError → CopyFault
looked_up_fault Failed = LookupFault
looked_up_fault no_memory_left = NoMemory

-- the answer that the type of this key is not known
abbrev pub IsUnknownType : {T : Type 0} → Result T CopyFault → Key → Type 0
IsUnknownType (Err (UnknownType k)) key = owned_key k ≡ key
IsUnknownType _ key = ⊥

-- Why needs were not all found, for the crate's own functions: of a key that has `First`, or a lookup that has failed.
pub data LookupCause (First : Key → Type 0) (Failed : Type 0) (fault : CopyFault) : Type 0 where
  unknown_type : (key : TypeKey) → fault ≡ UnknownType key → First (owned_key key) → LookupCause First Failed fault
  lookup_fault : fault ≡ LookupFault → Failed → LookupCause First Failed fault
  no_memory : fault ≡ NoMemory → LookupCause First Failed fault
