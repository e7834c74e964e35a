-- What writing a value answers, with the bytes that it appended.
use Rattle.std.specs.Prelude.{ℕ, List, Result, Ok, Err, ⊤}
use Rattle.pgw_meta.specs.Known.{Known}
use Rattle.pgw_meta.specs.declared.metadata_lookup.LookupError.{LookupError}
use Rattle.pgw_meta.specs.declared.metadata_lookup.LookupError.TheVariants as lookup
use Rattle.pgw_meta.specs.declared.serialize.WriteError.{WriteError}
use Rattle.pgw_meta.specs.declared.serialize.WriteError.TheVariants.{LookupFailed, NoMemory}
use Rattle.pgw_wire.specs.declared.is_null.IsNull.{IsNull}

-- what the values of a type are written as: under what is known, the answer for a value and its bytes
abbrev pub Writes : Type 0 → Type 1
Writes A = Known → A → Result IsNull WriteError → List ℕ → Type 0

-- That the lookup failed, or that memory was refused, says nothing of the value. Any other error is one of its own.
abbrev pub IsWriteRefused : (WriteError → Type 0) → WriteError → Type 0
IsWriteRefused refuses LookupFailed = ⊤
IsWriteRefused refuses NoMemory = ⊤
IsWriteRefused refuses e = refuses e

-- The value is written so, unless it is not said.
abbrev pub Wrote : {A : Type 0} → Writes A → Known → A → List ℕ → Result IsNull WriteError → Type 0
Wrote writes k v bytes (Ok null) = writes k v (Ok null) bytes
Wrote writes k v bytes (Err e) = IsWriteRefused (λ e. writes k v (Err e) bytes) e

-- the error of a writer whose lookup has this error
abbrev pub error_of : LookupError → WriteError
error_of lookup.Failed = LookupFailed
error_of lookup.NoMemory = NoMemory
