-- The program's numerics as values, and what writing one answers, with the bytes that it appended.
use Rattle.std.specs.Prelude.{◌≡◌, ℕ, ◌<◌, ◌≤◌, ◌++◌, true, false, List, [], length, Result, Ok, Err, ⊤}
use Rattle.pgw_meta.specs.declared.serialize.WriteError.{WriteError}
use Rattle.pgw_meta.specs.declared.serialize.WriteError.TheVariants.{TooMany, NoMemory}
use Rattle.pgw_wire.specs.Output.{IsSameOutput}
use Rattle.pgw_wire.specs.declared.output.Output.{Output}
use Rattle.pgw_wire.specs.declared.is_null.IsNull.{IsNull}
use Rattle.pgw_wire.specs.declared.is_null.IsNull.TheVariants.{No}
use Rattle.pgw_numeric.specs.Numeric.{Numeric, number, not_a_number, field_bytes, digit_count, numeric_bytes}
use Rattle.pgw_numeric.specs.Field.{sign_word}
use Rattle.pgw_numeric.specs.declared.writing.Parts.{Parts}
use Rattle.pgw_numeric.specs.declared.numeric.PgNumeric.{PgNumeric}
use Rattle.pgw_numeric.specs.declared.numeric.PgNumeric.TheVariants.{Positive, Negative, NaN}

abbrev pub numeric_of : PgNumeric → Numeric
numeric_of (Positive weight scale digits) = number false weight scale digits.items
numeric_of (Negative weight scale digits) = number true weight scale digits.items
numeric_of NaN = not_a_number

-- A value of at most 65535 digits is written. One of more is refused, and nothing is written.
abbrev pub WritesNumeric : Numeric → Result IsNull WriteError → List ℕ → Type 0
WritesNumeric v (Ok null) bytes = (null ≡ No) × (digit_count v ≤ 65535) × (bytes ≡ numeric_bytes v)
WritesNumeric v (Err e) bytes = (e ≡ TooMany) × (65535 < digit_count v) × (bytes ≡ [])

-- The value is answered so, or memory was refused, which says nothing of it.
abbrev pub IsAnswerOf : Numeric → Result IsNull WriteError → List ℕ → Type 0
IsAnswerOf v (Err NoMemory) bytes = ⊤
IsAnswerOf v result bytes = WritesNumeric v result bytes

-- Bytes were appended with this answer for the value. Nothing else of the output has changed, and the lookup is as
-- before.
pub record WroteNumeric {L : Type 0} (before now : Output L) (v : Numeric) (result : Result IsNull WriteError)
    : Type 0 where
  pub bytes : List ℕ
  pub buffer : now.out.now.bytes ≡ before.out.now.bytes ++ bytes
  pub answer : IsAnswerOf v result bytes
  pub same : IsSameOutput before now
  pub lookup : now.lookup.now ≡ before.lookup.now

-- These parts stand in the field of the value.
pub record IsWrittenAs (v : Numeric) (parts : Parts) : Type 0 where
  pub many : digit_count v ≡ length parts.digits.now
  pub is : numeric_bytes v ≡ field_bytes parts.weight (sign_word parts.sign) parts.scale parts.digits.now
