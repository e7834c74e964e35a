-- What a codec leaves that appends the piece of a value and asks no lookup.
use Rattle.std.specs.Prelude.{◌≡◌, ◌++◌, ℕ, List, Result, Ok, Err}
use Rattle.pgw_wire.specs.Output.{IsSameOutput}
use Rattle.pgw_wire.specs.declared.is_null.IsNull.{IsNull}
use Rattle.pgw_wire.specs.declared.is_null.IsNull.TheVariants.{No}
use Rattle.pgw_wire.specs.declared.output.Output.{Output}
use Rattle.pgw_meta.specs.declared.serialize.WriteError.{WriteError}
use Rattle.pgw_meta.specs.declared.serialize.WriteError.TheVariants.{NoMemory}

-- At Ok it is no null, and the bytes are the piece. The one error is want of memory, which says nothing of the bytes.
abbrev pub IsAnswerOf : List ℕ → Result IsNull WriteError → List ℕ → Type 0
IsAnswerOf piece (Ok null) bytes = (null ≡ No) × (bytes ≡ piece)
IsAnswerOf piece (Err e) bytes = e ≡ NoMemory

-- Bytes were appended with this answer for the piece. Nothing else of the output has changed, and the lookup is as
-- before.
pub record WrotePiece {L : Type 0} (before now : Output L) (piece : List ℕ) (result : Result IsNull WriteError)
    : Type 0 where
  pub bytes : List ℕ
  pub buffer : now.out.now.bytes ≡ before.out.now.bytes ++ bytes
  pub answer : IsAnswerOf piece result bytes
  pub same : IsSameOutput before now
  pub lookup : now.lookup.now ≡ before.lookup.now
