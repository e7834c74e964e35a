-- The pieces of an output whose lengths are written once they are known.
use Rattle.std.specs.Prelude.{◌+◌, ◌-◌, ◌≤◌, ℕ, List, [], ◌∷◌, length}
use Rattle.pgw_wire.specs.declared.output.Output.{Output}
use Rattle.pgw_meta.specs.declared.serialize.WriteError.{WriteError}
use Rattle.pgw_meta.specs.declared.serialize.WriteError.TheVariants.{TooMany, NoMemory}

-- the length of a null, -1
abbrev pub null_length : List ℕ
null_length = 255 ∷ 255 ∷ 255 ∷ 255 ∷ []

-- The four bytes at a place, counted from where the output began, are written.
abbrev pub IsWritten : {L : Type 0} → Output L → ℕ → Type 0
IsWritten out place = place + 4 ≤ length out.out.now.bytes - out.start

-- how many bytes stand behind these four
abbrev pub bytes_behind : {L : Type 0} → Output L → ℕ → ℕ
bytes_behind out place = length out.out.now.bytes - (out.start + place + 4)

-- A count is refused where it is above 2147483647, or memory is.
abbrev pub RefusesCount : ℕ → WriteError → Type 0
RefusesCount count TooMany = 2147483648 ≤ count
RefusesCount count NoMemory = Unit {0}
RefusesCount count e = ⊥
