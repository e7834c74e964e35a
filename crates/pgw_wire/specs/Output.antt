-- What a call leaves of an output.
use Rattle.std.specs.Borrow.{Lends, follows_both, MutBor, Fml, RattleType}
use Rattle.std.specs.Prelude.{◌≡◌, ◌≤◌, [], length, take}
use Rattle.pgw_wire.specs.declared.output.Output.{Output}
use Rattle.pgw_wire.specs.contracts.output.Output.{the_row}
use Rattle.pgw_wire.specs.contracts.buffer.ByteBuffer.{the_row as buffer_row}
use mir.Syntax.{named}

-- It writes to the same buffer, asks the same lookup, and counts from the same place.
abbrev pub IsSameOutput : {L : Type 0} → Output L → Output L → Type 0
IsSameOutput before now =
    (now.out.ghost_name ≡ before.out.ghost_name) × (now.lookup.ghost_name ≡ before.lookup.ghost_name)
    × (now.start ≡ before.start)

-- The place that it counts from lies in the buffer.
abbrev pub StartsWithin : {L : Type 0} → Output L → Type 0
StartsWithin o = o.start ≤ length o.out.now.bytes

-- No byte in front of that place has changed, and it lies in the buffer still.
abbrev pub KeepsFront : {L : Type 0} → Output L → Output L → Type 0
KeepsFront before now =
    StartsWithin before → StartsWithin now × (take before.start now.out.now.bytes ≡ take before.start before.out.now.bytes)

module _ (L : RattleType) where
  -- The lookup is lent, and what is then left in it is the output's lookup.
  abbrev pub LendsLookup : MutBor (Output L.Denot) → MutBor L.Denot → Fml
  LendsLookup s r =
      Lends (the_row (record { mir = named 1; lft = [] }) L) L s r
      (λ lookup. record s.now { lookup = record s.now.lookup { now = lookup } })

  -- The buffer and the lookup are lent, and what is then left in them is the output's. All else of it is as before.
  abbrev pub LendsBoth : MutBor (Output L.Denot) → Output L.Denot → Fml
  LendsBoth s r =
      follows_both (the_row (record { mir = named 1; lft = [] }) L) buffer_row L
      s.ghost_name r.out.ghost_name r.lookup.ghost_name
      (λ out lookup. record s.now {
        out = record s.now.out { now = out };
        lookup = record s.now.lookup { now = lookup };
      })
