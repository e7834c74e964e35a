-- What a source or a sink in memory is told to do, and how far it has come.
use Rattle.std.specs.Prelude.{ℕ, ◌-◌, ◌^◌, ◌==◌, Bool, List, length, drop, min, max, slice_get, unwrap_or}
use Rattle.std.specs.List.{list_any}
use Rattle.pgw_wire.specs.Outside.{counted}

-- the numbers of the calls that fail, counted from 0, how many calls there were, and how many of them failed
pub record Calls : Type 0 where
  pub fails : List ℕ
  pub calls : ℕ
  pub faults : ℕ

-- before any call
abbrev pub no_calls : List ℕ → Calls
no_calls fails = record { fails = fails; calls = 0; faults = 0 }

-- whether the next call is one of those that fail
abbrev pub is_failing : Calls → Bool
is_failing c = list_any (λ k. k == c.calls) c.fails

abbrev pub succeeded : Calls → Calls
succeeded c = record c { calls = counted c.calls }

abbrev pub failed : Calls → Calls
failed c = record c { calls = counted c.calls; faults = counted c.faults }

-- at most how many bytes each call that succeeds moves, and how many succeeded
pub record Cuts : Type 0 where
  pub most : List ℕ
  pub successes : ℕ

-- At most how many bytes the next call moves: its cut, where 0 counts as 1. Behind the list there is no bound.
abbrev pub limit_of : Cuts → ℕ
limit_of c = max 1 (unwrap_or (slice_get c.most c.successes) (2 ^ 64 - 1))

abbrev pub next_cut : Cuts → Cuts
next_cut c = record c { successes = counted c.successes }

-- a source's bytes, and how many of them were taken
pub record Reading : Type 0 where
  pub bytes : List ℕ
  pub taken : ℕ
  pub calls : Calls
  pub cuts : Cuts

abbrev pub left_of : Reading → List ℕ
left_of r = drop r.taken r.bytes

-- how many bytes a read into a buffer of this length gives
abbrev pub given : ℕ → Reading → ℕ
given room r = min (min (length (left_of r)) room) (limit_of r.cuts)

-- what a sink has gained, and whether that is settled
pub record Writing : Type 0 where
  pub bytes : List ℕ
  pub settled : Bool
  pub calls : Calls
  pub cuts : Cuts

-- how many bytes of a piece a write takes
abbrev pub accepted : List ℕ → Writing → ℕ
accepted piece w = min (length piece) (limit_of w.cuts)
