-- What writing a cell leaves in a buffer.
use Rattle.std.specs.Prelude.{◌≡◌, ℕ, ◌<◌, ◌≤◌, ◌+◌, ◌++◌, length, Result, Err, IsOk, OnOk, OnErr}
use Rattle.std.specs.Int.{to_be_bytes, w32}
use Rattle.pgw_wire.specs.Cell.{Cell, frame, size_of}
use Rattle.pgw_wire.specs.Room.{Room}
use Rattle.pgw_cell.specs.declared.write.WriteCellFault.{WriteCellFault}
use Rattle.pgw_cell.specs.declared.write.WriteCellFault.TheVariants.{TooLong, NoMemory}

-- The field of a cell of at most so many bytes was appended, or the cell has more, or memory was refused.
pub record Wrote (most : ℕ) (c : Cell) (result : Result (Unit {0}) WriteCellFault) (old new : Room) : Type 0 where
  pub ok : OnOk result (new.bytes ≡ old.bytes ++ frame c)
  pub fits : OnOk result (size_of c ≤ most)
  pub long : result ≡ Err TooLong → most < size_of c
  pub memory : result ≡ Err NoMemory → size_of c ≤ most
  pub kept : OnErr result (new.bytes ≡ old.bytes)
  pub spare : old.spare ≤ new.spare + length (frame c)
  pub suffices : size_of c ≤ most → length (frame c) ≤ old.spare → IsOk result

-- The length of a piece of so many bytes was appended, and there is room for the piece; or it has more bytes than it may
-- have, or memory was refused.
pub record Began (most size : ℕ) (result : Result (Unit {0}) WriteCellFault) (old new : Room) : Type 0 where
  pub ok : OnOk result (new.bytes ≡ old.bytes ++ to_be_bytes w32 size)
  pub room : OnOk result (size ≤ new.spare)
  pub fits : OnOk result (size ≤ most)
  pub long : result ≡ Err TooLong → most < size
  pub memory : result ≡ Err NoMemory → size ≤ most
  pub kept : OnErr result (new.bytes ≡ old.bytes)
  pub spare : old.spare ≤ new.spare + 4
  pub suffices : size ≤ most → 4 + size ≤ old.spare → IsOk result
