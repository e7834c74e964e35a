-- What writing a value answers, by the size of its canonical cell.
use Rattle.std.proofs.Common.{◌≡◌, ℕ, ◌+◌, ◌≤◌, List, ◌++◌, length, Some, Result, Ok, Err, refl, sym, ap, ◌∙◌, arith, append_assoc, length-append}
use Rattle.std.specs.Int.{to_be_bytes, w32}
use Rattle.pgw_wire.specs.Cell.{Cell, size_of}
use Rattle.pgw_wire.specs.Room.{Room}
use Rattle.pgw_cell.specs.Wrote.{Wrote, Began}
use Rattle.pgw_cell.specs.declared.write.WriteCellFault.{WriteCellFault}
use Rattle.pgw_cell.specs.declared.write.WriteCellFault.TheVariants.{TooLong, NoMemory}

-- A cell that is too long is not written.
pub too_long : (most : ℕ) (c : Cell) (r : Result (Unit {0}) WriteCellFault) (old new : Room) → Wrote most c r old new → (size_of c ≤ most → ⊥) → r ≡ Err TooLong
too_long most c (Ok x) old new w long = absurd (long w.fits)
too_long most c (Err TooLong) old new w long = refl
too_long most c (Err NoMemory) old new w long = absurd (long (w.memory refl))

-- A field that was begun, and whose piece was appended then, was written.
pub wrote_all : (most size : ℕ) (p : List ℕ) (r : Result (Unit {0}) WriteCellFault) (old begun new : Room) → length p ≡ size → r ≡ Ok tt → Began most size r old begun
    → new.bytes ≡ begun.bytes ++ p → new.spare + length p ≡ begun.spare → Wrote most (Some p) (Ok tt) old new
wrote_all most size p (Ok x) old begun new many is b more spare = record {
  ok = more ∙ ap (λ l. l ++ p) b.ok ∙ append_assoc old.bytes (to_be_bytes w32 size) p ∙ ap (λ n. old.bytes ++ (to_be_bytes w32 n ++ p)) (sym many);
  fits = omega (arith, many, b.fits);
  long = λ e. absurd (cc);
  memory = λ e. absurd (cc);
  kept = tt;
  spare = omega (arith, b.spare, spare, length-append (to_be_bytes w32 (length p)) p);
  suffices = λ short room. refl;
}
wrote_all most size p (Err e) old begun new many is b more spare = absurd (cc)

-- One that was not begun was not written.
pub wrote_none : (most size : ℕ) (p : List ℕ) (e : WriteCellFault) (old new : Room) → length p ≡ size → Began most size (Err e) old new → Wrote most (Some p) (Err e) old new
wrote_none most size p e old new many b = record {
  ok = tt;
  fits = tt;
  long = λ is. omega (arith, many, b.long is);
  memory = λ is. omega (arith, many, b.memory is);
  kept = b.kept;
  spare = omega (arith, b.spare, length-append (to_be_bytes w32 (length p)) p);
  suffices = λ short room. b.suffices (omega (arith, many, short)) (omega (arith, many, room, length-append (to_be_bytes w32 (length p)) p));
}
