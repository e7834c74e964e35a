-- What becomes of the canonical field of what was read, which is appended to bytes, for the crate's own functions.
use Rattle.std.specs.Prelude.{◌≡◌, ℕ, ◌<◌, ◌≤◌, List, ◌++◌, Result, Ok, Err}
use Rattle.pgw_wire.specs.declared.kind.Break.{Break}
use Rattle.pgw_cell.specs.declared.append.AppendFault.{AppendFault}
use Rattle.pgw_cell.specs.declared.append.AppendFault.TheVariants.{Break as Broken, TooLong, NoMemory}

-- What was read has a field, in which so many bytes of it may stand: the field was appended, or nothing was, and why.
pub data Appended {A : Type 0} (read : Result A Break) (size : A → ℕ) (field : A → List ℕ) (most : ℕ) (old new : List ℕ)
    (result : Result (Unit {0}) AppendFault) : Type 0 where
  has_field : (x : A) → read ≡ Ok x → size x ≤ most → new ≡ old ++ field x → result ≡ Ok tt
      → Appended read size field most old new result
  has_break : (kind : Break) → read ≡ Err kind → new ≡ old → result ≡ Err (Broken kind)
      → Appended read size field most old new result
  is_long : (x : A) → read ≡ Ok x → most < size x → new ≡ old → result ≡ Err TooLong
      → Appended read size field most old new result
  lacks_memory : (x : A) → read ≡ Ok x → size x ≤ most → new ≡ old → result ≡ Err NoMemory
      → Appended read size field most old new result
