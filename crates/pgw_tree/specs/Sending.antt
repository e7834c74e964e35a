-- Why the values that a row's first cells spell were not written, for the crate's own functions.
use Rattle.std.specs.Prelude.{◌≡◌, ℕ, ◌<◌, List, length}
use Rattle.pgw_wire.specs.Cell.{Cell}
use Rattle.pgw_wire.specs.declared.kind.Break.{Break}
use Rattle.pgw_tree.specs.declared.send_fault.SendFault.{SendFault}
use Rattle.pgw_tree.specs.declared.send_fault.SendFault.TheVariants.{TooFew, BadValue, TooLong, WriteFault, NoMemory}
use Rattle.pgw_tree.specs.declared.fault.CopyFault.{CopyFault}
use Rattle.pgw_tree.specs.declared.fault.CopyFault.TheVariants.{UnexpectedEndOfRow, BadValue as bad_value, TooLong as too_long, WriteFault as write_fault, NoMemory as no_memory}
use Rattle.pgw_meta.specs.Shape.{Shape}
use Rattle.pgw_tree.specs.Columns.{BreaksAt, IsLongAt}

-- Where the sink failed, Broken is so.
pub data SendCause (most : ℕ) (columns : List Shape) (cells : List Cell) (Broken : Type 0)
    (fault : SendFault) : Type 0 where
  has_too_few : fault ≡ TooFew → length cells < length columns → SendCause most columns cells Broken fault
  has_break : (column : ℕ) (kind : Break) → fault ≡ BadValue column kind → BreaksAt most columns cells column kind
      → SendCause most columns cells Broken fault
  has_long : (column : ℕ) → fault ≡ TooLong column → IsLongAt most columns cells column
      → SendCause most columns cells Broken fault
  has_broken : fault ≡ WriteFault → Broken → SendCause most columns cells Broken fault
  lacks_memory : fault ≡ NoMemory → SendCause most columns cells Broken fault

-- the fault of the copy, by the place of the row
abbrev pub in_row : ℕ → SendFault → CopyFault
in_row row TooFew = UnexpectedEndOfRow row
in_row row (BadValue column kind) = bad_value row column kind
in_row row (TooLong column) = too_long row column
in_row row WriteFault = write_fault
in_row row NoMemory = no_memory
