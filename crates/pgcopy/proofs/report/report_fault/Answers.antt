use mir.Val.{SFits}
use Rattle.std.proofs.Common.{append_assoc, rules, w16}
use Rattle.std.proofs.lemmas.Int.{to_z-of_z}
use Rattle.pgcopy.proofs.report.report_fault.Goals as goal

pub returns-in-BadFlags : goal.returns-in-BadFlags
returns-in-BadFlags g c = record { line = rw c.in-BadFlags.is (rw c.flags_text-text.ensures at c.send_all-in-BadFlags.ensures.gained) }

pub returns-in-BadFieldCount : goal.returns-in-BadFieldCount
returns-in-BadFieldCount g c = record {
  line = let range : SFits w16 c.in-BadFieldCount.count = search rules in
      rw c.in-BadFieldCount.is (rw (c.as_bytes-count.ensures.value, c.format.ensures.text, to_z-of_z w16 c.in-BadFieldCount.count range) at c.send_all-in-BadFieldCount.ensures.gained);
}

pub returns-in-UnexpectedEndOfRow : goal.returns-in-UnexpectedEndOfRow
returns-in-UnexpectedEndOfRow g c = record { line = rw (c.in-UnexpectedEndOfRow.is, append_assoc) (rw (c.as_bytes-row.ensures.value, c.format-in-UnexpectedEndOfRow.ensures.text) at c.send_all-in-UnexpectedEndOfRow.ensures.gained) }

pub returns-in-ReadFault : goal.returns-in-ReadFault
returns-in-ReadFault g c = record { line = rw c.in-ReadFault.is c.send_all-in-ReadFault.ensures.gained }

pub returns-in-WriteFault : goal.returns-in-WriteFault
returns-in-WriteFault g c = record { line = rw c.in-WriteFault.is c.send_all-in-WriteFault.ensures.gained }

pub returns-in-NoMemory : goal.returns-in-NoMemory
returns-in-NoMemory g c = record { line = rw c.in-NoMemory.is c.send_all-in-NoMemory.ensures.gained }
