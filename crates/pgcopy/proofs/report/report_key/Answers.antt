use Rattle.std.proofs.Common.{append_assoc}
use Rattle.pgcopy.proofs.report.report_key.Goals as goal

pub returns-in-Some : goal.returns-in-Some
returns-in-Some g c = record {
  line = rw (c.in-Some.is, append_assoc, append_assoc) (rw (c.as_bytes-schema.ensures.value, c.as_str-in-Some.ensures, c.as_bytes-name.ensures.value, c.as_str.ensures) at c.send_all.ensures.gained);
}

pub returns-in-None : goal.returns-in-None
returns-in-None g c = record { line = rw c.in-None.is (rw (c.as_bytes-name.ensures.value, c.as_str.ensures) at c.send_all-in-None.ensures.gained) }
