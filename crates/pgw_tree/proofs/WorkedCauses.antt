-- What the faults of a copy say of bytes that are written out, and of what was written of the rows before.
use Rattle.std.proofs.Common.{◌≡◌, ℕ, ◌<◌, negsuc, List, [], ◌∷◌, ◌++◌, Some, None, refl, inl, inr, lit<, lit≤, arith, ap, length, length-append}
use Rattle.pgw_wire.specs.Cell.{Cell}
use Rattle.pgw_wire.specs.declared.kind.Break.{Break}
use Rattle.pgw_wire.specs.declared.kind.Break.TheVariants.{Null, Size}
use Rattle.pgw_wire.specs.Outside.{WroteFront}
use Rattle.pgw_copy.specs.Format.{magic, IsRow}
use Rattle.pgw_tree.specs.declared.fault.CopyFault.{CopyFault}
use Rattle.pgw_tree.specs.declared.fault.CopyFault.TheVariants.{BadHeader, BadFlags, Truncated, BadFieldCount, UnexpectedEndOfRow, BadValue, TooLong, RowLimit, ReadFault, WriteFault, NoMemory}
use Rattle.pgw_meta.specs.Shape.{Shape, scalar, int4, text}
use Rattle.pgw_tree.specs.Canonical.{canonical_front}
use Rattle.pgw_tree.specs.Columns.{IsColumnAt}
use Rattle.pgw_tree.specs.Limits.{Limits, default_limits}
use Rattle.pgw_tree.specs.Causes.{bad_header, bad_flags, truncated_header, no_memory_at_first, RowCause, truncated, bad_field_count, unexpected_end_of_row, bad_value, too_long, row_limit, read_fault, no_memory, IsCutRowAt, Stopped, Unwritten, in_header, in_row, in_end, fault_says}
use Rattle.pgw_copy.proofs.Worked.{bad_magic, cut_in_field, high_flag, minus_two, empty_row}
use Rattle.pgw_tree.proofs.Worked.{plain, columns, values, field_42, field_null, null_row, plain_is_header, front_42, one_within}
use Rattle.pgw_tree.proofs.WorkedColumns.{null_breaks, three_bytes, long_text}
use Rattle.pgw_meta.specs.Known.{Known}

-- No named type is known.
abbrev unknown : Known
unknown key = None

-- Nothing is in front of the only column.
at_first : (most : ℕ) (t : Shape) (cell : Cell) → IsColumnAt most (t ∷ []) (cell ∷ []) 0 t cell
at_first most t cell = record { before = []; after = []; spelling = []; rest = []; values = []; columns_are = refl; cells_are = refl; place = refl; spelled = tt; each = refl; fit = tt }

-- What any cause says of a row limit, of a truncated stream, and of the row that a bad value names.
abbrev Says : Limits → ℕ → CopyFault → List ℕ → Type 0
Says limits before fault bytes = (fault ≡ RowLimit → before ≡ limits.rows_max) × (fault ≡ Truncated → IsCutRowAt limits before bytes) × ((row column : ℕ) (kind : Break) → fault ≡ BadValue row column kind → row ≡ before)

says : {limits : Limits} {ts : List Shape} {before : ℕ} {fault : CopyFault} {bytes : List ℕ} → RowCause limits ts before fault bytes → Says limits before fault bytes
says (truncated is cut) = ((λ e. absurd (cc (is, e))), (λ _. cut), (λ row column kind e. absurd (cc (is, e))))
says (bad_field_count count is bad) = ((λ e. absurd (cc (is, e))), (λ e. absurd (cc (is, e))), (λ row column kind e. absurd (cc (is, e))))
says (unexpected_end_of_row cells is row few) = ((λ e. absurd (cc (is, e))), (λ e. absurd (cc (is, e))), (λ r column kind e. absurd (cc (is, e))))
says (bad_value cells column kind is row breaks) = ((λ e. absurd (cc (is, e))), (λ e. absurd (cc (is, e))), (λ r c k e. cc (is, e)))
says (too_long cells column is row long) = ((λ e. absurd (cc (is, e))), (λ e. absurd (cc (is, e))), (λ r c k e. absurd (cc (is, e))))
says (row_limit count is count_is full) = ((λ _. full), (λ e. absurd (cc (is, e))), (λ r c k e. absurd (cc (is, e))))
says (read_fault is cut) = ((λ e. absurd (cc (is, e))), (λ e. absurd (cc (is, e))), (λ r c k e. absurd (cc (is, e))))
says (no_memory is allowed part) = ((λ e. absurd (cc (is, e))), (λ e. absurd (cc (is, e))), (λ r c k e. absurd (cc (is, e))))

-- At a fault of the header nothing was written: another magic, flags 00010000, and no byte at all, where the source ended
-- or memory was refused before it was read.
pub other_magic : fault_says default_limits columns (canonical_front unknown columns) BadHeader (λ written. written ≡ []) (80 ∷ 71 ∷ 67 ∷ 79 ∷ 80 ∷ 89 ∷ 10 ∷ 255 ∷ 13 ∷ 10 ∷ 1 ∷ 0 ∷ 0 ∷ 0 ∷ 0 ∷ 0 ∷ 0 ∷ 0 ∷ 0 ∷ [])
other_magic = inl (bad_header refl bad_magic, refl)

pub high_flags : fault_says default_limits columns (canonical_front unknown columns) (BadFlags 65536) (λ written. written ≡ []) (magic ++ 0 ∷ 1 ∷ 0 ∷ 0 ∷ 255 ∷ 255 ∷ 255 ∷ 255 ∷ [])
high_flags = inl (bad_flags 65536 refl high_flag, refl)

pub no_header : fault_says default_limits columns (canonical_front unknown columns) Truncated (λ written. written ≡ []) []
no_header = inl (truncated_header refl (inl (lit< tt)), refl)

pub no_header_memory : fault_says default_limits columns (canonical_front unknown columns) NoMemory (λ written. written ≡ []) []
no_header_memory = inl (no_memory_at_first refl refl, refl)

-- Behind one row: a row that ends inside its field, no byte at all, and the count -2.
pub cut_row : RowCause default_limits columns 1 Truncated (0 ∷ 1 ∷ 0 ∷ 0 ∷ 0 ∷ 4 ∷ 0 ∷ 0 ∷ 0 ∷ [])
cut_row = truncated refl (cut_in_field, λ _. lit< tt)

pub failed_in_row : RowCause default_limits columns 1 ReadFault (0 ∷ 1 ∷ 0 ∷ 0 ∷ 0 ∷ 4 ∷ 0 ∷ 0 ∷ 0 ∷ [])
failed_in_row = read_fault refl (cut_in_field, λ _. lit< tt)

pub truncated_at_once : RowCause (record { rows_max = 1; field_max = 2 }) columns 1 Truncated []
truncated_at_once = truncated refl (inl (lit< tt), λ two. omega (arith, two))

pub count_of_minus_two : RowCause default_limits columns 1 (BadFieldCount (negsuc 1)) (255 ∷ 254 ∷ [])
count_of_minus_two = bad_field_count (negsuc 1) refl minus_two

-- Where memory is refused, a part of the row was read, or all of it.
pub no_memory_within : RowCause default_limits columns 1 NoMemory (0 ∷ 1 ∷ 0 ∷ 0 ∷ 0 ∷ 4 ∷ 0 ∷ 0 ∷ 0 ∷ [])
no_memory_within = no_memory refl (lit< tt) (inl cut_in_field)

pub no_memory_behind : RowCause default_limits columns 1 NoMemory (0 ∷ 1 ∷ 255 ∷ 255 ∷ 255 ∷ 255 ∷ [])
no_memory_behind = no_memory refl (lit< tt) (inr (None ∷ [], null_row))

-- Where one row may be copied, the count of another one is over the limit, and not a row that is cut behind its count.
pub one_row_more : RowCause (record { rows_max = 1; field_max = 2 }) columns 1 RowLimit (0 ∷ 1 ∷ [])
one_row_more = row_limit 1 refl (lit< tt, refl) refl

pub below_limit : RowCause default_limits columns 1 RowLimit (0 ∷ 1 ∷ []) → ⊥
below_limit h = omega (arith, (says h).0 refl)

pub cut_over_limit : RowCause (record { rows_max = 1; field_max = 2 }) columns 1 Truncated (0 ∷ 1 ∷ 0 ∷ 0 ∷ 0 ∷ 4 ∷ 0 ∷ 0 ∷ 0 ∷ []) → ⊥
cut_over_limit h = omega (arith, ((says h).1 refl).1 (lit≤ tt))

-- A row with no field for the one column has too few.
pub few_fields : RowCause default_limits columns 0 (UnexpectedEndOfRow 0) (0 ∷ 0 ∷ [])
few_fields = unexpected_end_of_row [] refl (record { allowed = lit< tt; is = empty_row }) (lit< tt)

-- A null breaks, in any row that may be copied.
pub null_value : (row : ℕ) → row < 18446744073709551615 → RowCause default_limits columns row (BadValue row 0 Null) (0 ∷ 1 ∷ 255 ∷ 255 ∷ 255 ∷ 255 ∷ [])
null_value row allowed = bad_value (None ∷ []) 0 Null refl (record { allowed = allowed; is = null_row }) (record { enough = lit≤ tt; t = scalar int4; cell = None; placed = at_first 2147483647 (scalar int4) None; breaks = null_breaks })

-- No other row is named than the one behind the rows before.
pub other_row : (bytes : List ℕ) → RowCause default_limits columns 0 (BadValue 1 0 Null) bytes → ⊥
other_row bytes h = omega (arith, (says h).2 1 0 Null refl)

-- Three bytes for a number break.
pub short_value : RowCause default_limits columns 0 (BadValue 0 0 Size) (0 ∷ 1 ∷ 0 ∷ 0 ∷ 0 ∷ 3 ∷ 0 ∷ 0 ∷ 42 ∷ [])
short_value = bad_value (Some (0 ∷ 0 ∷ 42 ∷ []) ∷ []) 0 Size refl (record { allowed = lit< tt; is = row }) (record { enough = lit≤ tt; t = scalar int4; cell = Some (0 ∷ 0 ∷ 42 ∷ []); placed = at_first 2147483647 (scalar int4) (Some (0 ∷ 0 ∷ 42 ∷ [])); breaks = three_bytes })
  where
    row : IsRow (Some (0 ∷ 0 ∷ 42 ∷ []) ∷ []) (0 ∷ 1 ∷ 0 ∷ 0 ∷ 0 ∷ 3 ∷ 0 ∷ 0 ∷ 42 ∷ [])
    row = record { fields = 0 ∷ 0 ∷ 0 ∷ 3 ∷ 0 ∷ 0 ∷ 42 ∷ []; few = lit< tt; each = (_, [], (lit< tt, refl), refl, refl); is = refl }

-- A text of three bytes is too long where two are allowed.
pub long_value : RowCause (record { rows_max = 1; field_max = 2 }) (scalar text ∷ []) 0 (TooLong 0 0) (0 ∷ 1 ∷ 0 ∷ 0 ∷ 0 ∷ 3 ∷ 97 ∷ 98 ∷ 99 ∷ [])
long_value = too_long (Some (97 ∷ 98 ∷ 99 ∷ []) ∷ []) 0 refl (record { allowed = lit< tt; is = row }) long_text
  where
    row : IsRow (Some (97 ∷ 98 ∷ 99 ∷ []) ∷ []) (0 ∷ 1 ∷ 0 ∷ 0 ∷ 0 ∷ 3 ∷ 97 ∷ 98 ∷ 99 ∷ [])
    row = record { fields = 0 ∷ 0 ∷ 0 ∷ 3 ∷ 97 ∷ 98 ∷ 99 ∷ []; few = lit< tt; each = (_, [], (lit< tt, refl), refl, refl); is = refl }

-- A null in the second row stops the copy there, when the first row was written.
pub stopped : Stopped default_limits columns (canonical_front unknown columns) (BadValue 1 0 Null) (λ written. written ≡ plain ++ 0 ∷ 1 ∷ field_42) (plain ++ 0 ∷ 1 ∷ 0 ∷ 0 ∷ 0 ∷ 4 ∷ 0 ∷ 0 ∷ 0 ∷ 42 ∷ 0 ∷ 1 ∷ 255 ∷ 255 ∷ 255 ∷ 255 ∷ [])
stopped = record {
  front = plain ++ 0 ∷ 1 ∷ field_42;
  behind = 0 ∷ 1 ∷ field_null;
  rows = values ∷ [];
  begins = front_42;
  within = one_within;
  is = refl;
  cause = null_value 1 (lit< tt);
  written = refl;
}

-- A sink that failed behind the first three bytes of the header, inside the row, and behind one byte of the end.
pub part_of_header : Unwritten default_limits columns (canonical_front unknown columns) (λ written. written ≡ 80 ∷ 71 ∷ 67 ∷ []) plain
part_of_header = in_header plain_is_header (record { front = 80 ∷ 71 ∷ 67 ∷ []; rest = _; is = refl; missing = lit≤ tt; written = refl })

pub part_of_row : Unwritten default_limits columns (canonical_front unknown columns) (λ written. written ≡ plain ++ 0 ∷ 1 ∷ 0 ∷ []) (plain ++ 0 ∷ 1 ∷ field_42)
part_of_row = in_row [] values (0 ∷ 1 ∷ field_42) front_42 one_within refl (record { front = 0 ∷ 1 ∷ 0 ∷ []; rest = 0 ∷ 0 ∷ 4 ∷ 0 ∷ 0 ∷ 0 ∷ 42 ∷ []; is = refl; missing = lit≤ tt; written = refl })

pub part_of_end : Unwritten default_limits columns (canonical_front unknown columns) (λ written. written ≡ plain ++ 0 ∷ 1 ∷ field_42 ++ 255 ∷ []) (plain ++ 0 ∷ 1 ∷ field_42 ++ 255 ∷ 255 ∷ [])
part_of_end = in_end (values ∷ []) (plain ++ 0 ∷ 1 ∷ field_42) front_42 one_within refl (inl (record { front = 255 ∷ []; rest = 255 ∷ []; is = refl; missing = lit≤ tt; written = refl }))

-- and one that was not settled behind all of the end
pub unsettled_end : Unwritten default_limits columns (canonical_front unknown columns) (λ written. written ≡ plain ++ 0 ∷ 1 ∷ field_42 ++ 255 ∷ 255 ∷ []) (plain ++ 0 ∷ 1 ∷ field_42 ++ 255 ∷ 255 ∷ [])
unsettled_end = in_end (values ∷ []) (plain ++ 0 ∷ 1 ∷ field_42) front_42 one_within refl (inr refl)

-- A header of which all was written is not one in which the sink failed.
pub whole_header : WroteFront (λ written. written ≡ plain) plain → ⊥
whole_header f = omega (arith, f.missing, ap length f.is, length-append f.front f.rest, ap length f.written)

-- That is what a write fault says.
pub write_fault : fault_says default_limits columns (canonical_front unknown columns) WriteFault (λ written. written ≡ plain ++ 0 ∷ 1 ∷ 0 ∷ []) (plain ++ 0 ∷ 1 ∷ field_42)
write_fault = inr (inr (refl, part_of_row))
