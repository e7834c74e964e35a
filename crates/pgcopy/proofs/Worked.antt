-- What the definitions say of lines that are written out.
use Rattle.std.specs.Fmt.{digits}
use Rattle.std.proofs.Common.{◌≡◌, negsuc, codes, refl}
use Rattle.pgw_wire.specs.declared.kind.Break.TheVariants.{Null, ZeroOid}
use Rattle.pgw_tree.specs.declared.fault.CopyFault.TheVariants.{BadFlags, BadFieldCount, UnexpectedEndOfRow, BadValue, TooLong}
use Rattle.pgcopy.specs.declared.report.Outcome.TheVariants.{Fault}
use Rattle.pgcopy.specs.Report.{flags_text, line_of}

-- Flags are eight digits, with leading zeros and capitals.
pub flags_of_one_bit : flags_text 65536 ≡ codes "00010000"
flags_of_one_bit = refl

pub flags_of_all_digits : flags_text 2882343476 ≡ codes "ABCD1234"
flags_of_all_digits = refl

pub greatest_flags : line_of (Fault (BadFlags 4294967295)) ≡ codes "bad flags FFFFFFFF\n"
greatest_flags = refl

-- A count is written with its sign.
pub count_below_the_end : line_of (Fault (BadFieldCount (negsuc 1))) ≡ codes "bad field count -2\n"
unfolding digits
count_below_the_end = refl

pub least_count : line_of (Fault (BadFieldCount (negsuc 32767))) ≡ codes "bad field count -32768\n"
unfolding digits
least_count = refl

-- Rows and columns are written as they are counted, from 0.
pub null_field : line_of (Fault (BadValue 3 1 Null)) ≡ codes "row 3 column 1: null\n"
unfolding digits
null_field = refl

pub zero_oid_field : line_of (Fault (BadValue 0 10 ZeroOid)) ≡ codes "row 0 column 10: zero oid\n"
unfolding digits
zero_oid_field = refl

pub long_field : line_of (Fault (TooLong 12 0)) ≡ codes "row 12 column 0: too long\n"
unfolding digits
long_field = refl

pub short_row : line_of (Fault (UnexpectedEndOfRow 18446744073709551615)) ≡ codes "row 18446744073709551615: too few fields\n"
unfolding digits
short_row = refl
