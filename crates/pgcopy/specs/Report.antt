-- The line and the status that tell what a run came to.
use Rattle.std.specs.Prelude.{ℕ, zero, suc, ◌/◌, ◌%◌, List, [], ◌∷◌, ◌++◌, slice_index, codes, decimal, ◌⊎◌, Option, None, Some}
use Rattle.std.specs.Fmt.{signed_decimal}
use Rattle.pgw_wire.specs.Outside.{SinkState, HasFailed, Wrote, WroteFront}
use Rattle.pgw_wire.specs.declared.kind.Break.{Break}
use Rattle.pgw_wire.specs.declared.kind.Break.TheVariants.{Null, Size, Count, Utf8, Sign, Family, Prefix, ZeroOid, Dimensions, Surplus}
use Rattle.pgw_meta.specs.Known.{Key}
use Rattle.pgw_meta.specs.Keys.{owned_key}
use Rattle.pgw_tree.specs.declared.fault.CopyFault.{CopyFault}
use Rattle.pgw_tree.specs.declared.fault.CopyFault.TheVariants.{BadHeader, BadFlags, Truncated, BadFieldCount, UnexpectedEndOfRow, BadValue, TooLong, RowLimit, UnknownType, LookupFault, ReadFault, WriteFault, NoMemory}
use Rattle.pgcopy.specs.declared.words.WordFault.{WordFault}
use Rattle.pgcopy.specs.declared.words.WordFault.TheVariants.{NoCommand, UnknownCommand, BadNumber, Repeated, BadOid, BadType, DeepType, NoTypes, Schema, NotYet}
use Rattle.pgcopy.specs.declared.report.Outcome.{Outcome}
use Rattle.pgcopy.specs.declared.report.Outcome.TheVariants.{Copied, BadWord, Fault}
use Rattle.pgcopy.specs.declared.report.Status.{Status}
use Rattle.pgcopy.specs.declared.report.Status.TheVariants.{Copied as status_copied, Words as status_words, Refused as status_refused, Outside as status_outside, UnknownType as status_unknown_type, NoMemory as status_no_memory}

abbrev pub code_of : Status → ℕ
code_of status_copied = 0
code_of status_words = 1
code_of status_refused = 2
code_of status_outside = 3
code_of status_unknown_type = 4
code_of status_no_memory = 5

-- A fault of the lookup, of the source or of the sink, a type that is not known, and want of memory say nothing of the
-- stream. Each other fault refuses it.
abbrev pub fault_status : CopyFault → Status
fault_status (UnknownType key) = status_unknown_type
fault_status LookupFault = status_outside
fault_status ReadFault = status_outside
fault_status WriteFault = status_outside
fault_status NoMemory = status_no_memory
fault_status _ = status_refused

abbrev pub status_of : Outcome → Status
status_of (Copied rows) = status_copied
status_of (BadWord place fault) = status_words
status_of (Fault fault) = fault_status fault

abbrev pub fault_text : WordFault → List ℕ
fault_text NoCommand = codes "missing command"
fault_text UnknownCommand = codes "unknown command"
fault_text BadNumber = codes "bad number"
fault_text Repeated = codes "repeated option"
fault_text BadOid = codes "bad oid word"
fault_text (BadType place) = codes "bad type at " ++ decimal place
fault_text (DeepType place) = codes "type too deep at " ++ decimal place
fault_text NoTypes = codes "missing type"
fault_text (Schema number) = codes "schema fault " ++ decimal number
fault_text NotYet = codes "not supported yet"

-- the last hexadecimal digits of a number, this many of them, the most significant first
abbrev pub hexadecimal : ℕ → ℕ → List ℕ
hexadecimal zero number = []
hexadecimal (suc count) number =
    hexadecimal count (number / 16) ++ slice_index (codes "0123456789ABCDEF") (number % 16) ∷ []

-- all digits of the 32 bits of a header's flags
abbrev pub flags_text : ℕ → List ℕ
flags_text flags = hexadecimal 8 flags

abbrev pub kind_text : Break → List ℕ
kind_text Null = codes "null"
kind_text Size = codes "size"
kind_text Count = codes "count"
kind_text Utf8 = codes "utf8"
kind_text Sign = codes "sign"
kind_text Family = codes "family"
kind_text Prefix = codes "prefix"
kind_text ZeroOid = codes "zero oid"
kind_text Dimensions = codes "dimensions"
kind_text Surplus = codes "surplus"

-- where a field stands, and then what is wrong with it
abbrev pub field_text : ℕ → ℕ → List ℕ → List ℕ
field_text row column text = codes "row " ++ decimal row ++ codes " column " ++ decimal column ++ codes ": " ++ text

-- the name of a type, behind that of its schema and a point where one is said
abbrev pub key_text : Option (List ℕ) → List ℕ → List ℕ
key_text None name = name
key_text (Some schema) name = schema ++ codes "." ++ name

abbrev pub unknown_text : Key → List ℕ
unknown_text key = codes "unknown type " ++ key_text key.schema key.name

abbrev pub copy_fault_text : CopyFault → List ℕ
copy_fault_text BadHeader = codes "bad header"
copy_fault_text (BadFlags flags) = codes "bad flags " ++ flags_text flags
copy_fault_text Truncated = codes "truncated"
copy_fault_text (BadFieldCount count) = codes "bad field count " ++ signed_decimal count
copy_fault_text (UnexpectedEndOfRow row) = codes "row " ++ decimal row ++ codes ": too few fields"
copy_fault_text (BadValue row column kind) = field_text row column (kind_text kind)
copy_fault_text (TooLong row column) = field_text row column (codes "too long")
copy_fault_text RowLimit = codes "row limit"
copy_fault_text (UnknownType key) = unknown_text (owned_key key)
copy_fault_text LookupFault = codes "lookup fault"
copy_fault_text ReadFault = codes "read fault"
copy_fault_text WriteFault = codes "write fault"
copy_fault_text NoMemory = codes "out of memory"

abbrev pub outcome_text : Outcome → List ℕ
outcome_text (Copied rows) = codes "rows " ++ decimal rows
outcome_text (BadWord place fault) = codes "word " ++ decimal place ++ codes ": " ++ fault_text fault
outcome_text (Fault fault) = copy_fault_text fault

abbrev pub line_of : Outcome → List ℕ
line_of outcome = outcome_text outcome ++ codes "\n"

-- These bytes were written, or the sink failed and a front of them was.
abbrev pub WroteUnlessFailed : {Origin : Type 0} → SinkState Origin → SinkState Origin → List ℕ → Type 0
WroteUnlessFailed before now bytes =
    Wrote before now bytes ⊎ (WroteFront (Wrote before now) bytes × HasFailed before now)
