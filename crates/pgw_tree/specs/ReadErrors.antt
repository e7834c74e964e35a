-- The fault of a copy that an error of its reader is.
use Rattle.pgw_copy.specs.declared.fault.CopyReadError.{CopyReadError}
use Rattle.pgw_copy.specs.declared.fault.CopyReadError.TheVariants.{BadHeader, BadFlags, Truncated, BadFieldCount, ReadFault, NoMemory}
use Rattle.pgw_tree.specs.declared.fault.CopyFault.{CopyFault}
use Rattle.pgw_tree.specs.declared.fault.CopyFault.TheVariants.{BadHeader as bad_header, BadFlags as bad_flags, Truncated as truncated, BadFieldCount as bad_field_count, ReadFault as read_fault, NoMemory as no_memory}

abbrev pub fault_of : CopyReadError → CopyFault
fault_of BadHeader = bad_header
fault_of (BadFlags flags) = bad_flags flags
fault_of Truncated = truncated
fault_of (BadFieldCount count) = bad_field_count count
fault_of ReadFault = read_fault
fault_of NoMemory = no_memory
