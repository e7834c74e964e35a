pub mod RecordFields
pub mod Excluded
pub mod Breaking
pub mod WorkedRecords
mod Refusals
mod MembersRead
mod MembersWritten
