pub mod IntervalFields
pub mod WorkedFields
pub mod Excluded
