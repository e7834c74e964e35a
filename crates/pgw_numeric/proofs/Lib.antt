pub mod Fields
pub mod Exact
pub mod Parts
pub mod Excluded
mod WorkedFields
