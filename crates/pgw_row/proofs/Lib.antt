pub mod ResultFields
pub mod Named
pub mod Ragged
mod WorkedRows
mod WorkedBuilding
mod WorkedResults
mod WorkedErrors
