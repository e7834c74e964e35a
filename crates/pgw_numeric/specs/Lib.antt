pub mod Numeric
pub mod Refusals
pub mod Field
pub mod Written
