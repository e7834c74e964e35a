pub mod Names
pub mod Tokens
pub mod Notation
pub mod Faults
pub mod Reading
pub mod Checking
pub mod Views
