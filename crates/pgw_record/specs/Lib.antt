pub mod Record
pub mod Pieces
pub mod Members
pub mod Written
pub mod Reading
