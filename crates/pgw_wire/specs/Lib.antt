pub mod Cell
pub mod Memory
pub mod Outside
pub mod Output
pub mod Reading
pub mod Refusal
pub mod Room
