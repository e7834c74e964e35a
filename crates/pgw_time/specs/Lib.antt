pub mod Interval
pub mod Refusals
