pub mod Exact
pub mod Cutting
pub mod Beginnings
pub mod ArrayFields
pub mod Excluded
pub mod Canonical
pub mod Breaking
pub mod WorkedArrays
mod Begun
pub mod ReadingOn
pub mod Refusals
pub mod Writings
pub mod RangeFields
pub mod Counted
pub mod MultirangeFields
pub mod RangeCanonical
pub mod RangeBreaking
pub mod WorkedRanges
pub mod Steps
pub mod Cut
pub mod Bounds
pub mod RangeWritings
mod RangesRead
