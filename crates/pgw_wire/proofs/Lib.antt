pub mod Lists
pub mod Numbers
pub mod Taking
pub mod Adding
mod WorkedRefusals
pub mod Lending
