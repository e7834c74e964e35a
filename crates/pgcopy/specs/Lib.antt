pub mod Report
pub mod WordsRead
pub mod Numbers
pub mod OidWords
pub mod Words
pub mod Runs
pub mod Lent
