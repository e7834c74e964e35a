pub mod Rows
pub mod RowReading
pub mod Building
pub mod Results
pub mod ResultRows
pub mod ErrorInformation
pub mod ErrorKinds
