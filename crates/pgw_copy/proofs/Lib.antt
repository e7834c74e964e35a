pub mod Buffers
pub mod Headers
pub mod Fields
pub mod Places
pub mod Reading
pub mod Worked
