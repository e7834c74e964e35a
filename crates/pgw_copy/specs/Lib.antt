pub mod Format
pub mod Places
pub mod Reader
pub mod State
