pub mod Claims
pub mod Code
pub mod Decode
pub mod Excluders
pub mod Guards
pub mod Meaning
pub mod Rows
