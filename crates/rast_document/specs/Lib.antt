pub mod Changes
pub mod Indexed
pub mod Lines
pub mod Places
pub mod Units
