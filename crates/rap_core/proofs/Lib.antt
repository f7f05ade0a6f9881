pub mod Derivations
pub mod Reported
pub mod Walks
