pub mod Effects
pub mod Labels
pub mod Skipping
