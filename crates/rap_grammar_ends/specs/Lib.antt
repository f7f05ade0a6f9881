pub mod Dots
pub mod Mixed
pub mod StandsIn
