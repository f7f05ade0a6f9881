pub mod Steps
pub mod Walk
