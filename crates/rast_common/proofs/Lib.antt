mod Blocks
mod Ending
mod Spelling
pub mod Fronts
