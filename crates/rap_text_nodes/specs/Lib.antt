pub mod Shown
pub mod TextNodes
