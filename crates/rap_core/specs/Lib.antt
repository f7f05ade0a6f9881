pub mod Derived
pub mod Listed
pub mod Nodes
pub mod Walked
