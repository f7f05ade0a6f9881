pub mod Alone
pub mod Nodes
