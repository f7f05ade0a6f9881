pub mod LeafKinds
pub mod Nodes
pub mod Placed
