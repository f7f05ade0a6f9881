pub mod Atoms
pub mod Missing
