pub mod Derives
pub mod Inclusion
pub mod Laws
pub mod MacroCall
pub mod WithoutBlocks
