pub mod Closing
pub mod EntryShapes
pub mod EntryTrees
pub mod Parsed
