pub mod Calls
pub mod Closed
pub mod EntryScript
pub mod Fault
pub mod Headline
pub mod Reparsed
