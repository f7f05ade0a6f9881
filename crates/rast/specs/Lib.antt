pub mod Pending
pub mod Ran
pub mod RangedLines
