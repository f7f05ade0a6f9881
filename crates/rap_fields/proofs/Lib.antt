pub mod Amounts
pub mod Filled
pub mod Finds
pub mod Places
pub mod Searches
pub mod Splits
