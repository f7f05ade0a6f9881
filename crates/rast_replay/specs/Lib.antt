pub mod Hash
pub mod Row
pub mod Way
pub mod Words
