pub mod Inert
pub mod Json
pub mod Page
pub mod Ran
pub mod Rows
pub mod Takes
pub mod Words
