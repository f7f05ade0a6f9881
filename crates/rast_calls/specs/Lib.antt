pub mod Built
pub mod Closed
pub mod Held
pub mod Listed
pub mod Made
pub mod Page
