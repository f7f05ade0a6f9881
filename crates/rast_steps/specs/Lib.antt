pub mod Page
pub mod Request
