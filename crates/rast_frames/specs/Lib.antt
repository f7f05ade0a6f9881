pub mod Header
pub mod Fronts
pub mod Reading
pub mod Stream
