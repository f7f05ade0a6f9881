pub mod Brief
pub mod CoreItems
pub mod Known
pub mod Part
pub mod Top
