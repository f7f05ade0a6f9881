pub mod HaveShapes
pub mod Parts
pub mod Shapes
pub mod Spelled
pub mod Whole
