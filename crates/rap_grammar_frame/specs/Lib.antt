pub mod Climb
pub mod Grew
pub mod Room
pub mod Rules
