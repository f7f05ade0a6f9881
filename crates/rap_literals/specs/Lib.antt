pub mod Cut
pub mod Literal
pub mod Number
pub mod Piece
pub mod Reading
pub mod Suffix
pub mod Value
