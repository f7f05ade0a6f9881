pub mod Appended
pub mod Inert
pub mod RowsAlong
pub mod Shown
