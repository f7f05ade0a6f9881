pub mod Among
pub mod Listed
pub mod Page
pub mod Words
