pub mod AskedName
pub mod EntryName
pub mod Listed
pub mod Lists
pub mod Printed
pub mod Prints
pub mod Shown
