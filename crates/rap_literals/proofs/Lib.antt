pub mod CharacterValues
pub mod Cuts
pub mod Literals
pub mod Numbers
pub mod OneCut
pub mod OneReading
pub mod Pieces
pub mod StringValues
