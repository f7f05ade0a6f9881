pub mod OneAnswer
pub mod Refusal
pub mod Script
pub mod ScriptFault
pub mod ScriptPlaces
