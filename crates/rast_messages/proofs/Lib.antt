-- Lemmas of the messages.
pub mod Escapes
pub mod Numbers
