pub mod Entries
pub mod Guesses
