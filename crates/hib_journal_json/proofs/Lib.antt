pub mod Guesses
pub mod Journals
