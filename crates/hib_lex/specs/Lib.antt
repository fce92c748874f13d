pub mod Tokens
pub mod Parts
pub mod Lines
pub mod Words
