pub mod Scans
pub mod Parts
pub mod Texts
pub mod Lexed
