pub mod Listed
pub mod Copied
pub mod Stored
pub mod Run
