pub mod Statements
pub mod Sessions
pub mod Names
pub mod Served
