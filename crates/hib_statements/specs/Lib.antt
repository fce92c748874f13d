pub mod Parts
pub mod Statements
pub mod Rows
pub mod Orders
pub mod Places
