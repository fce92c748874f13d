pub mod Events
pub mod Rows
pub mod Words
pub mod Members
pub mod Faults
pub mod Lines
