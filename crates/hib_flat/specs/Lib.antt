pub mod Words
pub mod Parts
pub mod Members
pub mod Lines
pub mod Columns
pub mod Forms
