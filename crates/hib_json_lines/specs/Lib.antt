pub mod Line
pub mod Members
