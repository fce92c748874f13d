pub mod Types
pub mod Stores
pub mod Last
