pub mod Changed
pub mod Widened
