pub mod Promises
pub mod Ranges
pub mod Repeats
pub mod Tried
pub mod Stated
