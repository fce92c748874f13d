pub mod Loops
pub mod Pending
