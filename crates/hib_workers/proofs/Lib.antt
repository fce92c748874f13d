pub mod Captured
pub mod Turns
pub mod Crossing
