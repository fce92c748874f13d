pub mod Crossing
pub mod Captured
