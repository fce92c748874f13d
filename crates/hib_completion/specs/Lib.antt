pub mod Completed
pub mod Touched
