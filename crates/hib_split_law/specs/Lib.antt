pub mod Apart
pub mod Merged
