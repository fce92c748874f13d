pub mod Merging
pub mod Tearing
