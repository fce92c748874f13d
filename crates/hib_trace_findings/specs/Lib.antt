pub mod Judged
pub mod Updates
