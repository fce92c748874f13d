pub mod Counts
pub mod Statistics
pub mod Places
pub mod Told
pub mod Heard
