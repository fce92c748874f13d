pub mod Answers
pub mod Kept
pub mod Sessions
pub mod Last
