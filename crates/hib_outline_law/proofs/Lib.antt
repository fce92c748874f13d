pub mod Conditions
pub mod Queries
pub mod Acts
pub mod Replies
pub mod Texts
pub mod Whole
