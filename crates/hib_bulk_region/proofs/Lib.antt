pub mod Replies
pub mod Grows
