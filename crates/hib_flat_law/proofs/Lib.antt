pub mod Printed
pub mod Facts
pub mod Fine
pub mod Looks
pub mod Acts
pub mod Replies
pub mod Whole
pub mod Feeds
