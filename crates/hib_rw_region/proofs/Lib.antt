pub mod Queues
pub mod Writes
pub mod Victims
pub mod Stands
pub mod Answers
pub mod Grows
