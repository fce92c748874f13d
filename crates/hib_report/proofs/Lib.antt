pub mod Passed
pub mod Watched
pub mod Keys
pub mod Fated
pub mod Whole
pub mod Sent
pub mod Chosen
