pub mod Lines
pub mod Unsound
pub mod Watch
pub mod Fates
pub mod Report
pub mod Sending
