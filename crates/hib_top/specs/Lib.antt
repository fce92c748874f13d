pub mod Words
pub mod Running
pub mod Making
pub mod Auditing
pub mod Call
