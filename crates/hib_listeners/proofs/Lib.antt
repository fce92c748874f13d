pub mod Places
pub mod Counted
pub mod Telling
pub mod Hearing
