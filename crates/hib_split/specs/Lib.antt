pub mod Gathered
pub mod Alone
pub mod Ended
