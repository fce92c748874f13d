pub mod Begun
pub mod Made
pub mod Later
pub mod Due
pub mod Covers
pub mod Tally
pub mod Search
