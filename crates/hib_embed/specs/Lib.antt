pub mod Words
pub mod Lines
pub mod Unserved
pub mod Start
pub mod Calls
pub mod Rooms
