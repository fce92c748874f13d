pub mod Facts
pub mod Texts
pub mod States
pub mod Here
pub mod Seats
pub mod Last
