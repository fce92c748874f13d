pub mod Placings
pub mod Together
pub mod Certain
pub mod Pairs
